-- What a book stands for, and how each of its calls closes.
use Rattle.std.specs.Prelude.{◌≡◌, ℕ, List, length, Result}
use Rattle.market.specs.declared.acceptance.Acceptance.{Acceptance}
use Rattle.market.specs.declared.order.Order.{Order}
use Rattle.market.specs.declared.refusal.Refusal.{Refusal}
use Rattle.market.specs.declared.row.Row.{Row}
use Rattle.market.specs.BookCalls.{BookState}
use Rattle.market.specs.Endings.{done, Follows}
use Rattle.book.specs.declared.book.Book.{Book}
use Rattle.book.specs.declared.told.Told.{Told}
use Rattle.book.specs.Held.{held}
use Rattle.book.specs.Reports.{Holds, SameReport}

-- the resting orders, and the next number
abbrev pub book_state : Book → BookState
book_state b = record { orders = held b.resting; next = b.next }

-- whatever rows are told, the call ends with them, this acceptance and the draft's orders, or is refused since they do not fit
pub record Closes (before : BookState) (accepted : Acceptance) (os : List Order) (next : ℕ) (t : Told) (answer : Result (ℕ × ℕ) Refusal) (t' : Told) (after : BookState) : Type 0 where
  pub report : SameReport t t'
  pub closes : (told : List Row) → Holds t told →
      Follows (λ e. e ≡ done (record { accepted = accepted; rows = told; after = record { orders = os; next = next } })) before (length t.rows.now) answer t'.rows.now after
