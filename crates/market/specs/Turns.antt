-- One call of a session, and what is read off its report.
use Rattle.std.specs.Prelude.{ℕ, Bool, true, false, cond, ◌&&◌, ◌||◌, List, Result, ◌==◌}
use Rattle.std.specs.List.{sum_by}
use Rattle.market.specs.declared.order.Order.{Order}
use Rattle.market.specs.declared.refusal.Refusal.{Refusal}
use Rattle.market.specs.declared.row.Row.{Row}
use Rattle.market.specs.declared.row.RowKind.{RowKind}
use Rattle.market.specs.declared.row.RowKind.TheVariants as kind
use Rattle.market.specs.Orders.{is_instrument, quantity_of}

-- one call: the message, how many rows its report has, the answer, and all rows
pub record Turn (Message : Type 0) : Type 0 where
  pub message : Message
  pub room : ℕ
  pub answer : Result (ℕ × ℕ) Refusal
  pub rows : List Row

-- ---- what is read off the reports

-- rows that trade contracts
abbrev pub is_trade : RowKind → Bool
is_trade kind.Blank = false
is_trade kind.Trade = true
is_trade kind.Leg = false
is_trade kind.Combination = false
is_trade kind.Cancellation = false

-- rows that trade units of a combination
abbrev pub is_combination : RowKind → Bool
is_combination kind.Blank = false
is_combination kind.Trade = false
is_combination kind.Leg = false
is_combination kind.Combination = true
is_combination kind.Cancellation = false

-- rows that cancel
abbrev pub is_cancellation : RowKind → Bool
is_cancellation kind.Blank = false
is_cancellation kind.Trade = false
is_cancellation kind.Leg = false
is_cancellation kind.Combination = false
is_cancellation kind.Cancellation = true

-- the row names the order as buyer or seller
abbrev pub names : ℕ → Row → Bool
names n row = row.buyer == n || row.seller == n

-- rows that trade an order in the book of this number: contract trades for an instrument, combination trades for a combination
abbrev pub trades : ℕ → RowKind → Bool
trades i k = cond (is_instrument i) (is_trade k) (is_combination k)

-- the quantities of the rows of a kind that name the order n, added up
abbrev pub counted : (RowKind → Bool) → ℕ → List Row → ℕ
counted is n rows = sum_by (λ row. cond (is row.kind && names n row) row.quantity 0) rows

-- what rests of the order n
abbrev pub resting : ℕ → List Order → ℕ
resting n os = sum_by (λ o. cond (o.number == n) (quantity_of o) 0) os

-- what `counted` counts, added up over all reports so far
abbrev pub over : {Message : Type 0} → (RowKind → Bool) → ℕ → List (Turn Message) → ℕ
over is n h = sum_by (λ t. counted is n t.rows) h
