-- A resting order that is given another quantity and price.
use Rattle.std.specs.Prelude.{◌≡◌, ℕ, Bool, List, Some, None, Option, position, slice_index_or}
use Rattle.market.specs.declared.order.Order.{Order}
use Rattle.market.specs.declared.price.Price.{Price}
use Rattle.market.specs.declared.row.Row.{Row}
use Rattle.market.specs.Revisions.{Revision, kept, cancelled, Revises}
use Rattle.book.specs.declared.told.Told.{Told}
use Rattle.book.specs.Reports.{Tells}

-- an order that is not given back has kept its place and number; the one given back is cancelled
abbrev pub revised_to : Order → Option Order → Revision
revised_to o None = kept o.number
revised_to o (Some x) = cancelled x

-- the order at the place i is given the quantity q and the price r, whichever test has found it there, and its rows are told
pub record Revised (i q : ℕ) (r : Price) (os : List Order) (t : Told) (answer : Option Order) (os' : List Order) (t' : Told) : Type 0 where
  pub rows : List Row
  pub revises : (test : Order → Bool) (d : Order) → position test os ≡ Some i → Revises test q r os (revised_to (slice_index_or os i d) answer) rows os'
  pub more : Tells t rows t'
