-- The old side of a quote, as a new quote settles it.
use Rattle.std.specs.Prelude.{◌≡◌, ℕ, cond, List, Some, None, Option}
use Rattle.market.specs.declared.arrival.Arrival.{Arrival}
use Rattle.market.specs.declared.order.Order.{Order}
use Rattle.market.specs.declared.quote.Quote.{Quote}
use Rattle.market.specs.declared.row.Row.{Row}
use Rattle.market.specs.Orders.{lot_size}
use Rattle.market.specs.Quoting.{bid_of, offer_of, old_side, RevisesOld, is_new, old_number}
use Rattle.market.specs.Revisions.{Revision, Revises}
use Rattle.book.specs.declared.side_numbers.SideNumbers.{SideNumbers}
use Rattle.book.specs.declared.told.Told.{Told}
use Rattle.book.specs.Reports.{Tells}

-- the number of a side of a quote, once its old side is settled; none where it is new
abbrev pub side_number : Arrival → Revision → Option ℕ
side_number a v = cond (is_new a v) None (Some (old_number v))

-- a side with no number needs one
abbrev pub numbers_needed : Option ℕ → ℕ
numbers_needed None = 1
numbers_needed (Some n) = 0

-- the old side keeps its place or is cancelled, its rows are told, and the answer is the number of the side
pub record OldSettled (a : Arrival) (os : List Order) (t : Told) (answer : Option ℕ) (os' : List Order) (t' : Told) : Type 0 where
  pub revision : Revision
  pub rows : List Row
  pub settles : Revises (old_side a) (lot_size a.lot) a.price os revision rows os'
  pub stands : answer ≡ side_number a revision
  pub more : Tells t rows t'

-- so do both old sides, first that of the bid
pub record BothSettled (quote : Quote) (os : List Order) (t : Told) (answer : SideNumbers) (os' : List Order) (t' : Told) : Type 0 where
  pub bid : Revision
  pub offer : Revision
  pub rows : List Row
  pub settles : RevisesOld (bid_of quote) (offer_of quote) os bid offer rows os'
  pub bid_stands : answer.bid ≡ side_number (bid_of quote) bid
  pub offer_stands : answer.offer ≡ side_number (offer_of quote) offer
  pub more : Tells t rows t'
