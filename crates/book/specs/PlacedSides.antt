-- The sides of a quote, placed once its old sides are settled.
use Rattle.std.specs.Prelude.{◌≡◌, ℕ, ◌+◌, ◌≤◌, true, List, ◌++◌, Ok, Err, Option, Result}
use Rattle.market.specs.declared.arrival.Arrival.{Arrival}
use Rattle.market.specs.declared.leg.Leg.{Leg}
use Rattle.market.specs.declared.order.Order.{Order}
use Rattle.market.specs.declared.quote.Quote.{Quote}
use Rattle.market.specs.declared.refusal.Refusal.{Refusal}
use Rattle.market.specs.declared.refusal.Refusal.TheVariants.{BookFull}
use Rattle.market.specs.declared.row.Row.{Row}
use Rattle.market.specs.BookCalls.{BookState, NoRoom}
use Rattle.market.specs.Endings.{refused}
use Rattle.market.specs.Quoting.{bid_of, offer_of, is_new, needs, RevisesOld, PlacesSide, Quotes}
use Rattle.market.specs.Revisions.{Revision}
use Rattle.book.specs.declared.placing.Placed.{Placed}
use Rattle.book.specs.declared.placing.PlacedSides.{PlacedSides}
use Rattle.book.specs.declared.placing.Placing.{Placing}
use Rattle.book.specs.declared.side_numbers.SideNumbers.{SideNumbers}
use Rattle.book.specs.declared.told.Told.{Told}
use Rattle.book.specs.OldSides.{side_number}
use Rattle.book.specs.Reports.{Tells}
use Rattle.book.specs.Settling.{TakenBack}

-- the orders, and the number that the next one gets
abbrev pub state_at : List Order → Placing → BookState
state_at os at = record { orders = os; next = at.next }

module _ (shares : List ℕ → ℕ → List ℕ) (cs : List (List Leg)) (a : Arrival) (at : Placing) (os : List Order) (t : Told) where
  -- the side is placed, and its rows are told
  pub record PlacedSide (v : Revision) (p : Placed) (os' : List Order) (t' : Told) : Type 0 where
    pub rows : List Row
    pub places : PlacesSide shares cs at.next_fill (state_at os at) a v p.number rows p.after.next_fill (state_at os' p.after)
    pub more : Tells t rows t'

  -- it is new, and no room is left for it
  pub record NotPlaced (v : Revision) (e : Refusal) (t' : Told) : Type 0 where
    pub refusal : e ≡ BookFull
    pub new : is_new a v ≡ true
    pub no_room : NoRoom shares cs at.next_fill (state_at os at) a
    pub back : TakenBack t t'

  -- the one or the other
  abbrev pub PlacedBy : Revision → Result Placed Refusal → List Order → Told → Type 0
  PlacedBy v (Ok p) os' t' = PlacedSide v p os' t'
  PlacedBy v (Err e) os' t' = NotPlaced v e t'

  -- whatever has become of the old side, where the side has this number or none, it is placed by the market's rules
  pub record SidePlaced (number : Option ℕ) (r : Result Placed Refusal) (os' : List Order) (t' : Told) : Type 0 where
    pub places : (v : Revision) → number ≡ side_number a v → PlacedBy v r os' t'

module _ (shares : List ℕ → ℕ → List ℕ) (cs : List (List Leg)) (k : Quote) (next : ℕ) (os : List Order) (t : Told) where
  -- both sides are placed, first the bid, and their rows are told
  pub record PlacedBoth (u v : Revision) (p : PlacedSides) (os' : List Order) (t' : Told) : Type 0 where
    pub between : List Order
    pub bid_rows : List Row
    pub offer_rows : List Row
    pub bid : PlacesSide shares cs 1 (record { orders = os; next = next }) (bid_of k) u p.bid.number bid_rows p.bid.after.next_fill (state_at between p.bid.after)
    pub offer : PlacesSide shares cs p.bid.after.next_fill (state_at between p.bid.after) (offer_of k) v p.offer.number offer_rows p.offer.after.next_fill (state_at os' p.offer.after)
    pub more : Tells t (bid_rows ++ offer_rows) t'

  -- no room is left for one of them, so a quote that has come so far is refused
  pub record NotBoth (u v : Revision) (e : Refusal) (t' : Told) : Type 0 where
    pub refused : (m : BookState) (rows : List Row) → m.next ≡ next → RevisesOld (bid_of k) (offer_of k) m.orders u v rows os →
        m.next + (needs (bid_of k) u + needs (offer_of k) v) ≤ 100000 → Quotes shares cs m k (refused e)
    pub back : TakenBack t t'

  -- the one or the other
  abbrev pub BothBy : Revision → Revision → Result PlacedSides Refusal → List Order → Told → Type 0
  BothBy u v (Ok p) os' t' = PlacedBoth u v p os' t'
  BothBy u v (Err e) os' t' = NotBoth u v e t'

  -- whatever has become of the old sides, where the sides have these numbers, they are placed by the market's rules
  pub record SidesPlaced (numbers : SideNumbers) (r : Result PlacedSides Refusal) (os' : List Order) (t' : Told) : Type 0 where
    pub places : (u v : Revision) → numbers.bid ≡ side_number (bid_of k) u → numbers.offer ≡ side_number (offer_of k) v → BothBy u v r os' t'
