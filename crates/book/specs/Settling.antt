-- From the match of an arriving order to the round.
use Rattle.std.specs.Prelude.{◌≡◌, ℕ, ◌+◌, ◌<◌, ◌≤◌, List, [], ◌∷◌, ◌++◌, length, Ok, Err, Result}
use Rattle.market.specs.declared.arrival.Arrival.{Arrival}
use Rattle.market.specs.declared.call.Duration.TheVariants.{Day}
use Rattle.market.specs.declared.leg.Leg.{Leg}
use Rattle.market.specs.declared.order.Order.{Order}
use Rattle.market.specs.declared.refusal.Refusal.{Refusal}
use Rattle.market.specs.declared.refusal.Refusal.TheVariants.{BookFull}
use Rattle.market.specs.declared.row.Row.{Row}
use Rattle.market.specs.BookCalls.{BookState, Matches, Settles, NoRoom, Enters}
use Rattle.market.specs.Endings.{refused}
use Rattle.market.specs.Orders.{arriving, quantity_of, sized}
use Rattle.market.specs.Rows.{blank}
use Rattle.book.specs.declared.progress.Progress.{Progress}
use Rattle.book.specs.declared.told.Told.{Told}
use Rattle.book.specs.Reports.{Holds, SameReport, Tells}

-- how far an order may have come from the fill g on: no more is left than it had, and each fill traded something
pub record InBounds (g : ℕ) (o : Order) (at : Progress) : Type 0 where
  pub left : at.left ≤ quantity_of o
  pub fills : at.next_fill ≤ g + quantity_of o

-- ---- what is left of an order rests

-- it rests as the last, and no more is told
pub record RestsLast (o : Order) (at : Progress) (os : List Order) (t : Told) (p : Progress) (os' : List Order) (t' : Told) : Type 0 where
  pub so_far : p ≡ at
  pub free : length os < 256
  pub orders : os' ≡ os ++ sized o at.left ∷ []
  pub told : t' ≡ t

-- nothing stays told
pub record TakenBack (t t' : Told) : Type 0 where
  pub report : SameReport t t'
  pub wiped : t'.rows.now ≡ blank (length t'.rows.now)

-- 256 orders rest, so it is refused
pub record NotRested (os : List Order) (t : Told) (e : Refusal) (t' : Told) : Type 0 where
  pub refusal : e ≡ BookFull
  pub full : 256 ≤ length os
  pub back : TakenBack t t'

-- what is left of an order rests, or no room is left for it
abbrev pub Rested : Order → Progress → List Order → Told → Result Progress Refusal → List Order → Told → Type 0
Rested o at os t (Ok p) os' t' = RestsLast o at os t p os' t'
Rested o at os t (Err e) os' t' = NotRested os t e t'

-- ---- a day order arrives

module _ (shares : List ℕ → ℕ → List ℕ) (cs : List (List Leg)) (g : ℕ) (m : BookState) (a : Arrival) (t t' : Told) where
  -- it has come so far before the round, and its rows are told on top of any that were
  pub record ArrivedAt (at : Progress) (os : List Order) : Type 0 where
    pub rows : List Row
    pub settles : Settles shares cs g m a rows at.next_fill at.left os
    pub more : Tells t rows t'

  -- no room is left for it
  pub record TurnedAway (e : Refusal) : Type 0 where
    pub refusal : e ≡ BookFull
    pub no_room : NoRoom shares cs g m a
    pub back : TakenBack t t'

  -- the one or the other
  abbrev pub ArrivedBy : Result Progress Refusal → List Order → Type 0
  ArrivedBy (Ok at) os = ArrivedAt at os
  ArrivedBy (Err e) os = TurnedAway e

-- whatever day order this is, it has arrived by the market's rules, from the fill g on
pub record Arrived (shares : List ℕ → ℕ → List ℕ) (cs : List (List Leg)) (g : ℕ) (o : Order) (os : List Order) (t : Told) (r : Result Progress Refusal) (os' : List Order) (t' : Told) : Type 0 where
  pub arrives : (m : BookState) (a : Arrival) → m.orders ≡ os → o ≡ arriving a m.next → a.duration ≡ Day → ArrivedBy shares cs g m a t t' r os'

-- ---- an order enters, for any duration

module _ (shares : List ℕ → ℕ → List ℕ) (cs : List (List Leg)) (m : BookState) (a : Arrival) where
  -- an arriving order has come so far before the round, and its rows are told
  pub record SettledAt (at : Progress) (os : List Order) (t : Told) : Type 0 where
    pub rows : List Row
    pub settles : Settles shares cs 1 m a rows at.next_fill at.left os
    pub holds : Holds t rows

  -- an arriving order is settled, or it is refused and nothing is told
  abbrev pub Settled : Result Progress Refusal → List Order → Told → Type 0
  Settled (Ok at) os t = SettledAt at os t
  Settled (Err e) os t = Enters shares cs m a (refused e) × (t.rows.now ≡ blank (length t.rows.now))

-- whatever rule has led the order's match from the orders before to os, it is settled by the market's rules
pub record Settling (before : List Order) (n : ℕ) (a : Arrival) (at : Progress) (os : List Order) (t : Told) (r : Result Progress Refusal) (os' : List Order) (t' : Told) : Type 0 where
  pub report : SameReport t t'
  pub settled : (shares : List ℕ → ℕ → List ℕ) (cs : List (List Leg)) (rows : List Row) → n ≤ 99999 →
      Matches shares cs 1 (record { orders = before; next = n }) a rows at.next_fill at.left os → Holds t rows →
      Settled shares cs (record { orders = before; next = n }) a r os' t'
