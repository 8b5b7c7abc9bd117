-- The round, fill by fill.
use Rattle.std.specs.Prelude.{◌≡◌, ℕ, ◌+◌, ◌<◌, Bool, true, false, not, ◌&&◌, ◌||◌, List, ◌++◌, length, take, drop, slice_index_or, Some, None, Option, ◌==◌, nat_lt}
use Rattle.std.specs.List.{All}
use Rattle.rules.specs.Domain.{total}
use Rattle.market.specs.declared.leg.Leg.{Leg}
use Rattle.market.specs.declared.order.Lot.{Lot}
use Rattle.market.specs.declared.order.Lot.TheVariants.{Outright, Combined}
use Rattle.market.specs.declared.order.Order.{Order}
use Rattle.market.specs.declared.row.Row.{Row}
use Rattle.market.specs.declared.side.Side.{Side}
use Rattle.market.specs.declared.side.Side.TheVariants.{Buy, Sell}
use Rattle.market.specs.Levels.{quantities}
use Rattle.market.specs.Orders.{lot_book, book_number}
use Rattle.market.specs.Round.{eligible, precedes, FirstEligible, Round}
use Rattle.book.specs.declared.told.Told.{Told}
use Rattle.book.specs.Reports.{Tells}

-- orders of a combination, and not of an instrument
abbrev pub combined : Lot → Bool
combined (Outright i q) = false
combined (Combined c q) = true

-- buy before sell
abbrev pub side_before : Side → Side → Bool
side_before Buy Buy = false
side_before Buy Sell = true
side_before Sell Buy = false
side_before Sell Sell = false

-- the combination and the side of x go before those of y
abbrev pub group_before : Order → Order → Bool
group_before x y =
    let c = book_number (lot_book x.lot) in
    let d = book_number (lot_book y.lot) in
    nat_lt c d || (c == d && side_before x.side y.side)

-- an order of a combination, quotes apart, whose turn comes after the combination and the side of the order last tried
abbrev pub waits : Option Order → Order → Bool
waits None o = combined o.lot && not o.quote
waits (Some x) o = combined o.lot && (not o.quote && group_before x o)

-- the order goes before the best so far, or there is none
abbrev pub leads : List Order → Order → Option ℕ → Bool
leads os o None = true
leads os o (Some i) = precedes o (slice_index_or os i o)

-- of the orders that pass the test, the first in turn stands at the place i
pub record FirstAmong (test : Order → Bool) (os : List Order) (i : ℕ) : Type 0 where
  pub inside : i < length os
  pub passes : (d : Order) → test (slice_index_or os i d) ≡ true
  pub before : (d : Order) (j : ℕ) → j < i → test (slice_index_or os j d) ≡ true → precedes (slice_index_or os i d) (slice_index_or os j d) ≡ true
  pub after : (d : Order) (j : ℕ) → j < length os → i < j → test (slice_index_or os j d) ≡ true → precedes (slice_index_or os j d) (slice_index_or os i d) ≡ false

-- the place of that order, or none where no order passes
abbrev pub FoundAmong : (Order → Bool) → List Order → Option ℕ → Type 0
FoundAmong test os None = All (λ o. test o ≡ false) os
FoundAmong test os (Some i) = FirstAmong test os i

-- the first eligible order stands at the place i
pub record FirstAt (cs : List (List Leg)) (os : List Order) (i : ℕ) : Type 0 where
  pub inside : i < length os
  pub first : (d : Order) → FirstEligible cs os (take i os) (slice_index_or os i d) (drop (i + 1) os)

-- the place of the first eligible order, or none where no order is eligible
abbrev pub EligibleFound : List (List Leg) → List Order → Option ℕ → Type 0
EligibleFound cs os None = All (λ o. eligible cs os o ≡ false) os
EligibleFound cs os (Some i) = FirstAt cs os i

module _ (shares : List ℕ → ℕ → List ℕ) (cs : List (List Leg)) where
  -- the first eligible order has taken its units in the fill f, and their rows are told: whatever round follows is one with this fill before it
  pub record RoundFilled (f : ℕ) (os : List Order) (t : Told) (os' : List Order) (t' : Told) : Type 0 where
    pub rows : List Row
    pub goes : (new : List Row) (f' : ℕ) (os'' : List Order) → Round shares cs (f + 1) os' new f' os'' → Round shares cs f os (rows ++ new) f' os''
    pub more : Tells t rows t'
    pub fewer : total (quantities os') < total (quantities os)

  -- one order has taken its units, or none is eligible and nothing is told
  abbrev pub RoundStepped : ℕ → List Order → Told → Bool → List Order → Told → Type 0
  RoundStepped f os t false os' t' = All (λ o. eligible cs os o ≡ false) os × (os' ≡ os) × (t' ≡ t)
  RoundStepped f os t true os' t' = RoundFilled f os t os' t'

  -- the round has ended, and its rows are told
  pub record Rounded (f : ℕ) (os : List Order) (t : Told) (os' : List Order) (t' : Told) : Type 0 where
    pub rows : List Row
    pub next_fill : ℕ
    pub run : Round shares cs f os rows next_fill os'
    pub more : Tells t rows t'
