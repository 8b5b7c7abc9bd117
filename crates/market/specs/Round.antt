-- The round: resting combination orders take what the legs now offer.
use Rattle.std.specs.Prelude.{◌≡◌, ℕ, ◌+◌, Bool, true, false, ◌&&◌, ◌||◌, List, [], ◌∷◌, ◌++◌, filter, None, Some, Option, ◌==◌, nat_lt, int_lt}
use Rattle.std.specs.List.{All}
use Rattle.market.specs.declared.book_id.BookId.{BookId}
use Rattle.market.specs.declared.book_id.BookId.TheVariants.{Instrument, Combination}
use Rattle.market.specs.declared.leg.Leg.{Leg}
use Rattle.market.specs.declared.order.Order.{Order}
use Rattle.market.specs.declared.price.Price.{Price}
use Rattle.market.specs.declared.row.Row.{Row}
use Rattle.market.specs.declared.side.Side.{Side}
use Rattle.market.specs.declared.side.Side.TheVariants.{Buy, Sell}
use Rattle.market.specs.Combinations.{made}
use Rattle.market.specs.Ladders.{net_to, wanted}
use Rattle.market.specs.Levels.{still_open}
use Rattle.market.specs.Implied.{ImpliedFill}
use Rattle.market.specs.Orders.{lot_book, quantity_of, book_number, less}

-- the legs of what a book is for: an instrument has none
abbrev pub legs_of : List (List Leg) → BookId → Option (List Leg)
legs_of cs (Instrument i) = None
legs_of cs (Combination c) = made cs c

-- unit 1 is within the order's limit
abbrev pub eligible : List (List Leg) → List Order → Order → Bool
eligible cs os o = wanted o.side o.price None (net_to o (legs_of cs (lot_book o.lot)) os 1)

-- inside a combination: buy before sell, then the better price
abbrev pub side_first : Side → Side → Price → Price → Bool
side_first Buy Buy p q = int_lt q.0 p.0
side_first Buy Sell p q = true
side_first Sell Buy p q = false
side_first Sell Sell p q = int_lt p.0 q.0

-- the order x goes before the order y wherever they stand in the book: by combination number, then by side and price
abbrev pub precedes : Order → Order → Bool
precedes x y =
    let c = book_number (lot_book x.lot) in
    let d = book_number (lot_book y.lot) in
    nat_lt c d || (c == d && side_first x.side y.side x.price y.price)

-- o is the first of the eligible orders: it goes before those that stand ahead of it, and none behind it goes before it
pub record FirstEligible (cs : List (List Leg)) (os ahead : List Order) (o : Order) (behind : List Order) : Type 0 where
  pub stands : os ≡ ahead ++ (o ∷ behind)
  pub within : eligible cs os o ≡ true
  pub before : All (λ x. eligible cs os x ≡ true → precedes o x ≡ true) ahead
  pub after : All (λ x. eligible cs os x ≡ true → precedes x o ≡ false) behind

-- what is left of an order after k of it has traded, if anything
abbrev pub left_of : Order → ℕ → List Order
left_of o k = filter still_open (less o k ∷ [])

module _ (shares : List ℕ → ℕ → List ℕ) (cs : List (List Leg)) where
  -- Round f os rows f' os': from the next fill f and the book os, the round reports rows and ends with the next fill f' and the book os'
  pub data Round : ℕ → List Order → List Row → ℕ → List Order → Type 0 where
    -- no order is eligible
    over : {f : ℕ} {os : List Order} → All (λ o. eligible cs os o ≡ false) os → Round f os [] f os
    -- the first eligible order takes, in one implied-in fill, the longest run of units within its limit, up to its quantity; and on
    takes : {f u f' : ℕ} {os os' os'' : List Order} {rows rows' : List Row} (ahead : List Order) (o : Order) (behind : List Order) (legs : List Leg) →
        FirstEligible cs os ahead o behind → legs_of cs (lot_book o.lot) ≡ Some legs →
        ImpliedFill shares legs o None f (quantity_of o) u os (ahead ++ left_of o u ++ behind) rows os' →
        Round (f + 1) os' rows' f' os'' →
        Round f os (rows ++ rows') f' os''
