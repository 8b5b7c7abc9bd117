-- What becomes of a resting order that is given a new quantity and price.
use Rattle.std.specs.Prelude.{◌≡◌, ℕ, ◌-◌, Bool, true, false, ◌&&◌, List, [], ◌∷◌, ◌++◌, nat_lt, nat_le}
use Rattle.std.specs.List.{All}
use Rattle.market.specs.declared.order.Order.{Order}
use Rattle.market.specs.declared.price.Price.{Price}
use Rattle.market.specs.declared.row.Row.{Row}
use Rattle.market.specs.Orders.{quantity_of, sized}
use Rattle.market.specs.Prices.{same_price}
use Rattle.market.specs.Rows.{some_rows, cancel_row}

-- it stays where it is: something is wanted, at the same price, and no more than rests
abbrev pub stays : ℕ → Price → Order → Bool
stays q r o = nat_lt 0 q && (same_price o.price r && nat_le q (quantity_of o))

-- an order is cut to q: the difference is cancelled, with no row for 0
abbrev pub cut_rows : Order → ℕ → List Row
cut_rows o q = some_rows (quantity_of o - q) (cancel_row (sized o (quantity_of o - q)) ∷ [])

-- there was no such order; it keeps its place and this number; or it is cancelled
pub data Revision : Type 0 where
  absent : Revision
  kept : ℕ → Revision
  cancelled : Order → Revision

-- Revises test q r os v rows os': of the orders os, the first that passes the test is to have the quantity q and the price r; v is what becomes of it, with these rows, and os' are the orders then
pub data Revises (test : Order → Bool) (q : ℕ) (r : Price) (os : List Order) : Revision → List Row → List Order → Type 0 where
  -- no order passes
  none : All (λ o. test o ≡ false) os → Revises test q r os absent [] os
  -- the same price and no larger quantity: it keeps its place and number, and the difference is cancelled
  keeps : (before : List Order) (o : Order) (behind : List Order) → os ≡ before ++ (o ∷ behind) → All (λ x. test x ≡ false) before → test o ≡ true →
      stays q r o ≡ true → Revises test q r os (kept o.number) (cut_rows o q) (before ++ (sized o q ∷ behind))
  -- in any other case all that rests of it is cancelled
  cancels : (before : List Order) (o : Order) (behind : List Order) → os ≡ before ++ (o ∷ behind) → All (λ x. test x ≡ false) before → test o ≡ true →
      stays q r o ≡ false → Revises test q r os (cancelled o) (cancel_row o ∷ []) (before ++ behind)
