-- Levels: the resting orders of one book, one side and one price, in book order.
use Rattle.std.specs.Prelude.{◌≡◌, ℕ, Bool, true, false, cond, ◌&&◌, List, [], ◌∷◌, map, filter, nat_lt}
use Rattle.std.specs.List.{All, Any}
use Rattle.market.specs.declared.book_id.BookId.{BookId}
use Rattle.market.specs.declared.order.Order.{Order}
use Rattle.market.specs.declared.price.Price.{Price}
use Rattle.market.specs.declared.side.Side.{Side}
use Rattle.market.specs.Orders.{stands, quantity_of, less}
use Rattle.market.specs.Prices.{opposite, good, same_price}

-- the order rests in this book, on this side, at this price
abbrev pub in_level : BookId → Side → Price → Order → Bool
in_level b s p o = stands b s o && same_price o.price p

-- the level: all such orders, in book order
abbrev pub level : BookId → Side → Price → List Order → List Order
level b s p os = filter (in_level b s p) os

-- what each order has open
abbrev pub quantities : List Order → List ℕ
quantities os = map quantity_of os

-- the best price to one who trades on side s: an order of the opposite side has it, and to s it is at least as good as that of any other
pub record Best (b : BookId) (s : Side) (os : List Order) (p : Price) : Type 0 where
  pub there : Any (λ o. (stands b (opposite s) o ≡ true) × (o.price ≡ p)) os
  pub none_better : All (λ o. stands b (opposite s) o ≡ true → good s p o.price ≡ true) os

-- no order of the opposite side has a price within the limit of one who trades on side s
abbrev pub NoneWithin : BookId → Side → Price → List Order → Type 0
NoneWithin b s limit os = All (λ o. stands b (opposite s) o ≡ true → good s o.price limit ≡ false) os

-- each order that passes the test less its share, one for each in book order; all others as found
abbrev pub reduced : (Order → Bool) → List Order → List ℕ → List Order
reduced test [] ks = []
reduced test (o ∷ os) [] = o ∷ os
reduced test (o ∷ os) (k ∷ ks) = cond (test o) (less o k ∷ reduced test os ks) (o ∷ reduced test os (k ∷ ks))

-- an order rests while it has something open
abbrev pub still_open : Order → Bool
still_open o = nat_lt 0 (quantity_of o)

-- the book after its level's orders have traded their shares
abbrev pub after_fill : (Order → Bool) → List Order → List ℕ → List Order
after_fill test os ks = filter still_open (reduced test os ks)
