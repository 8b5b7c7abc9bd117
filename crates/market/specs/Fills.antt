-- One fill at a level.
use Rattle.std.specs.Prelude.{◌≡◌, ℕ, min, false, List, Some, None, Option}
use Rattle.std.specs.List.{All}
use Rattle.rules.specs.Domain.{total}
use Rattle.market.specs.declared.book_id.BookId.{BookId}
use Rattle.market.specs.declared.order.Order.{Order}
use Rattle.market.specs.declared.price.Price.{Price}
use Rattle.market.specs.declared.side.Side.{Side}
use Rattle.market.specs.Levels.{in_level, level, quantities, Best, after_fill}
use Rattle.market.specs.Orders.{stands}
use Rattle.market.specs.Prices.{opposite}

-- the level that one on side s trades with at the price p
abbrev pub facing : BookId → Side → Price → List Order → List Order
facing b s p os = level b (opposite s) p os

-- what trades there of q: the smaller of the two quantities
abbrev pub given : BookId → Side → Price → List Order → ℕ → ℕ
given b s p os q = min q (total (quantities (facing b s p os)))

-- the price of the best opposite level, or none where there is no opposite order
abbrev pub BestLevel : BookId → Side → List Order → Option Price → Type 0
BestLevel b s os None = All (λ o. stands b (opposite s) o ≡ false) os
BestLevel b s os (Some p) = Best b s os p

module _ (shares : List ℕ → ℕ → List ℕ) where
  -- how the rule divides it
  abbrev pub divided : BookId → Side → Price → List Order → ℕ → List ℕ
  divided b s p os q = shares (quantities (facing b s p os)) (given b s p os q)

  -- the book after such a fill
  abbrev pub filled_book : BookId → Side → Price → List Order → ℕ → List Order
  filled_book b s p os q = after_fill (in_level b (opposite s) p) os (divided b s p os q)
