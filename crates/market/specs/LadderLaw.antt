-- What a ladder is, told by levels.
use Rattle.std.specs.Prelude.{◌≡◌, ℕ, true, List, [], ◌∷◌, ℤ}
use Rattle.std.specs.List.{All, count_by}
use Rattle.rules.specs.Domain.{total}
use Rattle.market.specs.declared.book_id.BookId.{BookId}
use Rattle.market.specs.declared.order.Order.{Order}
use Rattle.market.specs.declared.price.Price.{Price}
use Rattle.market.specs.declared.side.Side.{Side}
use Rattle.market.specs.Fills.{facing}
use Rattle.market.specs.Ladders.{ladder}
use Rattle.market.specs.Levels.{quantities}
use Rattle.market.specs.Prices.{good, same_price, as_price}

-- to one who trades on side s, a contract at the price y is at least as good as one at z
abbrev pub AsGood : Side → ℤ → ℤ → Type 0
AsGood s y z = good s (as_price y) (as_price z) ≡ true

-- the contracts are in order: each is at least as good to one who trades on side s as those after it
abbrev pub InOrder : Side → List ℤ → Type 0
InOrder s [] = Unit {0}
InOrder s (z ∷ zs) = All (AsGood s z) zs × InOrder s zs

-- how many of the contracts are at the price p
abbrev pub contracts_at : Price → List ℤ → ℕ
contracts_at p zs = count_by (λ z. same_price (as_price z) p) zs

-- contracts to one who trades on side s, best first: in order, and at every price as many as the opposite level has in total
pub record BestFirst (b : BookId) (s : Side) (os : List Order) (zs : List ℤ) : Type 0 where
  pub in_order : InOrder s zs
  pub each_level : (p : Price) → contracts_at p zs ≡ total (quantities (facing b s p os))

-- the ladder has the contracts so, and is the only list that does
pub record LadderLaw (b : BookId) (s : Side) (os : List Order) : Type 0 where
  pub best_first : BestFirst b s os (ladder b s os)
  pub only : (zs : List ℤ) → BestFirst b s os zs → zs ≡ ladder b s os

-- every ladder keeps to that law, whatever rests
abbrev pub EveryLadder : Type 0
EveryLadder = (b : BookId) (s : Side) (os : List Order) → LadderLaw b s os
