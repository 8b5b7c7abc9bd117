-- The best of several prices, as a scan finds it.
use Rattle.std.specs.Prelude.{cond, List, [], ◌∷◌, Some, None, Option}
use Rattle.std.specs.List.{fold}
use Rattle.market.specs.declared.price.Price.{Price}
use Rattle.market.specs.declared.side.Side.{Side}
use Rattle.market.specs.Prices.{good}

-- the better of two prices; of two equal ones the first
abbrev pub better : Side → Price → Price → Price
better s q p = cond (good s q p) q p

-- the better of these prices, one after the other; none where there is no price
abbrev pub best_among : Side → List Price → Option Price
best_among s [] = None
best_among s (p ∷ ps) = Some (fold (better s) p ps)
