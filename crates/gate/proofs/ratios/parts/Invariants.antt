use Rattle.std.proofs.Common.{◌≡◌, ◌/◌, ◌++◌, map, length, drop}
use Rattle.market.specs.declared.leg.Leg.{Leg}
use Rattle.market.specs.Combinations.{size}
use Rattle.gate.proofs.ratios.parts.Given as goal

abbrev pub invariant-loop-leg : goal.invariant-loop-leg
invariant-loop-leg l =
    (length l.sizes.items ≡ l.leg-index)
    × (l.sizes.items ++ map (λ (m : Leg). size m / l.divisor) (drop l.leg-index l.legs) ≡ map (λ (m : Leg). size m / l.divisor) l.legs)
