use Rattle.std.proofs.Common.{◌≡◌, ◌++◌, map, length, drop}
use Rattle.market.specs.Combinations.{reduced_leg}
use Rattle.gate.proofs.ratios.normal_form.Given as goal

abbrev pub invariant-loop-leg : goal.invariant-loop-leg
invariant-loop-leg l =
    (length l.normal.items ≡ l.leg-index)
    × (l.normal.items ++ map (reduced_leg l.divisor l.turn) (drop l.leg-index l.legs) ≡ map (reduced_leg l.divisor l.turn) l.legs)
