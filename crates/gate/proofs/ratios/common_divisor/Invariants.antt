use Rattle.std.proofs.Common.{drop}
use Rattle.gate.proofs.Dividing.{Divided}
use Rattle.gate.proofs.ratios.common_divisor.Given as goal

abbrev pub invariant-loop-leg : goal.invariant-loop-leg
invariant-loop-leg l = Divided l.legs l.common (drop l.leg-index l.legs)
