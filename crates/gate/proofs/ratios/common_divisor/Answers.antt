use Rattle.std.proofs.Common.{arith}
use Rattle.market.proofs.Ratios.{divisor_some}
use Rattle.gate.proofs.Dividing.{next_divided, all_divided}
use Rattle.gate.proofs.ratios.common_divisor.Goals as goal

pub loop-leg-preserved : goal.loop-leg-preserved
loop-leg-preserved c = next_divided c.args.legs.now c.loop-leg.common c.loop-leg.leg-index _ _ c.gcd-common.result c.loop-leg.invariant c.loop-leg-test.true c.size.ensures c.gcd-common.ensures

pub returns-clause-value : goal.returns-clause-value
returns-clause-value c = all_divided c.args.legs.now c.loop-leg.common c.loop-leg.leg-index c.requires.some c.requires.nonzero c.loop-leg-test.false c.loop-leg.invariant

pub returns-clause-some : goal.returns-clause-some
returns-clause-some c =
    omega (arith, all_divided c.args.legs.now c.loop-leg.common c.loop-leg.leg-index c.requires.some c.requires.nonzero c.loop-leg-test.false c.loop-leg.invariant, divisor_some c.args.legs.now c.requires.some c.requires.nonzero)
