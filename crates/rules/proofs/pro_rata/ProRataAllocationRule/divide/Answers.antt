use Rattle.std.proofs.Common.{arith}
use Rattle.rules.specs.ProRataLemmas.{parts_below}
use Rattle.rules.proofs.Total.{sum_fits}
use Rattle.rules.proofs.pro_rata.ProRataAllocationRule.divide.Goals as goal

pub sum_of-sum-requires : goal.sum_of-sum-requires
sum_of-sum-requires c = sum_fits c.args.quantities.now c.args.give c.requires.domain

pub overflow_sub-give : goal.overflow_sub-give
overflow_sub-give c = omega (arith, parts_below c.args.give c.sum_of-sum.result c.if-give-sum.true c.args.quantities.now c.sum_of-sum.ensures, c.write_parts-given.ensures.given)
