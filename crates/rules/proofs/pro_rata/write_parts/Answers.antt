use Rattle.std.proofs.Common.{arith}
use Rattle.rules.specs.ProRataLemmas.{parts_below}
use Rattle.rules.proofs.Steps.{parts_more}
use Rattle.rules.proofs.pro_rata.write_parts.Goals as goal

pub overflow_add-given : goal.overflow_add-given
overflow_add-given c =
    let qs = c.args.quantities.now in
    omega (arith, parts_below c.args.give c.args.sum c.requires.short qs c.requires.summed, parts_more c.args.give c.args.sum qs c.loop-i.i c.loop-i-test.true, c.loop-i.invariant.1)
