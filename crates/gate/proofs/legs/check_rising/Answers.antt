use Rattle.std.proofs.Common.{◌-◌, ◌+◌, drop, ap, sym, ◌∙◌, arith, length-drop}
use Rattle.market.specs.Combinations.{rises}
use Rattle.market.specs.Tables.{first_broken}
use Rattle.gate.proofs.Neighbours.{neighbours_short}
use Rattle.gate.proofs.legs.check_rising.Goals as goal

pub returns : goal.returns
returns c =
    let i = c.loop-i.i in
    sym c.loop-i.invariant ∙ ap (λ ns. first_broken rises ns (3 + i)) (neighbours_short (drop (i - 1) c.args.legs.now) (omega (arith, length-drop (i - 1) c.args.legs.now)))
