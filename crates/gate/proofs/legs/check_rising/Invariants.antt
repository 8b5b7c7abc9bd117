use Rattle.std.proofs.Common.{◌≡◌, ◌+◌, ◌-◌, drop}
use Rattle.market.specs.Combinations.{neighbours, rises}
use Rattle.market.specs.Tables.{first_broken}
use Rattle.gate.proofs.legs.check_rising.Given as goal

abbrev pub invariant-loop-i : goal.invariant-loop-i
invariant-loop-i l = first_broken rises (neighbours (drop (l.i - 1) l.legs)) (3 + l.i) ≡ first_broken rises (neighbours l.legs) 4
