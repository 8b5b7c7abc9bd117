use Rattle.std.proofs.Common.{◌≡◌, ◌++◌, take, drop}
use Rattle.rules.specs.ProRata.{one_each}
use Rattle.rules.proofs.pro_rata.add_one_each.Given as goal

abbrev pub invariant-loop-i : goal.invariant-loop-i
invariant-loop-i l = take l.i l.out ++ one_each (drop l.i l.quantities) (drop l.i l.out) l.left ≡ one_each l.quantities l.initial.out l.initial.left
