use Rattle.std.proofs.Common.{◌≡◌, ◌+◌, ◌++◌, take, drop}
use Rattle.rules.specs.Domain.{total}
use Rattle.rules.specs.ProRata.{parts}
use Rattle.rules.proofs.pro_rata.write_parts.Given as goal

abbrev pub invariant-loop-i : goal.invariant-loop-i
invariant-loop-i l =
    (take l.i l.out ++ parts l.give l.sum (drop l.i l.quantities) ≡ parts l.give l.sum l.quantities)
    × (l.given + total (parts l.give l.sum (drop l.i l.quantities)) ≡ total (parts l.give l.sum l.quantities))
