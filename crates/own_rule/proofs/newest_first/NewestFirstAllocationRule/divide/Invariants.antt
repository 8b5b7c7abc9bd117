use Rattle.std.proofs.Common.{◌≡◌, ◌-◌, drop}
use Rattle.rules.specs.Domain.{total}
use Rattle.own_rule.specs.NewestFirst.{newest_first}
use Rattle.own_rule.proofs.newest_first.NewestFirstAllocationRule.divide.Given as goal

-- from the order last reached on, all have their shares, and this is what they leave
abbrev pub invariant-loop-i : goal.invariant-loop-i
invariant-loop-i l = (drop l.i l.out ≡ newest_first (drop l.i l.quantities) l.give) × (l.left ≡ l.give - total (drop l.i l.quantities))
