use Rattle.std.proofs.Common.{◌≡◌, ◌++◌, take, drop}
use Rattle.rules.specs.PriceTime.{price_time}
use Rattle.rules.proofs.price_time.PriceTimeAllocationRule.divide.Given as goal

abbrev pub invariant-loop-i : goal.invariant-loop-i
invariant-loop-i l = take l.i l.out ++ price_time (drop l.i l.quantities) l.left ≡ price_time l.quantities l.give
