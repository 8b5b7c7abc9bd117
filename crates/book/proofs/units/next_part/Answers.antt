use Rattle.std.proofs.Common.{arith}
use Rattle.book.proofs.UnitReading.{part_some}
use Rattle.book.proofs.units.next_part.Goals as goal

pub returns : goal.returns
returns c = part_some c.args.leg.now _ _ _ c.in_ok-sum.sum c.signed.result c.contracts_for.ensures (omega arith) (rw c.of_leg-ladder.ensures at c.in_ok-sum.ensures) c.signed.ensures
