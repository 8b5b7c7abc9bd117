use Rattle.std.proofs.Common.{◌≤◌, ◌-◌}
use Rattle.book.specs.Held.{held}
use Rattle.book.specs.Reading.{to_come}
use Rattle.book.proofs.Reading.{Reads}
use Rattle.book.proofs.ladder.Ladder.next_sum.Given as goal

abbrev pub invariant-loop-taken : goal.invariant-loop-taken
invariant-loop-taken l = (l.taken ≤ l.count.0) × Reads (to_come l.self.book l.self.side (held l.orders) l.initial.rung) l.taken (to_come l.self.book l.self.side (held l.orders) l.rung) l.sum.0

abbrev pub decreases-loop-taken : goal.decreases-loop-taken
decreases-loop-taken l = l.count.0 - l.taken
