use Rattle.std.proofs.Common.{vec_items}
use Rattle.book.specs.Rounds.{waits}
use Rattle.book.specs.Table.{table}
use Rattle.book.proofs.Trying.{Tried, many}
use Rattle.book.proofs.eligible.first_eligible.Given as goal

abbrev pub invariant-loop-i : goal.invariant-loop-i
invariant-loop-i l = Tried (table l.combinations) (vec_items l.orders.inner.orders) l.tried

abbrev pub decreases-loop-i : goal.decreases-loop-i
decreases-loop-i l = many (waits l.tried) (vec_items l.orders.inner.orders)
