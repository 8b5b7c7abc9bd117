use Rattle.std.proofs.Common.{vec_items}
use Rattle.book.specs.Table.{table}
use Rattle.book.proofs.Rounding.{Rounding}
use Rattle.book.proofs.Totals.{open_in}
use Rattle.book.proofs.draft.Draft.round.Given as goal

abbrev pub invariant-loop-fill : goal.invariant-loop-fill
invariant-loop-fill g l = Rounding (g.R.AllocationRule.shares l.rule) (table l.combinations) l.next_fill (vec_items l.initial.self.orders.inner.orders) l.initial.told l.fill (vec_items l.self.orders.inner.orders) l.told

abbrev pub decreases-loop-fill : goal.decreases-loop-fill
decreases-loop-fill g l = open_in (vec_items l.self.orders.inner.orders)
