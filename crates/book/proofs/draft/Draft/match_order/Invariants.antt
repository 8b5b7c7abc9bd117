use Rattle.std.proofs.Common.{vec_items}
use Rattle.book.specs.Table.{lent}
use Rattle.book.proofs.Going.{Going}
use Rattle.book.proofs.draft.Draft.match_order.Given as goal

abbrev pub invariant-loop-at : goal.invariant-loop-at
invariant-loop-at g l = Going (g.R.AllocationRule.shares l.rule) (lent l.legs) l.order l.next_fill (vec_items l.initial.self.orders.inner.orders) l.initial.told l.at.next_fill l.at.left (vec_items l.self.orders.inner.orders) l.told

abbrev pub decreases-loop-at : goal.decreases-loop-at
decreases-loop-at g l = l.at.left
