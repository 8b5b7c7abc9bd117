use Rattle.std.proofs.Common.{vec_items}
use Rattle.book.proofs.Drawing.{Drawing}
use Rattle.book.proofs.draft.Draft.take_leg.Given as goal

abbrev pub invariant-loop-left : goal.invariant-loop-left
invariant-loop-left g l = Drawing (g.R.AllocationRule.shares l.rule) l.taker l.instrument l.fn.quantity.0 (vec_items l.initial.self.orders.inner.orders) l.initial.told l.left (vec_items l.self.orders.inner.orders) l.told

abbrev pub decreases-loop-left : goal.decreases-loop-left
decreases-loop-left g l = l.left
