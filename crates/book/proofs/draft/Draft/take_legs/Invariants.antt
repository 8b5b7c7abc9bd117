use Rattle.std.proofs.Common.{vec_items}
use Rattle.book.proofs.LegDrawing.{LegDrawing}
use Rattle.book.proofs.draft.Draft.take_legs.Given as goal

abbrev pub invariant-loop-leg : goal.invariant-loop-leg
invariant-loop-leg g l = LegDrawing (g.R.AllocationRule.shares l.rule) l.taker l.legs l.units.0 (vec_items l.initial.self.orders.inner.orders) l.initial.told l.leg-index (vec_items l.self.orders.inner.orders) l.told
