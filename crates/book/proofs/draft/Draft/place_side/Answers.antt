use Rattle.std.proofs.Common.{vec_items}
use Rattle.book.specs.Table.{table}
use Rattle.book.proofs.PlacedSides.{placed_already, placed_new}
use Rattle.book.proofs.draft.Draft.place_side.Goals as goal

pub returns-in-Some-clause-places : goal.returns-in-Some-clause-places
returns-in-Some-clause-places g c =
    placed_already (g.R.AllocationRule.shares c.args.rule.now) (table c.args.combinations.now) c.args.side c.args.at (vec_items c.args.self.now.orders.inner.orders) c.args.told.now c.args.number c.in-Some.number c.in-Some.is

pub returns-clause-places : goal.returns-clause-places
returns-clause-places g c =
    let r = c.arrive in
    placed_new (g.R.AllocationRule.shares c.args.rule.now) (table c.args.combinations.now) c.args.side c.args.at (vec_items c.args.self.now.orders.inner.orders) c.args.told.now
    c.args.number c.in_default.is c.requires.day c.new.result.order c.new.ensures.order r.result (vec_items r.new.self.orders.inner.orders) r.new.told r.ensures.arrives c.in_ok-came.came c.in_ok-came.was
