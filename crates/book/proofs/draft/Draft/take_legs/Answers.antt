use Rattle.std.proofs.Common.{pos, vec_items, arith}
use Rattle.market.specs.declared.leg.Leg.{Leg}
use Rattle.book.proofs.LegDrawing.{legs_start, leg_enough, legs_next, legs_end}
use Rattle.book.proofs.draft.Draft.take_legs.Goals as goal

-- the leg that a read past the end would give
abbrev no_leg : Leg
no_leg = record { instrument = 0; ratio = pos 0 }

pub loop-leg-init : goal.loop-leg-init
loop-leg-init g c = legs_start (g.R.AllocationRule.shares c.args.rule.now) c.args.taker c.args.legs.now c.args.units.0 (vec_items c.args.self.now.orders.inner.orders) c.args.told.now c.requires.legs.rising c.requires.enough

pub take_leg-requires : goal.take_leg-requires
take_leg-requires g c =
    leg_enough (g.R.AllocationRule.shares c.args.rule.now) c.args.taker c.args.legs.now c.args.units.0 (vec_items c.args.self.now.orders.inner.orders) c.args.told.now c.loop-leg.leg-index (vec_items c.loop-leg.self.orders.inner.orders) c.loop-leg.told no_leg (omega arith) c.loop-leg.invariant
    c.contracts_for-quantity.result.0 c.leg_side-side.result c.contracts_for-quantity.ensures c.leg_side-side.ensures

pub loop-leg-preserved : goal.loop-leg-preserved
loop-leg-preserved g c =
    legs_next (g.R.AllocationRule.shares c.args.rule.now) c.args.taker c.args.legs.now c.args.units.0 (vec_items c.args.self.now.orders.inner.orders) c.args.told.now c.loop-leg.leg-index (vec_items c.loop-leg.self.orders.inner.orders) c.loop-leg.told no_leg (omega arith) c.loop-leg.invariant
    (g.met.R.AllocationRule.lawful c.args.rule.now) (vec_items c.take_leg.new.self.orders.inner.orders) c.take_leg.new.told c.contracts_for-quantity.result.0 c.leg_side-side.result c.contracts_for-quantity.ensures c.leg_side-side.ensures c.take_leg.ensures

pub returns : goal.returns
returns g c = legs_end (g.R.AllocationRule.shares c.args.rule.now) c.args.taker c.args.legs.now c.args.units.0 (vec_items c.args.self.now.orders.inner.orders) c.args.told.now c.loop-leg.leg-index (vec_items c.loop-leg.self.orders.inner.orders) c.loop-leg.told c.loop-leg.invariant (omega arith)
