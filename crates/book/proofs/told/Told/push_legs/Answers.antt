use Rattle.std.proofs.Common.{arith}
use Rattle.market.specs.Rows.{leg_row}
use Rattle.book.proofs.Reports.{tells_next}
use Rattle.book.proofs.told.Told.push_legs.Goals as goal

pub loop-leg-preserved : goal.loop-leg-preserved
loop-leg-preserved c =
    tells_next (leg_row c.args.fill.now.number c.args.fill.now.taker c.args.order.now c.args.traded.0) c.args.legs.now c.loop-leg.leg-index _ c.args.self.now c.loop-leg.self c.push.new.self c.leg_row.result (omega arith) c.loop-leg.invariant c.leg_row.ensures c.push.ensures
