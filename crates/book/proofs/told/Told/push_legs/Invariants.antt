use Rattle.std.proofs.Common.{take, map}
use Rattle.market.specs.Rows.{leg_row}
use Rattle.book.specs.Reports.{Tells}
use Rattle.book.proofs.told.Told.push_legs.Given as goal

abbrev pub invariant-loop-leg : goal.invariant-loop-leg
invariant-loop-leg l = Tells l.initial.self (map (leg_row l.fill.number l.fill.taker l.order l.traded.0) (take l.leg-index l.legs)) l.self
