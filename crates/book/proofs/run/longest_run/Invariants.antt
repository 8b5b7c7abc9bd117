use Rattle.std.proofs.Common.{◌-◌, ◌≡◌, length}
use Rattle.market.specs.Ladders.{ladders, wanted}
use Rattle.book.specs.Held.{held}
use Rattle.book.specs.Units.{all_to_come}
use Rattle.book.proofs.Runs.{RunRead}
use Rattle.book.proofs.run.longest_run.Given as goal

abbrev pub invariant-loop-run : goal.invariant-loop-run
invariant-loop-run l = (length l.rungs ≡ 10) × RunRead (wanted l.side l.wish.limit l.wish.level) (ladders l.side l.legs (held l.orders)) l.wish.units.0 l.run (all_to_come l.side (held l.orders) l.legs l.rungs)

abbrev pub decreases-loop-run : goal.decreases-loop-run
decreases-loop-run l = l.wish.units.0 - l.run.units.0
