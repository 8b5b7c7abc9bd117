use Rattle.book.specs.Rounds.{waits}
use Rattle.book.proofs.Leading.{SoFar}
use Rattle.book.proofs.Levels.{no_order}
use Rattle.book.proofs.turns.first_waiting.Given as goal

abbrev pub invariant-loop-i : goal.invariant-loop-i
invariant-loop-i l = SoFar (waits l.tried) l.orders no_order l.i l.best
