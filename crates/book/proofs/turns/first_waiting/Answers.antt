use Rattle.std.proofs.Common.{◌∙◌, ◌+◌, ◌<◌, length, sym, subst, arith}
use Rattle.std.proofs.lemmas.Bool.{both_ways}
use Rattle.book.specs.Rounds.{waits}
use Rattle.book.proofs.Leading.{SoFar, sofar_start, sofar_yes, sofar_no, sofar_end}
use Rattle.book.proofs.Levels.{no_order}
use Rattle.book.proofs.turns.first_waiting.Goals as goal
use Rattle.book.proofs.turns.first_waiting.Goals.{then-waits+then-leads, else-waits, else-waits-via-then-waits+else-leads, else-waits-via-else-waits}

pub loop-i-init : goal.loop-i-init
loop-i-init c = sofar_start (waits c.args.tried) c.args.orders.now no_order

pub loop-i-preserved : goal.loop-i-preserved
loop-i-preserved c =
    let test = waits c.args.tried in
    let os = c.args.orders.now in
    let k = c.loop-i.i in
    let best = c.loop-i.best in
    let lt : k < length os = omega arith in
    elim c.if-waits.branch [
      | then-waits+then-leads w ↦
          subst (SoFar test os no_order (k + 1)) (sym w.best-is) (sofar_yes test os no_order k lt best c.loop-i.invariant (sym c.waits.ensures ∙ w.if-waits.true) (sym w.leads.ensures ∙ w.if-leads.true))
      | else-waits w ↦
          subst (SoFar test os no_order (k + 1)) (sym w.best-is)
          (sofar_no test os no_order k lt best c.loop-i.invariant
          (elim w.else-waits.branch [
            | else-waits-via-then-waits+else-leads w' ↦ λ _. sym w'.leads.ensures ∙ w'.if-leads.false
            | else-waits-via-else-waits w' ↦ λ e. absurd (both_ways _ (sym c.waits.ensures ∙ w'.if-waits.false) e)
          ]))
    ]

pub returns : goal.returns
returns c = sofar_end (waits c.args.tried) c.args.orders.now no_order c.loop-i.i c.loop-i.best (omega (arith, c.loop-i.auto.i-end, c.loop-i-test.false)) c.loop-i.invariant
