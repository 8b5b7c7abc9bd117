use Rattle.std.proofs.Common.{[], ◌∷◌, ◌++◌, refl, sym, ap, ◌∙◌, subst, arith}
use Rattle.gate.specs.Views.{view}
use Rattle.console.specs.Lines.{closed_lines}
use Rattle.console.specs.Serving.{AnsweredOn}
use Rattle.console.specs.declared.session.Session.{Session}
use Rattle.console.proofs.Breaking.{refused_any, broken_off, broken_after, broken_writing}
use Rattle.console.proofs.Standing.{flushed}
use Rattle.console.proofs.Turns.{ready_now, begin_answers, replied, keep_answers, found_next, end_answers, next_answers}
use Rattle.console.proofs.session.Session.answer_all.Goals as goal
use Rattle.console.proofs.session.Session.answer_all.Goals.{then-len-ge-FULL+in_ok-flush, else-len-ge-FULL}

pub loop-init : goal.loop-init
loop-init g c =
    let v = c.args.gateway.venue in
    (refl, refl, c.in_ok-report.ensures.len, λ rules used text on s. begin_answers (g.R.AllocationRule.shares v.rule) rules (view v) used text s)

pub returns-in_err-report-clause-failed : goal.returns-in_err-report-clause-failed
returns-in_err-report-clause-failed g c =
    let v = c.args.gateway.venue in
    refused_any c.from_residual.result _ (λ rules used text on s. broken_after used text (ready_now (g.R.AllocationRule.shares v.rule) rules (view v) used text on).reply s)

pub returns-in_err-next_line-clause-failed : goal.returns-in_err-next_line-clause-failed
returns-in_err-next_line-clause-failed g c =
    let v = c.args.gateway.venue in
    refused_any c.from_residual-in_err-next_line.result _ (λ rules used text on s.
    let a = c.loop.invariant.3 rules used text on s in
    c.in_err-next_line.ensures.failed rules a.used' (text ++ a.more) (replied (g.R.AllocationRule.shares v.rule) rules (view v) used text (view c.loop.gateway.venue) a on) a.stands)

pub returns-in-None-clause-answered : goal.returns-in-None-clause-answered
returns-in-None-clause-answered g c = λ rules used text on s.
    let v = c.args.gateway.venue in
    let u = view c.loop.gateway.venue in
    let shares = g.R.AllocationRule.shares v.rule in
    let a = c.loop.invariant.3 rules used text on s in
    let at : Session g.row.W.Denot = record { heap = c.loop.self.heap; reader = c.next_line.follows.lender-at-none; wire = c.next_line.new.wire } in
    end_answers shares rules (view v) used text {s' = at} u a (found_next shares rules (view v) used text g.W.Wire.over _ _ u a on c.in_ok-next_line.was c.in-None.is c.next_line.follows.holds-at-none)

pub returns-in_err-answer_line-in-Some-clause-failed : goal.returns-in_err-answer_line-in-Some-clause-failed
returns-in_err-answer_line-in-Some-clause-failed g c = refused_any c.from_residual-in_err-answer_line-in-Some.result _ (λ rules used text on s.
    let v = c.args.gateway.venue in
    let u = view c.loop.gateway.venue in
    let shares = g.R.AllocationRule.shares v.rule in
    let a = c.loop.invariant.3 rules used text on s in
    let m = (found_next shares rules (view v) used text g.W.Wire.over _ _ u a on c.in_ok-next_line.was c.in-Some.is c.next_line.follows.holds-at-none).0 in
    broken_off m.used' (text ++ a.more) (closed_lines a.used') (m.line ∷ []) m.lines (replied shares rules (view v) used text u a on).reply m.stands (g.W.Wire.log c.next_line.new.wire.wire.now) m.stands.logged)

pub returns-in_err-flush-clause-failed : goal.returns-in_err-flush-clause-failed
returns-in_err-flush-clause-failed g c = refused_any c.from_residual-in_err-flush.result _ (λ rules used text on s.
    let v = c.args.gateway.venue in
    let u = view c.loop.gateway.venue in
    let w = view c.answer_line.new.gateway.venue in
    let shares = g.R.AllocationRule.shares v.rule in
    let at : Session g.row.W.Denot = record { heap = c.loop.self.heap; reader = c.next_line.follows.lender-at-none; wire = c.next_line.new.wire } in
    let a = c.loop.invariant.3 rules used text on s in
    let found = found_next shares rules (view v) used text g.W.Wire.over _ _ u a on c.in_ok-next_line.was c.in-Some.is c.next_line.follows.holds-at-none in
    let b = next_answers shares rules (view v) used text g.W.Wire.over at c.answer_line.new.out c.in-Some.line u w a found (ap g.R.AllocationRule.shares c.loop.invariant.1) (omega (arith, c.loop.invariant.2)) c.in_ok-answer_line-in-Some.ensures.answered in
    broken_writing b.used' (text ++ b.more) (replied shares rules (view v) used text w b on).reply b.stands (g.W.Wire.log c.flush.new.self.wire.now) c.in_err-flush.ensures.failed)

pub loop-preserved : goal.loop-preserved
loop-preserved g c = (
  elim c.if-len-ge-FULL.branch [
    | then-len-ge-FULL+in_ok-flush x ↦ ap (λ (t : Session g.row.W.Denot). t.wire.wire.ghost_name) x.self-is ∙ x.in_ok-flush.ensures.same ∙ c.next_line.ensures.same ∙ c.loop.invariant.0
    | else-len-ge-FULL x ↦ ap (λ (t : Session g.row.W.Denot). t.wire.wire.ghost_name) x.self-is ∙ c.next_line.ensures.same ∙ c.loop.invariant.0
  ],
  c.answer_line.ensures.rule ∙ c.loop.invariant.1,
  omega (arith, c.loop.invariant.2),
  λ rules used text on s.
      let v = c.args.gateway.venue in
      let u = view c.loop.gateway.venue in
      let w = view c.answer_line.new.gateway.venue in
      let shares = g.R.AllocationRule.shares v.rule in
      let at : Session g.row.W.Denot = record { heap = c.loop.self.heap; reader = c.next_line.follows.lender-at-none; wire = c.next_line.new.wire } in
      let a = c.loop.invariant.3 rules used text on s in
      let found = found_next shares rules (view v) used text g.W.Wire.over _ _ u a on c.in_ok-next_line.was c.in-Some.is c.next_line.follows.holds-at-none in
      let b = next_answers shares rules (view v) used text g.W.Wire.over at c.answer_line.new.out c.in-Some.line u w a found (ap g.R.AllocationRule.shares c.loop.invariant.1) (omega (arith, c.loop.invariant.2)) c.in_ok-answer_line-in-Some.ensures.answered in
      elim c.if-len-ge-FULL.branch [
        | then-len-ge-FULL+in_ok-flush x ↦ subst (λ t. AnsweredOn rules shares (view v) g.W.Wire.log t used text w) (sym x.self-is) (keep_answers shares rules (view v) used text w (λ _ _. flushed x.in_ok-flush.ensures.logged x.in_ok-flush.ensures.empty) b)
        | else-len-ge-FULL x ↦ subst (λ t. AnsweredOn rules shares (view v) g.W.Wire.log t used text w) (sym x.self-is) b
      ],
)

pub returns-clause-failed : goal.returns-clause-failed
returns-clause-failed g c = λ rules used text on s.
    let v = c.args.gateway.venue in
    let a = c.loop.invariant.3 rules used text on s in
    broken_after a.used' (text ++ a.more) (replied (g.R.AllocationRule.shares v.rule) rules (view v) used text (view c.loop.gateway.venue) a on).reply a.stands
