use Rattle.std.proofs.Common.{[], Ok, Err, sym, ◌∙◌, subst}
use Rattle.std.proofs.lemmas.Result.{on_ok_weaker, on_err_weaker}
use Rattle.gate.specs.Views.{view}
use Rattle.console.specs.Sessions.{Reply, not_built}
use Rattle.console.specs.Text.{answer_text}
use Rattle.console.proofs.Breaking.{refused_any, broken_unanswered, broken_writing}
use Rattle.console.proofs.Standing.{flushed}
use Rattle.console.proofs.Turns.{appended}
use Rattle.console.proofs.Serves.{both_then, first_refused, first_built, reply_on, served_refused, served_all}
use Rattle.console.proofs.session.Session.serve_under.Goals as goal

pub returns-in_err-open_venue-clause-failed : goal.returns-in_err-open_venue-clause-failed
returns-in_err-open_venue-clause-failed g c = refused_any c.from_residual.result _ (λ rules used line _ s only _. broken_unanswered used line only s)

pub returns-in-None-clause-served : goal.returns-in-None-clause-served
returns-in-None-clause-served g c =
    both_then c.flush.result
    (λ logged empty rules used line _ s only is.
    let f = first_refused line (c.line.ensures ∙ is) c.in-None.is c.in_ok-open_venue.ensures in
    let text = answer_text (Err f.e) in
    served_refused rules g.W.Wire.log g.W.Wire.over c.args.self.now.reader c.flush.new.self used line f.e only f.refused empty (flushed logged empty (appended c.open_venue.new.out (answer_text (Err f.e)) f.written s)))
    c.flush.ensures.logged
    c.flush.ensures.empty

pub returns-in-None-clause-failed : goal.returns-in-None-clause-failed
returns-in-None-clause-failed g c =
    on_err_weaker c.flush.result
    (λ failed rules used line _ s only is.
    let f = first_refused line (c.line.ensures ∙ is) c.in-None.is c.in_ok-open_venue.ensures in
    let text = answer_text (Err f.e) in
    broken_writing used text (subst (λ ls. Reply rules ls text) (sym only) (not_built line [] f.e f.refused)) (appended c.open_venue.new.out text f.written s) (g.W.Wire.log c.flush.new.self.wire.now) failed)
    c.flush.ensures.failed

pub returns-in-Some-clause-served : goal.returns-in-Some-clause-served
returns-in-Some-clause-served g c =
    let shares = g.R.AllocationRule.shares in
    let gateway = c.in-Some.gateway in
    let v = view gateway.venue in
    let after = c.answer_all.new.self in
    on_ok_weaker c.answer_all.result
    (λ all rules used line suits s only is.
    let f = first_built line (c.line.ensures ∙ is) c.in-Some.is c.in_ok-open_venue.ensures in
    let text = answer_text (Ok f.answer) in
    let on = reply_on rules shares used line gateway f suits only in
    served_all {s = after} rules (shares gateway.venue.rule) v used text on (all rules used text on (appended c.open_venue.new.out text f.written s)))
    c.answer_all.ensures.answered

pub returns-in-Some-clause-failed : goal.returns-in-Some-clause-failed
returns-in-Some-clause-failed g c =
    let shares = g.R.AllocationRule.shares in
    let gateway = c.in-Some.gateway in
    on_err_weaker c.answer_all.result
    (λ failed rules used line suits s only is.
    let f = first_built line (c.line.ensures ∙ is) c.in-Some.is c.in_ok-open_venue.ensures in
    let text = answer_text (Ok f.answer) in
    failed rules used text (reply_on rules shares used line gateway f suits only) (appended c.open_venue.new.out text f.written s))
    c.answer_all.ensures.failed
