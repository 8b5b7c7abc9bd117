use Rattle.std.proofs.Common.{ℕ, List, ◌++◌, length, vec_items, Result, ap, ◌∙◌, subst, arith}
use Rattle.std.proofs.lemmas.List.{append_assoc}
use Rattle.std.proofs.lemmas.Result.{on_ok_weaker}
use Rattle.market.specs.declared.call.Call.{Call}
use Rattle.market.specs.declared.refusal.Refusal.{Refusal}
use Rattle.market.specs.Endings.{Follows}
use Rattle.market.specs.Venues.{Takes}
use Rattle.gate.specs.Views.{view}
use Rattle.line.specs.CallLines.{call_form}
use Rattle.line.specs.Verdicts.{line_call}
use Rattle.line.proofs.Clips.{same_verdict}
use Rattle.console.specs.Text.{answer_text, report_text}
use Rattle.console.proofs.answering.answer_line.Goals as goal

pub returns-clause-answered : goal.returns-clause-answered
returns-clause-answered g c =
    let v = c.args.gateway.now.venue in
    let shares = g.R.AllocationRule.shares v.rule in
    let answer = c.call-answer.result in
    let rows = c.call-answer.new.report in
    on_ok_weaker c.write_report.result
    (λ e. record {
      answer = answer;
      rows = rows;
      follows = λ line is. subst (λ (asked : Result Call Refusal). Follows (Takes shares (view v) asked) (view v) (length c.args.report.now) answer rows (view c.call-answer.new.self.venue)) (ap line_call is ∙ same_verdict call_form line 1201 (omega arith)) c.call-answer.ensures.follows;
      written = e ∙ ap (λ (xs : List ℕ). xs ++ report_text rows) c.in_ok-write_answer.ensures.appended ∙ append_assoc (vec_items c.args.out.now) (answer_text answer) (report_text rows);
    })
    c.write_report.ensures.appended
