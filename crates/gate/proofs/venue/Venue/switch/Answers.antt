use Rattle.std.proofs.Common.{Err, sym, ap, ◌∙◌}
use Rattle.std.proofs.lemmas.Result.{err_from_is_err_and}
use Rattle.gate.proofs.Lifting.{refused_by, turned_not, switch_refused, switch_done}
use Rattle.gate.proofs.venue.Venue.switch.Goals as goal

pub returns-in_default-clause-follows : goal.returns-in_default-clause-follows
returns-in_default-clause-follows g c = refused_by (turned_not c.args.self.now.listing.trading.phase c.args.event (sym c.turned.ensures ∙ c.in_default.is)) c.refuse.ensures.answer c.refuse.ensures.blank

pub returns-in_err-answer-clause-follows : goal.returns-in_err-answer-clause-follows
returns-in_err-answer-clause-follows g c =
    let p = err_from_is_err_and c.from_residual.result c.from_residual.ensures.1 in
    switch_refused _ _ _ _ _ _ _ _ _ (sym c.turned.ensures ∙ c.in-Some.is) c.withdraw.ensures c.in_err-answer.was (p.1 ∙ ap Err p.2)

pub returns-clause-follows : goal.returns-clause-follows
returns-clause-follows g c = switch_done _ _ _ _ _ _ _ _ _ (sym c.turned.ensures ∙ c.in-Some.is) c.withdraw.ensures c.in_ok-answer.was
