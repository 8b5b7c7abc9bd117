use Rattle.std.proofs.Common.{◌≡◌, vec_len}
use Rattle.gate.specs.Views.{view}
use Rattle.console.specs.Serving.{FromAnswers, AnsweredOn}
use Rattle.console.specs.Sessions.{rows_offered}
use Rattle.console.proofs.session.Session.answer_all.Given as goal

abbrev pub invariant-loop : goal.invariant-loop
invariant-loop g l =
    let shares = g.R.AllocationRule.shares l.initial.gateway.venue.rule in
    let v = view l.initial.gateway.venue in
    (l.self.wire.wire.ghost_name ≡ l.initial.self.wire.wire.ghost_name)
    × (l.gateway.venue.rule ≡ l.initial.gateway.venue.rule)
    × (vec_len l.report ≡ rows_offered)
    × FromAnswers g.W.Wire.log shares v l.initial.self (λ rules used text. AnsweredOn rules shares v g.W.Wire.log l.self used text (view l.gateway.venue))
