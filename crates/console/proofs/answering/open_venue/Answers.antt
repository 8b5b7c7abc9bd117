use Rattle.std.proofs.Common.{Ok, Err, refl, subst}
use Rattle.line.specs.Gateways.{Opens}
use Rattle.console.proofs.answering.open_venue.Goals as goal

pub returns-in_ok-write_answer-in-Ok : goal.returns-in_ok-write_answer-in-Ok
returns-in_ok-write_answer-in-Ok g c = record { built = Ok c.in-Ok.opening; opens = c.in-Ok.ensures.opens; written = c.in_ok-write_answer-in-Ok.ensures.appended; gateway = refl }

pub returns-in_ok-write_answer-in-Err-Refused : goal.returns-in_ok-write_answer-in-Err-Refused
returns-in_ok-write_answer-in-Err-Refused g c = record { built = Err c.in-Err-Refused.refusal; opens = subst (λ e. Opens g.R.AllocationRule.shares c.args.rule c.args.line.now (Err e)) c.in-Err-Refused.field-0-is c.in-Err-Refused.ensures.opens; written = c.in_ok-write_answer-in-Err-Refused.ensures.appended; gateway = refl }
