use Rattle.std.proofs.Common.{sym, refl}
use Rattle.market.proofs.Endings.{rules_determine}
use Rattle.line.specs.CallLines.{call_form}
use Rattle.line.proofs.Checks.{checked_alike}
use Rattle.line.proofs.Counts.{count_legs}
use Rattle.line.proofs.Judging.{reads}
use Rattle.line.proofs.Sessions.{follows_unread, follows_read, goes}
use Rattle.line.proofs.gateway.Gateway.call.Goals as goal

pub returns-in-Ok : goal.returns-in-Ok
returns-in-Ok g c =
    let f = follows_read (sym c.in-Ok.ensures.value) c.call.ensures.follows in
    record { follows = f; read = reads call_form c.args.line.now; counted = count_legs c.args.line.now; alone = rules_determine; rule = c.call.ensures.rule; checked = checked_alike _ _ c.args.line.now _ _ _ _ f; session = goes (g.met.R.AllocationRule.lawful c.args.self.now.venue.rule) f }

pub returns-in-Err : goal.returns-in-Err
returns-in-Err g c =
    let f = follows_unread (sym c.in-Err.ensures.value) c.refuse.ensures.answer c.refuse.ensures.blank in
    record { follows = f; read = reads call_form c.args.line.now; counted = count_legs c.args.line.now; alone = rules_determine; rule = refl; checked = checked_alike _ _ c.args.line.now _ _ _ _ f; session = goes (g.met.R.AllocationRule.lawful c.args.self.now.venue.rule) f }
