use Rattle.market.specs.Venues.{amends}
use Rattle.gate.specs.Views.{view}
use Rattle.gate.proofs.Lifting.{refused_by, lifted}
use Rattle.gate.proofs.Owning.{amend_owns}
use Rattle.gate.proofs.venue.Venue.amend.Goals as goal

pub returns-in-Err-clause-follows : goal.returns-in-Err-clause-follows
returns-in-Err-clause-follows g c = refused_by c.in-Err.ensures c.refuse.ensures.answer c.refuse.ensures.blank

pub amend-requires-clause-own : goal.amend-requires-clause-own
amend-requires-clause-own g c = amend_owns (view c.args.self.now) c.args.participant c.args.number c.args.quantity c.args.price c.in_default.ensures

pub returns-clause-follows : goal.returns-clause-follows
returns-clause-follows g c =
    let amended = rw (c.as_slice-combinations.ensures) at c.amend.ensures in
    lifted (λ e h. amends c.args.participant c.args.number c.args.quantity c.args.price e c.in_default.ensures h) amended
