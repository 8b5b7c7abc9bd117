use Rattle.market.specs.Venues.{cancels}
use Rattle.gate.proofs.Lifting.{refused_by, lifted}
use Rattle.gate.proofs.venue.Venue.cancel.Goals as goal

pub returns-in-Err-clause-follows : goal.returns-in-Err-clause-follows
returns-in-Err-clause-follows g c = refused_by c.in-Err.ensures c.refuse.ensures.answer c.refuse.ensures.blank

pub returns-clause-follows : goal.returns-clause-follows
returns-clause-follows g c = lifted (λ e h. cancels c.args.participant c.args.number e c.in_default.ensures h) c.cancel.ensures
