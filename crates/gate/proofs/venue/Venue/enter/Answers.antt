use Rattle.market.specs.Venues.{enters}
use Rattle.gate.proofs.Lifting.{refused_by, lifted}
use Rattle.gate.proofs.venue.Venue.enter.Goals as goal

pub returns-in-Err-clause-follows : goal.returns-in-Err-clause-follows
returns-in-Err-clause-follows g c = refused_by c.in-Err.ensures c.refuse.ensures.answer c.refuse.ensures.blank

pub returns-clause-follows : goal.returns-clause-follows
returns-clause-follows g c =
    let e = c.args.entry in
    let entered = rw (c.arrival.ensures, c.as_slice-combinations.ensures) at c.enter.ensures in
    lifted (λ x h. enters e.participant e.book e.side e.quantity e.price e.duration x c.in_default.ensures h) entered
