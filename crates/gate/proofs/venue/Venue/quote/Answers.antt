use Rattle.market.specs.Venues.{quotes}
use Rattle.gate.proofs.Lifting.{refused_by, lifted}
use Rattle.gate.proofs.venue.Venue.quote.Goals as goal

pub returns-in-Err-clause-follows : goal.returns-in-Err-clause-follows
returns-in-Err-clause-follows g c = refused_by c.in-Err.ensures c.refuse.ensures.answer c.refuse.ensures.blank

pub returns-clause-follows : goal.returns-clause-follows
returns-clause-follows g c =
    let q = c.args.sides in
    let quoted = rw (c.quote-quote.ensures, c.as_slice-combinations.ensures) at c.quote.ensures in
    lifted (λ e h. quotes q.participant q.book q.bid_quantity q.bid q.offer_quantity q.offer e c.in_default.ensures h) quoted
