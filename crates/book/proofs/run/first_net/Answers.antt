use Rattle.book.specs.Held.{held}
use Rattle.book.proofs.UnitReading.{first_is}
use Rattle.book.proofs.run.first_net.Goals as goal

pub returns : goal.returns
returns c = first_is c.args.side (held c.args.orders.now) c.args.legs.now 10 c.requires.few _ _ c.next_net.ensures
