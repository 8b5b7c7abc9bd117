use Rattle.std.proofs.Common.{length}
use Rattle.book.proofs.units.+next_net.Given as goal

abbrev pub decreases-next_net : goal.decreases-next_net
decreases-next_net l = length l.legs.now
