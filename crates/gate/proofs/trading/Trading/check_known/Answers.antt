use Rattle.std.proofs.Common.{rules}
use Rattle.market.specs.declared.leg.Leg.{Leg}
use Rattle.market.specs.Venues.{band_of, known}
use Rattle.gate.proofs.trading.Trading.check_known.Goals as goal

pub returns : goal.returns
returns c = c.first_broken.ensures (λ (l : Leg). known (band_of c.args.self.now.bands.items l.instrument)) (λ x t k. search rules)
