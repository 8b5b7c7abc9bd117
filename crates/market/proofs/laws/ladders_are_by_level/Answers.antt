use Rattle.market.proofs.laws.ladders_are_by_level.Goals as goal
use Rattle.market.proofs.LadderLaw.{every_ladder}

pub returns : goal.returns
returns c = every_ladder
