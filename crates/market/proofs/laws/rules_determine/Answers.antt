use Rattle.market.proofs.laws.rules_determine.Goals as goal
use Rattle.market.proofs.Endings.{rules_determine}

pub returns : goal.returns
returns c = rules_determine
