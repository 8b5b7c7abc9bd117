use Rattle.std.proofs.Common.{rules}
use Rattle.std.proofs.lemmas.Fn.{filter_same}
use Rattle.market.specs.Levels.{still_open}
use Rattle.book.proofs.resting.Resting.drop_spent.Goals as goal

pub returns-clause-orders : goal.returns-clause-orders
returns-clause-orders c = filter_same _ still_open _ (λ x b f' k. search rules) _ _ c.retain.ensures.filtered
