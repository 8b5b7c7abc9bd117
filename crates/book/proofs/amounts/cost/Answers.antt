use Rattle.std.proofs.Common.{arith, rules, w32}
use Rattle.std.specs.Prelude.{FitsSigned}
use Rattle.std.proofs.lemmas.Grind.{common_steps}
use Rattle.std.proofs.lemmas.Int.{ints}
use Rattle.book.specs.Reading.{Near}
use Rattle.book.proofs.Reading.{near_times}
use Rattle.book.proofs.amounts.cost.Goals as goal

pub returns-clause-bounded : goal.returns-clause-bounded
returns-clause-bounded c =
    let fits : FitsSigned w32 c.args.price.0 = search rules in
    let near : Near 2147483648 c.args.price.0 = record { high = omega (arith, ints, fits); low = omega (arith, ints, fits) } in
    near_times 2147483648 c.args.count c.args.price.0 _ (grind (arith, common_steps)) near
