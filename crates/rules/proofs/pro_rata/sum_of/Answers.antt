use Rattle.std.proofs.Common.{rules, sum, sym, ◌∙◌, ◌≡◌}
use Rattle.rules.proofs.Total.{total_is_sum}
use Rattle.rules.proofs.pro_rata.sum_of.Goals as goal

pub returns : goal.returns
returns c = let is : c.sum.result ≡ sum c.args.quantities.now = search rules in is ∙ sym (total_is_sum c.args.quantities.now)
