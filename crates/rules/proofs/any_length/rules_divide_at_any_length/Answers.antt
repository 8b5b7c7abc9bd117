use Rattle.rules.specs.PriceTimeLemmas.{price_time_count, price_time_within, price_time_sum}
use Rattle.rules.specs.ProRataLemmas.{pro_rata_count, pro_rata_within, pro_rata_sum}
use Rattle.rules.proofs.any_length.rules_divide_at_any_length.Goals as goal

pub returns : goal.returns
returns c = λ qs give. (
  record { count = price_time_count qs give; within = price_time_within qs give; sum = price_time_sum qs give },
  record { count = pro_rata_count qs give; within = pro_rata_within qs give; sum = pro_rata_sum qs give },
)
