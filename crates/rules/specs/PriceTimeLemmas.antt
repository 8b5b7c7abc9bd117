-- What holds of `price_time` at any length.
use Rattle.std.specs.Prelude.{◌≡◌, ℕ, suc, ◌-◌, min, List, [], ◌∷◌, length, refl}
use Rattle.std.proofs.Common.{ap, arith}
use Rattle.rules.specs.Domain.{total, Below}
use Rattle.rules.specs.PriceTime.{price_time}

pub price_time_count : (qs : List ℕ) (left : ℕ) → length (price_time qs left) ≡ length qs
price_time_count [] left = refl
price_time_count (q ∷ qs) left = ap suc (price_time_count qs (left - q))

pub price_time_within : (qs : List ℕ) (left : ℕ) → Below (price_time qs left) qs
price_time_within [] left = tt
price_time_within (q ∷ qs) left = (omega arith, price_time_within qs (left - q))

pub price_time_sum : (qs : List ℕ) (left : ℕ) → total (price_time qs left) ≡ min left (total qs)
price_time_sum [] left = omega arith
price_time_sum (q ∷ qs) left = omega (arith, price_time_sum qs (left - q))
