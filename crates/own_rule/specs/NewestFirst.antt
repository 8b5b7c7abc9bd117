-- The rule of the newest first, and what holds of it at any length.
use Rattle.std.specs.Prelude.{◌≡◌, ℕ, suc, ◌-◌, min, List, [], ◌∷◌, length, refl}
use Rattle.std.proofs.Common.{ap, arith}
use Rattle.rules.specs.Domain.{total, Below}

-- Each takes the smaller of its quantity and what those behind it leave.
abbrev pub newest_first : List ℕ → ℕ → List ℕ
newest_first [] give = []
newest_first (q ∷ qs) give = min q (give - total qs) ∷ newest_first qs give

-- There is one share for each quantity.
pub newest_first_count : (qs : List ℕ) (give : ℕ) → length (newest_first qs give) ≡ length qs
newest_first_count [] give = refl
newest_first_count (q ∷ qs) give = ap suc (newest_first_count qs give)

-- No share is above its quantity.
pub newest_first_within : (qs : List ℕ) (give : ℕ) → Below (newest_first qs give) qs
newest_first_within [] give = tt
newest_first_within (q ∷ qs) give = (omega arith, newest_first_within qs give)

-- The shares come to all that is to give, or to all the quantities where those are less.
pub newest_first_sum : (qs : List ℕ) (give : ℕ) → total (newest_first qs give) ≡ min give (total qs)
newest_first_sum [] give = omega arith
newest_first_sum (q ∷ qs) give = omega (arith, newest_first_sum qs give)
