-- The sum of a list, as the rules' laws write it and as the library does.
use Rattle.std.proofs.Common.{◌≡◌, ℕ, ◌*◌, ◌<◌, ◌≤◌, List, [], ◌∷◌, length, sum, refl, arith}
use Rattle.std.specs.List.{All}
use Rattle.std.proofs.lemmas.List.Elements.{All-head, All-tail}
use Rattle.std.proofs.lemmas.List.Recursion.{is_sum_by}
use Rattle.rules.specs.Domain.{Domain, total}

pub total_is_sum : (qs : List ℕ) → total qs ≡ sum qs
total_is_sum qs = is_sum_by total (λ q. q) refl (λ q qs. refl) qs

total_le : (qs : List ℕ) → All (λ q. q ≤ 10000) qs → total qs ≤ 10000 * length qs
total_le [] small = omega arith
total_le (q ∷ qs) small = omega (arith, All-head (λ k. k ≤ 10000) q qs small, total_le qs (All-tail (λ k. k ≤ 10000) q qs small))

-- what a rule is asked to divide comes to a number of 32 bits
pub sum_fits : (qs : List ℕ) (give : ℕ) → Domain qs give → sum qs < 4294967296
sum_fits qs give asked = omega (arith, total_is_sum qs, total_le qs asked.small, asked.few)
