-- Texts that are put together piece by piece.
use Rattle.std.proofs.Common.{◌≡◌, ℕ, ◌+◌, ◌/◌, ◌%◌, ◌^◌, ◌<◌, ◌≤◌, List, [], ◌∷◌, ◌++◌, decimal, sym, ap, ◌∙◌, mod-eq_of_lt}
use Rattle.std.proofs.lemmas.Fmt.{decimal_digit, decimal_step}
use Rattle.std.proofs.lemmas.List.{append_assoc}

-- one piece after another
pub then : (v s t : List ℕ) {u w : List ℕ} → u ≡ v ++ s → w ≡ u ++ t → w ≡ v ++ (s ++ t)
then v s t p q = q ∙ ap (λ x. x ++ t) p ∙ append_assoc v s t

-- a number's last digit, after the digits before it
pub last_digit : (v : List ℕ) (n : ℕ) {u w : List ℕ} → n < 2 ^ 64 → 10 ≤ n → u ≡ v ++ decimal (n / 10) → w ≡ u ++ ((48 + n % 10) ∷ []) → w ≡ v ++ decimal n
last_digit v n h some p q = then v (decimal (n / 10)) ((48 + n % 10) ∷ []) p q ∙ ap (λ x. v ++ x) (sym (decimal_step n some h))

pub one_digit : (v : List ℕ) (n : ℕ) {w : List ℕ} → n < 10 → w ≡ v ++ ((48 + n % 10) ∷ []) → w ≡ v ++ decimal n
one_digit v n h q = q ∙ ap (λ m. v ++ ((48 + m) ∷ [])) (mod-eq_of_lt h) ∙ ap (λ x. v ++ x) (sym (decimal_digit n h))
