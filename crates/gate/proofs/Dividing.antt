-- The greatest common divisor of legs, leg by leg.
use Rattle.std.proofs.Common.{◌≡◌, ℕ, ◌+◌, ◌<◌, ◌≤◌, List, [], ◌∷◌, length, get_or, drop, drop-cons, add-one, sym, ap, ◌∙◌, subst}
use Rattle.std.specs.Int.{◌∣◌, IsGcd}
use Rattle.std.proofs.lemmas.List.Elements.{All-nil, All-cons, All-head, All-tail}
use Rattle.std.proofs.lemmas.List.{drop_all}
use Rattle.std.proofs.lemmas.Nat.Gcd.{dvd_refl, dvd_trans}
use Rattle.market.specs.declared.leg.Leg.{Leg}
use Rattle.market.specs.Combinations.{size, divisor}
use Rattle.market.proofs.Ratios.{Divides, Nonzero, divisor_is}

-- what divides every ratio is what divides the number at hand and every ratio that is left
pub record Divided (legs : List Leg) (common : ℕ) (rest : List Leg) : Type 0 where
  pub into : (d : ℕ) → Divides d legs → (d ∣ common) × Divides d rest
  pub back : (d : ℕ) → d ∣ common → Divides d rest → Divides d legs

pub one_more : (legs : List Leg) (common : ℕ) (l : Leg) (rest : List Leg) (g : ℕ) → Divided legs common (l ∷ rest) → IsGcd common (size l) g → Divided legs g rest
one_more legs common l rest g s h = record {
  into = λ d k. let p = s.into d k in (h.2 d p.0 (All-head (λ m. d ∣ size m) l rest p.1), All-tail (λ m. d ∣ size m) l rest p.1);
  back = λ d k r. s.back d (dvd_trans d k h.0) (All-cons (λ m. d ∣ size m) l rest (dvd_trans d k h.1) r);
}

-- the leg at an index is the next
pub next_divided : (legs : List Leg) (common i : ℕ) (l : Leg) (n g : ℕ) → Divided legs common (drop i legs) → i < length legs → n ≡ size (get_or legs i l) → IsGcd common n g → Divided legs g (drop (i + 1) legs)
next_divided legs common i l n g s at is h =
    let rest : Divided legs common (get_or legs i l ∷ drop (i + 1) legs) = subst (Divided legs common) (drop-cons legs i l at ∙ ap (λ k. get_or legs i l ∷ drop k legs) (sym (add-one i))) s in
    one_more legs common (get_or legs i l) (drop (i + 1) legs) g rest (subst (λ k. IsGcd common k g) is h)

pub all_divided : (legs : List Leg) (d i : ℕ) → 1 ≤ length legs → Nonzero legs → length legs ≤ i → Divided legs d (drop i legs) → d ≡ divisor legs
all_divided legs d i some h end t =
    let s : Divided legs d [] = subst (Divided legs d) (drop_all i legs end) t in
    divisor_is legs some h d (s.back d (dvd_refl d) (All-nil (λ m. d ∣ size m))) (λ e k. (s.into e k).0)
