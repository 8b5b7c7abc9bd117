-- The normal form of legs: what the division and the turning of ratios come to.
use Rattle.std.proofs.Common.{◌≡◌, ℕ, zero, suc, ◌*◌, ◌/◌, ◌%◌, ◌<◌, ◌≤◌, Bool, true, false, cond, not, List, [], ◌∷◌, map, length, ℤ, pos, negsuc, neg_ℤ, inl, inr, sym, refl, ap, ◌∙◌, subst, arith}
use Rattle.std.specs.Prelude.{◌*ℤ◌, unsigned_abs, int_lt}
use Rattle.std.specs.Int.{◌∣◌, IsGcd}
use Rattle.std.proofs.lemmas.Bool.{cases_eq}
use Rattle.std.proofs.lemmas.Bool.Decides.{nat_tests}
use Rattle.std.proofs.lemmas.List.Elements.{All-nil, All-cons, All-head, All-tail, All-weaker}
use Rattle.std.proofs.lemmas.Nat.Gcd.{dvd-zero, dvd_trans, IsGcd-from_zero, IsGcd-from_mod}
use Rattle.std.proofs.Math.Nat.{mod-lt, mul_comm, div-one, div-mul_cancel}
use Rattle.market.specs.declared.leg.Leg.{Leg}
use Rattle.market.specs.Combinations.{size, is_minus, divisor, turns, ratio_of, reduced_leg, normal}
use Rattle.market.specs.NormalForms.{EveryNormalForm}
use Rattle.market.proofs.Making.{plus_first}
use Rattle.market.proofs.Ratios.{Divides, Nonzero, divisor_is, divisor_some, divisor_divides, quotient_some, normal_nonzero, normal_undivided}

-- ---- what divides every ratio divides the divisor

-- two numbers have a greatest common divisor, by Euclid's steps
gcd_up_to : (n a b : ℕ) → b ≤ n → (g : ℕ) × IsGcd a b g
gcd_up_to zero a b h = (a, IsGcd-from_zero a b (omega arith))
gcd_up_to (suc n) a b h = elim (cases_eq b 0) [
  | inl e ↦ (a, IsGcd-from_zero a b e)
  | inr ne ↦ let some : 0 < b = omega arith in let r = gcd_up_to n b (a % b) (omega (arith, mod-lt a some)) in (r.0, IsGcd-from_mod a b r.0 r.1)
]

greatest : (legs : List Leg) → (g : ℕ) × Divides g legs × ((d : ℕ) → Divides d legs → d ∣ g)
greatest [] = (0, All-nil (λ l. 0 ∣ size l), λ d h. dvd-zero d)
greatest (l ∷ legs) =
    let r = greatest legs in
    let g = gcd_up_to r.0 (size l) r.0 (omega arith) in (
      g.0,
      All-cons (λ m. g.0 ∣ size m) l legs g.1.0 (All-weaker (λ m. r.0 ∣ size m) (λ m. g.0 ∣ size m) (λ m k. dvd_trans g.0 g.1.1 k) legs r.1),
      λ d h. g.1.2 d (All-head (λ m. d ∣ size m) l legs h) (r.2 d (All-tail (λ m. d ∣ size m) l legs h)),
    )

divides_divisor : (legs : List Leg) → 1 ≤ length legs → Nonzero legs → (d : ℕ) → Divides d legs → d ∣ divisor legs
divides_divisor legs some h d k = let r = greatest legs in subst (λ n. d ∣ n) (divisor_is legs some h r.0 r.1 r.2) (r.2 d k)

-- ---- the ratios

sign_times : (t m : Bool) (d q : ℕ) → 1 ≤ d → 1 ≤ q → ratio_of m (q * d) ≡ ratio_of t d *ℤ ratio_of (cond t (not m) m) q
sign_times t m zero q h k = absurd (omega arith)
sign_times t m (suc d) zero h k = absurd (omega arith)
sign_times false false (suc d) (suc q) h k = ap pos (mul_comm (suc q) (suc d))
sign_times false true (suc d) (suc q) h k = ap (λ n. neg_ℤ (pos n)) (mul_comm (suc q) (suc d))
sign_times true false (suc d) (suc q) h k = ap pos (mul_comm (suc q) (suc d))
sign_times true true (suc d) (suc q) h k = ap (λ n. neg_ℤ (pos n)) (mul_comm (suc q) (suc d))

sized : (z : ℤ) → ratio_of (int_lt z (pos 0)) (unsigned_abs z) ≡ z
sized (pos n) = let plus : int_lt (pos n) (pos 0) ≡ false = grind (arith, nat_tests) in rw plus refl
sized (negsuc n) = refl

instruments_kept : (d : ℕ) (t : Bool) (legs : List Leg) → map (λ l. l.instrument) legs ≡ map (λ l. l.instrument) (map (reduced_leg d t) legs)
instruments_kept d t [] = refl
instruments_kept d t (l ∷ legs) = ap (λ is. l.instrument ∷ is) (instruments_kept d t legs)

module _ (d : ℕ) (t : Bool) (some : 1 ≤ d) where
  ratio_times : (l : Leg) → size l / d * d ≡ size l → 1 ≤ size l → l.ratio ≡ ratio_of t d *ℤ (reduced_leg d t l).ratio
  ratio_times l whole h = sym (sized l.ratio) ∙ ap (ratio_of (is_minus l)) (sym whole) ∙ sign_times t (is_minus l) d (size l / d) some (quotient_some (size l / d) d (size l) whole h)

  ratios_times : (legs : List Leg) → Divides d legs → Nonzero legs → map (λ l. l.ratio) legs ≡ map (λ l. ratio_of t d *ℤ l.ratio) (map (reduced_leg d t) legs)
  ratios_times [] k h = refl
  ratios_times (l ∷ legs) k h =
      let first : l.ratio ≡ ratio_of t d *ℤ (reduced_leg d t l).ratio = ratio_times l (div-mul_cancel d (All-head (λ m. d ∣ size m) l legs k)) (All-head (λ m. 1 ≤ size m) l legs h) in
      let rest = ratios_times legs (All-tail (λ m. d ∣ size m) l legs k) (All-tail (λ m. 1 ≤ size m) l legs h) in
      ap (λ z. z ∷ map (λ m. m.ratio) legs) first ∙ ap (λ zs. (ratio_of t d *ℤ (reduced_leg d t l).ratio) ∷ zs) rest

-- ---- the normal form of a normal form

abbrev leg_of : ℕ → ℤ → Leg
leg_of i r = record { instrument = i; ratio = r }

undivided_leg : (l : Leg) → reduced_leg 1 false l ≡ l
undivided_leg l = ap (leg_of l.instrument) (ap (ratio_of (is_minus l)) (div-one (size l)) ∙ sized l.ratio)

undivided_legs : (legs : List Leg) → map (reduced_leg 1 false) legs ≡ legs
undivided_legs [] = refl
undivided_legs (l ∷ legs) = ap (λ m. m ∷ map (reduced_leg 1 false) legs) (undivided_leg l) ∙ ap (λ ms. l ∷ ms) (undivided_legs legs)

settled_form : (legs : List Leg) → 1 ≤ length legs → Nonzero legs → normal (normal legs) ≡ normal legs
settled_form legs some h =
    let one : divisor (normal legs) ≡ 1 = normal_undivided legs some h (divisor (normal legs)) (divisor_divides (normal legs) (normal_nonzero legs some h)) in
    ap (λ d. map (reduced_leg d (turns (normal legs))) (normal legs)) one ∙ ap (λ t. map (reduced_leg 1 t) (normal legs)) (plus_first legs) ∙ undivided_legs (normal legs)

pub every_normal_form : EveryNormalForm
every_normal_form legs some h = record {
  common = divisor_divides legs h;
  greatest = divides_divisor legs some h;
  instruments = instruments_kept (divisor legs) (turns legs) legs;
  ratios = ratios_times (divisor legs) (turns legs) (divisor_some legs some h) legs (divisor_divides legs h) h;
  undivided = normal_undivided legs some h;
  plus = plus_first legs;
  settled = settled_form legs some h;
}
