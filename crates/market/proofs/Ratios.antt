-- Ratios: the greatest common divisor and the normal form of legs, however many.
use Rattle.std.proofs.Common.{◌≡◌, ℕ, zero, suc, ◌*◌, ◌/◌, ◌%◌, ◌≤◌, Bool, true, false, cond, not, eqb, List, [], ◌∷◌, map, length, get_or, pos, inl, inr, refl, ap, subst, arith}
use Rattle.std.specs.Prelude.{unsigned_abs, int_lt}
use Rattle.std.specs.Int.{◌∣◌}
use Rattle.std.specs.List.{All}
use Rattle.std.proofs.lemmas.Bool.{cond_both, cases_eq}
use Rattle.std.proofs.lemmas.Bool.Decides.{nat_tests}
use Rattle.std.proofs.lemmas.List.Elements.{All-nil, All-cons, All-head, All-tail, All-map, All-weaker}
use Rattle.std.proofs.lemmas.List.Sums.{AllPass-from_list_all, list_all-from_AllPass}
use Rattle.std.proofs.lemmas.List.{length-map}
use Rattle.std.proofs.lemmas.Nat.Gcd.{le_of_dvd, dvd_of_mod-eq-zero, mod-eq-zero_of_dvd}
use Rattle.std.proofs.Math.Nat.{div-mul_cancel, mul-dvd-mul_right, one-dvd, pos_of_dvd_of_pos, le_of_mul-le-mul_right}
use Rattle.market.specs.declared.leg.Leg.{Leg}
use Rattle.market.specs.Combinations.{size, is_minus, divides_all, greatest_up_to, divisor, turns, ratio_of, reduced_leg, normal}

-- ---- the greatest common divisor

-- d divides every ratio
abbrev pub Divides : ℕ → List Leg → Type 0
Divides d legs = All (λ l. d ∣ size l) legs

-- no ratio is 0
abbrev pub Nonzero : List Leg → Type 0
Nonzero legs = All (λ l. 1 ≤ size l) legs

pub divides_from : (d : ℕ) (legs : List Leg) → divides_all d legs ≡ true → Divides d legs
divides_from d legs h = All-weaker (λ l. eqb (size l % d) 0 ≡ true) (λ l. d ∣ size l)
    (λ l e. dvd_of_mod-eq-zero d (grind (arith, nat_tests))) legs (AllPass-from_list_all (λ l. eqb (size l % d) 0) legs h)

pub divides_to : (d : ℕ) (legs : List Leg) → Divides d legs → divides_all d legs ≡ true
divides_to d legs h = list_all-from_AllPass (λ l. eqb (size l % d) 0) legs (All-weaker (λ l. d ∣ size l) (λ l. eqb (size l % d) 0 ≡ true)
    (λ l k. ap (λ n. eqb n 0) (mod-eq-zero_of_dvd d k)) legs h)

module _ (legs : List Leg) where
  -- it divides every ratio, if it is not 0
  greatest_divides : (n : ℕ) → 1 ≤ greatest_up_to n legs → Divides (greatest_up_to n legs) legs
  greatest_divides zero h = absurd (omega arith)
  greatest_divides (suc n) h =
      cond_both (divides_all (suc n) legs) (suc n) (greatest_up_to n legs) (λ m. 1 ≤ m → Divides m legs)
      (λ yes _. divides_from (suc n) legs yes)
      (λ no k. greatest_divides n k) h

  -- a number that divides every ratio is not above it
  greatest_above : (n d : ℕ) → d ≤ n → Divides d legs → d ≤ greatest_up_to n legs
  greatest_above zero d h k = h
  greatest_above (suc n) d h k =
      cond_both (divides_all (suc n) legs) (suc n) (greatest_up_to n legs) (λ m. d ≤ m)
      (λ yes. h)
      (λ no. greatest_above n d (elim (cases_eq d (suc n)) [
        | inl e ↦ absurd (let yes : divides_all (suc n) legs ≡ true = rw e at (divides_to d legs k) in cc)
        | inr ne ↦ omega arith
      ]) k)

pub divisor_above : (legs : List Leg) → 1 ≤ length legs → Nonzero legs → (d : ℕ) → Divides d legs → d ≤ divisor legs
divisor_above [] some h d k = absurd (omega arith)
divisor_above (l ∷ legs) some h d k =
    greatest_above (l ∷ legs) (size l) d (le_of_dvd (All-head (λ l. 1 ≤ size l) l legs h) (All-head (λ l. d ∣ size l) l legs k)) k

pub divisor_positive : (d : ℕ) (legs : List Leg) → 1 ≤ length legs → Nonzero legs → Divides d legs → 1 ≤ d
divisor_positive d [] some h k = absurd (omega arith)
divisor_positive d (l ∷ legs) some h k = pos_of_dvd_of_pos (All-head (λ l. d ∣ size l) l legs k) (All-head (λ l. 1 ≤ size l) l legs h)

pub divisor_some : (legs : List Leg) → 1 ≤ length legs → Nonzero legs → 1 ≤ divisor legs
divisor_some legs some h = divisor_above legs some h 1 (All-weaker (λ l. 1 ≤ size l) (λ l. 1 ∣ size l) (λ l k. one-dvd (size l)) legs h)

pub divisor_divides : (legs : List Leg) → Nonzero legs → Divides (divisor legs) legs
divisor_divides [] h = All-nil (λ l. 0 ∣ size l)
divisor_divides (l ∷ legs) h = greatest_divides (l ∷ legs) (size l) (divisor_some (l ∷ legs) (omega arith) h)

-- the divisor of every ratio that every other one divides
pub divisor_is : (legs : List Leg) → 1 ≤ length legs → Nonzero legs → (d : ℕ) → Divides d legs → ((e : ℕ) → Divides e legs → e ∣ d) → d ≡ divisor legs
divisor_is legs some h d k greatest =
    let above : d ≤ divisor legs = divisor_above legs some h d k in
    let below : divisor legs ≤ d = le_of_dvd (divisor_positive d legs some h k) (greatest (divisor legs) (divisor_divides legs h)) in
    omega arith

-- ---- the normal form

pub size-ratio_of : (minus : Bool) (n : ℕ) → unsigned_abs (ratio_of minus n) ≡ n
size-ratio_of false n = refl
size-ratio_of true zero = refl
size-ratio_of true (suc n) = refl

pub minus-ratio_of : (n : ℕ) → 1 ≤ n → int_lt (ratio_of true n) (pos 0) ≡ true
minus-ratio_of zero h = absurd (omega arith)
minus-ratio_of (suc n) h = refl

pub size-reduced : (d : ℕ) (turn : Bool) (l : Leg) → size (reduced_leg d turn l) ≡ size l / d
size-reduced d turn l = size-ratio_of (cond turn (not (is_minus l)) (is_minus l)) (size l / d)

-- what holds of every element of a list that is mapped
pub unmapped : {X Y : Type 0} (P : Y → Type 0) (f : X → Y) (xs : List X) → All P (map f xs) → All (λ x. P (f x)) xs
unmapped P f [] h = All-nil (λ x. P (f x))
unmapped P f (x ∷ xs) h = All-cons (λ x. P (f x)) x xs (All-head P (f x) (map f xs) h) (unmapped P f xs (All-tail P (f x) (map f xs) h))

pub quotient_some : (q g n : ℕ) → q * g ≡ n → 1 ≤ n → 1 ≤ q
quotient_some zero g n e h = absurd (grind arith)
quotient_some (suc q) g n e h = omega arith

module _ (legs : List Leg) (some : 1 ≤ length legs) (h : Nonzero legs) where
  whole : All (λ l. size l / divisor legs * divisor legs ≡ size l) legs
  whole = All-weaker (λ l. divisor legs ∣ size l) (λ l. size l / divisor legs * divisor legs ≡ size l) (λ l k. div-mul_cancel (divisor legs) k) legs (divisor_divides legs h)

  pub normal_nonzero : Nonzero (normal legs)
  normal_nonzero = All-map (λ l. 1 ≤ size l) (reduced_leg (divisor legs) (turns legs)) legs
      (λ i l at. omega (arith, size-reduced (divisor legs) (turns legs) (get_or legs i l), quotient_some _ (divisor legs) _ (whole i l at) (h i l at)))

  -- the ratios of the normal form have no common divisor above 1
  pub normal_undivided : (d : ℕ) → Divides d (normal legs) → d ≡ 1
  normal_undivided d k =
      let g : ℕ = divisor legs in
      let parts = unmapped (λ l. d ∣ size l) (reduced_leg g (turns legs)) legs k in
      let all : Divides (d * g) legs = λ i l at. subst (λ n. d * g ∣ n) (whole i l at) (mul-dvd-mul_right d (subst (λ n. d ∣ n) (size-reduced g (turns legs) (get_or legs i l)) (parts i l at)) g) in
      let low : d * g ≤ 1 * g = omega (arith, divisor_above legs some h (d * g) all) in
      let one : d ≤ 1 = le_of_mul-le-mul_right low (divisor_some legs some h) in
      omega (arith, divisor_positive d (normal legs) (omega (arith, length-map legs (reduced_leg g (turns legs)))) normal_nonzero k)
