-- What holds of `pro_rata` at any length.
use Rattle.std.specs.Prelude.{◌≡◌, ℕ, suc, ◌+◌, ◌-◌, ◌*◌, ◌/◌, ◌<◌, ◌≤◌, min, List, [], ◌∷◌, map, length, nat_lt, refl}
use Rattle.std.proofs.Common.{ap, ⊎_elim, add-mul, mul-add, mul_comm, mul-le-mul_left, arith}
use Rattle.std.proofs.Math.Nat.{lt-mul-div-succ, mul-div-le, div-le_of_le-mul, le_of_mul-le-mul_left}
use Rattle.std.proofs.lemmas.Bool.{cases_lt, cond_both, ltb-true, ltb-false}
use Rattle.rules.specs.Domain.{total, Below}
use Rattle.rules.specs.ProRata.{parts, one_more, one_each, pro_rata}

-- `one_each` where a function of the quantity gives its part
module _ (f : ℕ → ℕ) where
  pub one_each_count : (qs : List ℕ) (left : ℕ) → length (one_each qs (map f qs) left) ≡ length qs
  one_each_count [] left = refl
  one_each_count (q ∷ qs) left = ap suc (one_each_count qs (left - one_more q (f q) left))

  pub one_each_within : ((q : ℕ) → f q ≤ q) → (qs : List ℕ) (left : ℕ) → Below (one_each qs (map f qs) left) qs
  one_each_within le [] left = tt
  one_each_within le (q ∷ qs) left = (omega (arith, le q), one_each_within le qs (left - one_more q (f q) left))

  -- a part, and one more where it falls short
  abbrev pub raised : ℕ → ℕ
  raised q = f q + min 1 (q - f q)

  -- what `one_each` comes to where enough is left for all
  abbrev pub most : List ℕ → ℕ
  most [] = 0
  most (q ∷ qs) = raised q + most qs

  pub parts_le_most : (qs : List ℕ) → total (map f qs) ≤ most qs
  parts_le_most [] = omega arith
  parts_le_most (q ∷ qs) = omega (arith, parts_le_most qs)

  pub one_each_sum : (qs : List ℕ) (left : ℕ) → total (one_each qs (map f qs) left) ≡ min (total (map f qs) + left) (most qs)
  one_each_sum [] left = omega arith
  one_each_sum (q ∷ qs) left = omega (arith, one_each_sum qs (left - one_more q (f q) left), parts_le_most qs)

-- the parts of `give`, which is below `sum`
module _ (give sum : ℕ) (short : give < sum) where
  -- the part of one quantity
  abbrev pub part : ℕ → ℕ
  part q = q * give / sum

  whole_ge : (q : ℕ) → q * give ≤ sum * q
  whole_ge q = omega (arith, mul-le-mul_left {m = give} {n = sum} q (omega arith), mul_comm q sum)

  pub part_le : (q : ℕ) → part q ≤ q
  part_le q = div-le_of_le-mul sum (whole_ge q)

  raised_ge : (q : ℕ) → q * give ≤ sum * raised part q
  raised_ge q =
      ⊎_elim
      (λ (below : part q < q).
      let one : part q + 1 ≡ raised part q = omega arith in
      omega (arith, lt-mul-div-succ (q * give) {b = sum} (omega arith), ap (λ n. sum * n) one))
      (λ (whole : q ≤ part q). omega (arith, whole_ge q, mul-le-mul_left {m = q} {n = raised part q} sum (omega arith)))
      (cases_lt (part q) q)

  most_ge : (qs : List ℕ) → total qs * give ≤ sum * most part qs
  most_ge [] = omega arith
  most_ge (q ∷ qs) = omega (arith, raised_ge q, most_ge qs, add-mul q (total qs) give, mul-add sum (raised part q) (most part qs))

  parts_le : (qs : List ℕ) → sum * total (parts give sum qs) ≤ total qs * give
  parts_le [] = omega arith
  parts_le (q ∷ qs) = omega (arith, mul-div-le (q * give) sum, parts_le qs, add-mul q (total qs) give, mul-add sum (part q) (total (parts give sum qs)))

  -- where `sum` is the quantities' sum, `give` lies between the parts and the parts raised
  pub parts_below : (qs : List ℕ) → sum ≡ total qs → total (parts give sum qs) ≤ give
  parts_below qs is = le_of_mul-le-mul_left {k = sum} (omega (arith, parts_le qs, ap (λ n. n * give) is)) (omega arith)

  pub most_above : (qs : List ℕ) → sum ≡ total qs → give ≤ most part qs
  most_above qs is = le_of_mul-le-mul_left {k = sum} (omega (arith, most_ge qs, ap (λ n. n * give) is)) (omega arith)

pub pro_rata_count : (qs : List ℕ) (give : ℕ) → length (pro_rata qs give) ≡ length qs
pro_rata_count qs give =
    cond_both (nat_lt give (total qs)) _ qs (λ xs. length xs ≡ length qs)
    (λ _. one_each_count (λ q. q * give / total qs) qs _)
    (λ _. refl)

below_itself : (qs : List ℕ) → Below qs qs
below_itself [] = tt
below_itself (q ∷ qs) = (omega arith, below_itself qs)

pub pro_rata_within : (qs : List ℕ) (give : ℕ) → Below (pro_rata qs give) qs
pro_rata_within qs give =
    cond_both (nat_lt give (total qs)) _ qs (λ xs. Below xs qs)
    (λ e. one_each_within (λ q. q * give / total qs) (part_le give (total qs) (ltb-true give (total qs) e)) qs _)
    (λ _. below_itself qs)

pub pro_rata_sum : (qs : List ℕ) (give : ℕ) → total (pro_rata qs give) ≡ min give (total qs)
pro_rata_sum qs give =
    let sum = total qs in
    cond_both (nat_lt give sum) _ qs (λ xs. total xs ≡ min give sum)
    (λ e.
    let short : give < total qs = ltb-true give (total qs) e in
    omega (arith, one_each_sum (λ q. q * give / total qs) qs (give - total (parts give sum qs)), parts_below give sum short qs refl, most_above give sum short qs refl))
    (λ e. omega (arith, ltb-false give sum e))
