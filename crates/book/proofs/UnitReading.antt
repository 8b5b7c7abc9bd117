-- Units that are read off ladders, each leg's contracts of one unit after those of another.
use Rattle.std.proofs.Common.{◌≡◌, ℕ, ◌+◌, ◌-◌, zero, suc, ◌*◌, ◌<◌, ◌≤◌, cond, List, [], ◌∷◌, map, length, take, drop, replicate, Some, None, Option, sym, refl, ap, subst, ◌∙◌, inl, inr, arith}
use Rattle.std.specs.Prelude.{ℤ, ◌+ℤ◌, nat_le, unsigned_abs, option_map}
use Rattle.std.proofs.lemmas.Int.{ints}
use Rattle.std.proofs.lemmas.Bool.{cases_Bool, leb-true, leb-false, le-leb, lt-leb}
use Rattle.std.proofs.lemmas.List.{length-drop, drop-drop}
use Rattle.market.specs.declared.book_id.BookId.TheVariants.{Instrument}
use Rattle.market.specs.declared.leg.Leg.{Leg}
use Rattle.market.specs.declared.order.Order.{Order}
use Rattle.market.specs.declared.price.Amount.{Amount}
use Rattle.market.specs.declared.side.Side.{Side}
use Rattle.market.specs.Combinations.{is_minus}
use Rattle.market.specs.Ladders.{leg_side, ladders, contracts_for, leg_net, net, signed, sum_of}
use Rattle.book.specs.declared.rung.Rung.{Rung}
use Rattle.book.specs.Reading.{NextSum, Near}
use Rattle.book.proofs.Reading.{nothing_read}
use Rattle.book.specs.Units.{all_to_come, after_units, NextPart, NextUnit}

-- ---- a leg's part of the next unit

-- the part of a unit whose contracts are n in number, come after others and end at the given place
abbrev part_at : Leg → List ℤ → ℕ → ℕ → ℕ → Option ℤ
part_at leg zs end n skipped = cond (nat_le end (length zs)) (Some (signed leg (sum_of (take n (drop skipped zs))))) None

first_part : (leg : Leg) (zs : List ℤ) (n : ℕ) → n ≡ contracts_for leg 1 → leg_net leg zs 1 ≡ part_at leg zs n n 0
first_part leg zs n is =
    let none : contracts_for leg 0 ≡ 0 = omega arith in
    ap (λ k. part_at leg zs k k (contracts_for leg 0)) (sym is) ∙ ap (λ k. part_at leg zs n n k) none

near_signed : (leg : Leg) (b : ℕ) (z : ℤ) → Near b z → Near b (signed leg z)
near_signed leg b z near =
    elim (cases_Bool (is_minus leg)) [
      | inl e ↦ rw e (record { high = omega (arith, ints, near.low); low = omega (arith, ints, near.high) })
      | inr e ↦ rw e near
    ]

near_more : (b c : ℕ) (z : ℤ) → Near b z → b ≤ c → Near c z
near_more b c z near le = record { high = omega (arith, ints, near.high); low = omega (arith, ints, near.low) }

pub part_some : (leg : Leg) (zs after : List ℤ) (n : ℕ) (sum part : Amount) → n ≡ contracts_for leg 1 → n ≤ 10 → NextSum n zs (Some sum) after → part.0 ≡ signed leg sum.0 → NextPart leg zs (Some part) after
part_some leg zs after n sum part is small next sign = (
  first_part leg zs n is ∙ rw (le-leb n (length zs) next.0) (ap Some (ap (signed leg) (sym next.1) ∙ sym sign)),
  next.2 ∙ ap (λ k. drop k zs) is,
  rw sign (near_more _ _ _ (near_signed leg _ sum.0 next.3) (omega arith)),
)

-- ---- each leg's part

-- the first leg's part, added to the others'
pub unit_more : (leg : Leg) (zs after : List ℤ) (ls afters : List (Leg × List ℤ)) (part others sum : Amount) → NextPart leg zs (Some part) after → NextUnit ls (Some others) afters → sum.0 ≡ part.0 +ℤ others.0
    → NextUnit ((leg, zs) ∷ ls) (Some sum) ((leg, after) ∷ afters)
unit_more leg zs after ls afters part others sum first rest is = (
  rw (first.0, rest.0) (ap Some (sym is)),
  rw (first.1, rest.1) refl,
  record { high = omega (arith, ints, first.2.high, rest.2.high); low = omega (arith, ints, first.2.low, rest.2.low) },
)

few_to_come : (s : Side) (os : List Order) (legs : List Leg) (rungs : List (Option Rung)) → length (all_to_come s os legs rungs) ≤ length legs
few_to_come s os [] rungs = omega arith
few_to_come s os (leg ∷ legs) [] = omega arith
few_to_come s os (leg ∷ legs) (r ∷ rungs) = omega (arith, few_to_come s os legs rungs)

-- what a few legs come to is within so much
pub few_near : (s : Side) (os : List Order) (legs : List Leg) (rungs : List (Option Rung)) (b : ℕ) (a : Amount) (after : List (Leg × List ℤ))
    → NextUnit (all_to_come s os legs rungs) (Some a) after → length legs ≤ 10 → 214748364800 ≤ b → Near b a.0
few_near s os legs rungs b a after h few wide = near_more _ _ a.0 h.2 (omega (arith, few_to_come s os legs rungs))

-- ---- unit after unit

-- after no unit all is to come
pub after_none : (ls : List (Leg × List ℤ)) → map (after_units 0) ls ≡ ls
after_none [] = refl
after_none (l ∷ ls) =
    let zero_contracts : contracts_for l.0 0 ≡ 0 = omega arith in
    rw (after_none ls, zero_contracts) refl

-- one unit after another
after_more : (l : Leg × List ℤ) (u : ℕ) → after_units 1 (after_units u l) ≡ after_units (u + 1) l
after_more l u =
    ap (λ zs. (l.0, zs)) (drop-drop (contracts_for l.0 1) (contracts_for l.0 u) l.1 ∙ ap (λ k. drop k l.1) (omega arith))

pub all_after_more : (ls : List (Leg × List ℤ)) (u : ℕ) → map (after_units 1) (map (after_units u) ls) ≡ map (after_units (u + 1)) ls
all_after_more [] u = refl
all_after_more (l ∷ ls) u = rw (after_more l u, all_after_more ls u) refl

-- two tests of the same
same_test : (a b c d : ℕ) → (a ≤ b → c ≤ d) → (b < a → d < c) → nat_le a b ≡ nat_le c d
same_test a b c d up down =
    elim (cases_Bool (nat_le a b)) [
      | inl e ↦ e ∙ sym (le-leb c d (up (leb-true a b e)))
      | inr e ↦ e ∙ sym (lt-leb c d (down (leb-false a b e)))
    ]

-- whether u units went before or are gone, the next one's contracts are there or not
fits_after : (r u n : ℕ) → nat_le (r * 1) (n - r * u) ≡ nat_le (r * (u + 1)) n
fits_after zero u n = same_test _ _ _ _ (λ h. omega arith) (λ h. omega arith)
fits_after (suc r) u n = same_test _ _ _ _ (λ h. omega arith) (λ h. omega arith)

part_after : (l : Leg × List ℤ) (u : ℕ) → leg_net l.0 (after_units u l).1 1 ≡ leg_net l.0 l.1 (u + 1)
part_after l u =
    let r = unsigned_abs l.0.ratio in
    let none : r * 0 ≡ 0 = omega arith in
    let before : r * (u + 1 - 1) ≡ r * u = ap (λ k. r * k) (omega arith) in
    rw (length-drop (r * u) l.1, fits_after r u (length l.1), none, before) refl

pub net_after : (ls : List (Leg × List ℤ)) (u : ℕ) → net (map (after_units u) ls) 1 ≡ net ls (u + 1)
net_after [] u = refl
net_after (l ∷ ls) u = rw (part_after l u, net_after ls u) refl

-- ---- before anything is read

-- no leg's ladder has been read
pub all_ahead : (s : Side) (os : List Order) (legs : List Leg) (n : ℕ) → length legs ≤ n → all_to_come s os legs (replicate n None) ≡ ladders s legs os
all_ahead s os [] n few = refl
all_ahead s os (leg ∷ legs) zero few = absurd (omega arith)
all_ahead s os (leg ∷ legs) (suc n) few = rw (nothing_read (Instrument leg.instrument) (leg_side s leg) os, all_ahead s os legs n (omega arith)) refl

-- the first unit read is unit 1
pub first_is : (s : Side) (os : List Order) (legs : List Leg) (n : ℕ) → length legs ≤ n → (a : Option Amount) (after : List (Leg × List ℤ))
    → NextUnit (all_to_come s os legs (replicate n None)) a after → option_map (λ x. x.0) a ≡ net (ladders s legs os) 1
first_is s os legs n few None after h = sym (subst (λ ls. net ls 1 ≡ None) (all_ahead s os legs n few) h)
first_is s os legs n few (Some a) after h = sym (subst (λ ls. net ls 1 ≡ Some a.0) (all_ahead s os legs n few) (h.0))
