-- The number of the first combination with given legs.
use Rattle.std.proofs.Common.{◌≡◌, ℕ, zero, suc, ◌+◌, ◌-◌, ◌<◌, ◌≤◌, Bool, true, false, cond, ltb, List, [], ◌∷◌, ◌++◌, map, length, Some, None, sym, refl, ap, ◌∙◌, subst, arith}
use Rattle.std.specs.Prelude.{slice_get}
use Rattle.std.specs.List.{position, position_from}
use Rattle.std.proofs.lemmas.Bool.{cond_both, ltb-false}
use Rattle.std.proofs.lemmas.Iterator.Adapters.{position_from-zero}
use Rattle.market.specs.declared.leg.Leg.{Leg}
use Rattle.market.specs.Combinations.{made, same_legs, NoneMade, FirstMade}
use Rattle.market.proofs.Making.{made_at, same_legs_decides}
use Rattle.gate.specs.Made.{Numbers, found, new, spent}

position_from-map : {X Y : Type 0} (f : X → Y) (p : Y → Bool) (i : ℕ) (xs : List X) → position_from p i (map f xs) ≡ position_from (λ x. p (f x)) i xs
position_from-map f p i [] = refl
position_from-map f p i (x ∷ xs) = ap (λ o. cond (p (f x)) (Some i) o) (position_from-map f p (i + 1) xs)

pub position-map : {X Y : Type 0} (f : X → Y) (p : Y → Bool) (xs : List X) → position p (map f xs) ≡ position (λ x. p (f x)) xs
position-map f p xs = position_from-zero p (map f xs) ∙ position_from-map f p 0 xs ∙ sym (position_from-zero (λ x. p (f x)) xs)

-- the first at an index has the legs, and none before it
record First (cs : List (List Leg)) (legs : List Leg) (i : ℕ) : Type 0 where
  there : slice_get cs i ≡ Some legs
  first : (j : ℕ) → j < i → slice_get cs j ≡ Some legs → ⊥

module _ (legs : List Leg) where
  here : (c : List Leg) (cs : List (List Leg)) → same_legs legs c ≡ true → First (c ∷ cs) legs 0
  here c cs same = record { there = ap Some (sym ((same_legs_decides legs c).0 same)); first = λ j low e. absurd (omega arith) }

  other : (c : List Leg) (cs : List (List Leg)) → same_legs legs c ≡ false → slice_get (c ∷ cs) 0 ≡ Some legs → ⊥
  other c cs differs e = let is : c ≡ legs = cc in let passes : same_legs legs c ≡ true = (same_legs_decides legs c).1 (sym is) in cc

  none_later : (c : List Leg) (cs : List (List Leg)) → same_legs legs c ≡ false → ((j : ℕ) → slice_get cs j ≡ Some legs → ⊥) → (j : ℕ) → slice_get (c ∷ cs) j ≡ Some legs → ⊥
  none_later c cs differs none zero e = other c cs differs e
  none_later c cs differs none (suc j) e = none j e

  later : (c : List Leg) (cs : List (List Leg)) (i : ℕ) → same_legs legs c ≡ false → First cs legs i → First (c ∷ cs) legs (suc i)
  later c cs i differs f = record { there = f.there; first = before }
    where
      before : (j : ℕ) → j < suc i → slice_get (c ∷ cs) j ≡ Some legs → ⊥
      before zero low e = other c cs differs e
      before (suc j) low e = f.first j (omega arith) e

  some_from : (cs : List (List Leg)) (k n : ℕ) → position_from (same_legs legs) k cs ≡ Some n → (i : ℕ) × (n ≡ k + i) × First cs legs i
  some_from [] k n h = absurd (cc)
  some_from (c ∷ cs) k n h =
      cond_both (same_legs legs c) (Some k) (position_from (same_legs legs) (k + 1) cs) (λ o. o ≡ Some n → (i : ℕ) × (n ≡ k + i) × First (c ∷ cs) legs i)
      (λ same e. (0, (let is : k ≡ n = cc in omega arith), here c cs same))
      (λ differs e. let r = some_from cs (k + 1) n e in (suc r.0, omega (arith, r.1), later c cs r.0 differs r.2)) h

  none_from : (cs : List (List Leg)) (k : ℕ) → position_from (same_legs legs) k cs ≡ None → (j : ℕ) → slice_get cs j ≡ Some legs → ⊥
  none_from [] k h j e' = cc
  none_from (c ∷ cs) k h j e' =
      cond_both (same_legs legs c) (Some k) (position_from (same_legs legs) (k + 1) cs) (λ o. o ≡ None → (j : ℕ) → slice_get (c ∷ cs) j ≡ Some legs → ⊥)
      (λ same e. absurd (cc))
      (λ differs e. none_later c cs differs (none_from cs (k + 1) e)) h j e'

module _ (cs : List (List Leg)) (legs : List Leg) where
  -- a combination by its number
  pub made_index : (c : ℕ) → made cs c ≡ Some legs → (1001 ≤ c) × (slice_get cs (c - 1001) ≡ Some legs)
  made_index c = cond_both (ltb c 1001) None (slice_get cs (c - 1001)) (λ o. o ≡ Some legs → (1001 ≤ c) × (slice_get cs (c - 1001) ≡ Some legs))
      (λ low h. absurd (cc))
      (λ high h. (ltb-false c 1001 high, h))

  none_made : position (same_legs legs) cs ≡ None → NoneMade cs legs
  none_made h c e = none_from legs cs 0 (sym (position_from-zero (same_legs legs) cs) ∙ h) (c - 1001) (made_index c e).1

  first_made : (i : ℕ) → First cs legs i → FirstMade cs legs (1001 + i)
  first_made i f = record {
    there = made_at cs i legs f.there;
    first = λ b low e. let k = made_index b e in f.first (b - 1001) (omega (arith, k.0)) k.1;
  }

  pub finds : (i : ℕ) → position (same_legs legs) cs ≡ Some i → Numbers cs legs (Some (1001 + i)) cs
  finds i h =
      let r = some_from legs cs 0 i (sym (position_from-zero (same_legs legs) cs) ∙ h) in
      found (1001 + i) (first_made i (let is : r.0 ≡ i = omega (arith, r.1) in subst (First cs legs) is r.2))

  pub spends : position (same_legs legs) cs ≡ None → 32 ≤ length cs → Numbers cs legs None cs
  spends h full = spent (none_made h) full

  pub adds : position (same_legs legs) cs ≡ None → length cs < 32 → Numbers cs legs (Some (1001 + length cs)) (cs ++ legs ∷ [])
  adds h less = new (none_made h) less
