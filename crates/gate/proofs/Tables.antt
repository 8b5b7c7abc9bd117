-- Conditions tried one after another.
use Rattle.std.proofs.Common.{◌≡◌, ℕ, ◌+◌, Bool, true, false, cond, not, List, [], ◌∷◌, Some, None, Ok, Err, Option, Result, sym, refl, ap, ◌∙◌, subst, add-zero, add_assoc}
use Rattle.std.specs.List.{position, position_from}
use Rattle.std.specs.Option.{option_map, MatchOption}
use Rattle.std.proofs.lemmas.Iterator.Adapters.{position_from-zero}
use Rattle.market.specs.declared.product.Band.{Band}
use Rattle.market.specs.declared.refusal.Refusal.{Refusal}
use Rattle.market.specs.Bands.{build_fault, BandsJudged}
use Rattle.market.specs.Tables.{topmost, first_broken}
use Rattle.market.proofs.BandFaults.{bands_judged}
use Rattle.gate.specs.Conditions.{Judges}

-- the field of the element at an index
abbrev pub field_at : ℕ → ℕ → ℕ
field_at place i = place + i

module _ {X : Type 0} (test : X → Bool) (place : ℕ) where
  broken_from : (i : ℕ) (xs : List X) → first_broken test xs (place + i) ≡ option_map (field_at place) (position_from (λ x. not (test x)) i xs)
  broken_from i [] = refl
  broken_from i (x ∷ xs) = go (test x) (ap (first_broken test xs) (add_assoc place i 1) ∙ broken_from (i + 1) xs)
    where
      go : (t : Bool) → first_broken test xs (place + i + 1) ≡ option_map (field_at place) (position_from (λ x. not (test x)) (i + 1) xs)
          → cond t (first_broken test xs (place + i + 1)) (Some (place + i)) ≡ option_map (field_at place) (cond (not t) (Some i) (position_from (λ x. not (test x)) (i + 1) xs))
      go true h = h
      go false h = refl

  -- the first broken element is at the first index that fails the test
  pub broken_at : (xs : List X) (index : Option ℕ) → index ≡ position (λ x. not (test x)) xs → first_broken test xs place ≡ option_map (field_at place) index
  broken_at xs index is = ap (first_broken test xs) (sym (add-zero place)) ∙ broken_from 0 xs ∙ ap (option_map (field_at place)) (sym (is ∙ position_from-zero (λ x. not (test x)) xs))

-- the answer that is Ok without an index, and else names the field there
pub told : {Says : ℕ → Type 0} (place : ℕ) (index : Option ℕ) (answer : Result (Unit {0}) ℕ) → MatchOption index (answer ≡ Ok tt) Says → ((i : ℕ) → Says i → answer ≡ Err (place + i)) → Judges (option_map (field_at place) index) answer
told place None answer is says = subst (Judges None) (sym is) refl
told place (Some i) answer is says = subst (Judges (Some (place + i))) (sym (says i is)) refl

-- the last condition of a table
pub last_of : {E : Type 0} (fault : Option E) → topmost (fault ∷ []) ≡ fault
last_of None = refl
last_of (Some e) = refl

-- what a verdict on bands says
pub judged : (bands : List Band) (fault : Option Refusal) → build_fault bands ≡ fault → BandsJudged bands fault
judged bands fault is = subst (BandsJudged bands) is (bands_judged bands)
