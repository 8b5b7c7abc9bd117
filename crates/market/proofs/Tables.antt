-- What the conditions of a table find.
use Rattle.std.proofs.Common.{◌≡◌, ℕ, ◌+◌, Bool, true, false, List, [], ◌∷◌, Some, None, Option, refl, ◌∙◌, arith}
use Rattle.std.specs.List.{AllPass}
use Rattle.std.specs.Option.{option_map}
use Rattle.std.proofs.lemmas.Bool.{cond_both}
use Rattle.std.proofs.lemmas.List.Elements.{All-nil, All-cons}
use Rattle.market.specs.Tables.{unless, topmost, first_broken, FirstFailing}

-- what one test finds
abbrev pub Tested : {X : Type 0} → (X → Bool) → List X → ℕ → Option ℕ → Type 0
Tested test xs n None = AllPass test xs
Tested test xs n (Some p) = FirstFailing test xs n p

module _ {X : Type 0} (test : X → Bool) where
  -- one that passes stands in front
  in_front : (x : X) (xs : List X) (n : ℕ) (o : Option ℕ) → test x ≡ true → Tested test xs (n + 1) o → Tested test (x ∷ xs) n o
  in_front x xs n None ok h = All-cons (λ x. test x ≡ true) x xs ok h
  in_front x xs n (Some p) ok h = record {
    before = x ∷ h.before;
    broken = h.broken;
    behind = h.behind;
    parts = cc (h.parts);
    passed = All-cons (λ x. test x ≡ true) x h.before ok h.passed;
    fails = h.fails;
    names = h.names ∙ omega arith;
  }

  pub tested : (xs : List X) (n : ℕ) → Tested test xs n (first_broken test xs n)
  tested [] n = All-nil (λ x. test x ≡ true)
  tested (x ∷ xs) n =
      cond_both (test x) _ _ (Tested test (x ∷ xs) n)
      (λ ok. in_front x xs n (first_broken test xs (n + 1)) ok (tested xs (n + 1)))
      (λ bad. record { before = []; broken = x; behind = xs; parts = refl; passed = All-nil (λ x. test x ≡ true); fails = bad; names = omega arith })

-- ---- a table that finds nothing

-- no condition of the table holds
abbrev pub Passed : {X : Type 0} → List (Option X) → Type 0
Passed [] = Unit {0}
Passed (o ∷ os) = (o ≡ None) × Passed os

pub passed : {X : Type 0} (os : List (Option X)) → topmost os ≡ None → Passed os
passed [] h = tt
passed (None ∷ os) h = (refl, passed os h)
passed (Some e ∷ os) h = absurd (cc)

pub unless_none : {X : Type 0} (test : Bool) (e : X) → unless test e ≡ None → test ≡ true
unless_none true e h = refl
unless_none false e h = absurd (cc)

pub map_none : {X Y : Type 0} (f : X → Y) (o : Option X) → option_map f o ≡ None → o ≡ None
map_none f None h = refl
map_none f (Some x) h = absurd (cc)

pub broken_none : {X : Type 0} (test : X → Bool) (xs : List X) (n : ℕ) → first_broken test xs n ≡ None → AllPass test xs
broken_none test xs n h = rw h at (tested test xs n)
