-- Tables of conditions: they are tried from the top down, and each over all fields.
use Rattle.std.specs.Prelude.{◌≡◌, ℕ, ◌+◌, Bool, false, cond, List, [], ◌∷◌, ◌++◌, length, Some, None, Option}
use Rattle.std.specs.List.{AllPass}

-- at fault unless the test holds
abbrev pub unless : {X : Type 0} → Bool → X → Option X
unless test e = cond test None (Some e)

-- of the conditions of a table, from the top down, the first that holds
abbrev pub topmost : {X : Type 0} → List (Option X) → Option X
topmost [] = None
topmost (None ∷ faults) = topmost faults
topmost (Some e ∷ faults) = Some e

-- the field of the first element that fails a test, where the first of the list has its field at the place n
abbrev pub first_broken : {X : Type 0} → (X → Bool) → List X → ℕ → Option ℕ
first_broken test [] n = None
first_broken test (x ∷ xs) n = cond (test x) (first_broken test xs (n + 1)) (Some n)

-- p is the field of the first element that fails the test, where the first of the list has its field at the place n
pub record FirstFailing {X : Type 0} (test : X → Bool) (xs : List X) (n p : ℕ) : Type 0 where
  pub before : List X
  pub broken : X
  pub behind : List X
  pub parts : xs ≡ before ++ (broken ∷ behind)
  pub passed : AllPass test before
  pub fails : test broken ≡ false
  pub names : p ≡ n + length before
