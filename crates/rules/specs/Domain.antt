-- What a rule is asked to divide, and the laws that its shares keep.
use Rattle.std.specs.Prelude.{◌≡◌, ℕ, ◌+◌, ◌≤◌, min, List, [], ◌∷◌, length}
use Rattle.std.specs.List.{All}

-- The sum of a list.
abbrev pub total : List ℕ → ℕ
total [] = 0
total (q ∷ qs) = q + total qs

-- One number for each of the second list, none above it.
abbrev pub Below : List ℕ → List ℕ → Type 0
Below [] [] = Unit {0}
Below [] (q ∷ qs) = ⊥
Below (k ∷ ks) [] = ⊥
Below (k ∷ ks) (q ∷ qs) = (k ≤ q) × Below ks qs

-- The inputs that a rule answers for: 1 to 256 quantities of at most 10,000 each, and at most 2,560,000 to give.
pub record Domain (qs : List ℕ) (give : ℕ) : Type 0 where
  pub some : 1 ≤ length qs
  pub few : length qs ≤ 256
  pub small : All (λ q. q ≤ 10000) qs
  pub bounded : give ≤ 2560000

-- What the shares of every rule keep, over the domain and nowhere else.
pub record Laws (shares : List ℕ → ℕ → List ℕ) : Type 0 where
  -- There is one share for each quantity.
  pub count : (qs : List ℕ) (give : ℕ) → Domain qs give → length (shares qs give) ≡ length qs
  -- No share is above its quantity (`Below` also says again that there is one for each).
  pub within : (qs : List ℕ) (give : ℕ) → Domain qs give → Below (shares qs give) qs
  -- The shares come to all that is to give, or to all the quantities where those are less.
  pub sum : (qs : List ℕ) (give : ℕ) → Domain qs give → total (shares qs give) ≡ min give (total qs)
