-- Elements whose parts stand in two runs of fields.
use Rattle.std.specs.Prelude.{ℕ, List, [], ◌∷◌, ◌++◌, drop, replicate}
use Rattle.line.specs.Bytes.{first, others}
use Rattle.line.specs.Numbers.{decimal}
use Rattle.line.specs.Kinds.{Kind}

-- n fields of one kind, and then n of another
abbrev pub two_runs : ℕ → Kind → Kind → List Kind
two_runs n k l = replicate n k ++ (replicate n l ++ [])

-- what each makes of a field of its own
abbrev pub each : {A X : Type 0} → (A → List ℕ → X) → List A → List (List ℕ) → List X
each f [] fs = []
each f (p ∷ ps) fs = f p (first fs) ∷ each f ps (others fs)

-- n places, with nothing known of them
abbrev pub places : ℕ → List (Unit {0})
places n = replicate n (tt {0})

-- the numbers of n fields
abbrev pub numbers : ℕ → List (List ℕ) → List ℕ
numbers n fs = each (λ _ f. decimal f) (places n) fs

-- n elements, each of a number of the first run and a field of the second
abbrev pub from_runs : {X : Type 0} → (ℕ → List ℕ → X) → ℕ → List (List ℕ) → List X
from_runs f n fs = each f (numbers n fs) (drop n fs)
