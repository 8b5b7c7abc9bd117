-- What a run of fields of one kind gives to the elements of a list.
use Rattle.std.specs.Prelude.{◌≡◌, ℕ, List, ◌++◌, length, drop, replicate, Some, Ok, Err, Result}
use Rattle.arrayvec.specs.ArrayVec.{ArrayVec}
use Rattle.market.specs.declared.refusal.Refusal.{Refusal}
use Rattle.market.specs.declared.refusal.Refusal.TheVariants.{Field}
use Rattle.line.specs.Kinds.{Kind, plain_number, misfit}
use Rattle.line.specs.Runs.{each, from_runs}
use Rattle.line.specs.Cursors.{rest}
use Rattle.line.specs.declared.cursor.Cursor.{Cursor}

-- the cursor has passed the first kinds and stands at the others
abbrev pub Passed : (List Kind → List Kind) → Cursor → Cursor → Type 0
Passed before s t = (ks : List Kind) → misfit (before ks) (rest s) s.index ≡ misfit ks (rest t) t.index

-- a field at fault stands among the first kinds
abbrev pub Failed : (List Kind → List Kind) → Cursor → Refusal → Type 0
Failed before s e = (p : ℕ) × ((ks : List Kind) → misfit (before ks) (rest s) s.index ≡ Some p) × (e ≡ Field p)

-- a field of a kind for each element, and on
abbrev pub run : {A : Type 0} → Kind → List A → List Kind → List Kind
run k ps ks = replicate (length ps) k ++ ks

-- each makes an element of a field of its own, all of one kind
abbrev pub Filled : {A X : Type 0} → Kind → (A → List ℕ → X) → Cursor → List A → Result (ArrayVec X) Refusal → Cursor → Type 0
Filled k f s ps (Ok xs) t = Passed (run k ps) s t × (xs.items ≡ each f ps (rest s)) × (rest t ≡ drop (length ps) (rest s))
Filled k f s ps (Err e) t = Failed (run k ps) s e

-- n plain numbers, and then a field of a kind for each of them, make n elements
abbrev pub FilledTwice : {X : Type 0} → Kind → (ℕ → List ℕ → X) → ℕ → Cursor → Result (ArrayVec X) Refusal → Cursor → Type 0
FilledTwice k f n s (Ok xs) t = Passed (λ ks. replicate n plain_number ++ (replicate n k ++ ks)) s t × (xs.items ≡ from_runs f n (rest s))
FilledTwice k f n s (Err e) t = Failed (λ ks. replicate n plain_number ++ (replicate n k ++ ks)) s e
