-- Rows told one after another.
use Rattle.std.proofs.Common.{◌≡◌, ℕ, suc, ◌+◌, ◌-◌, ◌<◌, ◌≤◌, List, [], ◌∷◌, ◌++◌, map, length, get_or, take, set, Some, None, Option, sym, refl, ap, ◌∙◌, subst, arith}
use Rattle.std.proofs.lemmas.List.{append_assoc, append-nil, map-append, take_more, length-append, length-replicate, length-set, set_at}
use Rattle.std.specs.Option.{MatchOption}
use Rattle.market.specs.declared.row.Row.{Row}
use Rattle.market.specs.Rows.{blank, blank_row}
use Rattle.book.specs.declared.told.Told.{Told}
use Rattle.book.specs.Reports.{Holds, SameReport, Tells}

pub blank_long : (rows : List Row) (n : ℕ) → rows ≡ blank n → length rows ≡ n
blank_long rows n e = ap length e ∙ length-replicate n blank_row

-- the first row of zeros is written over
over-blank : (told : List Row) (n k : ℕ) (row : Row) → k ≡ length told → k < n → set (told ++ blank (n - length told)) k row ≡ (told ++ row ∷ []) ++ blank (n - length (told ++ row ∷ []))
over-blank told n k row e lt =
    let long : length (told ++ row ∷ []) ≡ length told + 1 = length-append told (row ∷ []) in
    let one : n - length told ≡ suc (n - length (told ++ row ∷ [])) = omega arith in
    ap (λ m. set (told ++ blank m) k row) one
    ∙ set_at told blank_row (blank (n - length (told ++ row ∷ []))) row k (sym e)
    ∙ sym (append_assoc told (row ∷ []) (blank (n - length (told ++ row ∷ []))))

-- a row is told at the count
pub told_inside : (count : Option ℕ) (k : ℕ) (rows told : List Row) (row : Row) → count ≡ Some k → k < length rows
    → MatchOption count (length rows < length told) (λ n. (n ≡ length told) × (length told ≤ length rows) × (rows ≡ told ++ blank (length rows - length told)))
    → (k + 1 ≡ length (told ++ row ∷ [])) × (length (told ++ row ∷ []) ≤ length (set rows k row)) × (set rows k row ≡ (told ++ row ∷ []) ++ blank (length (set rows k row) - length (told ++ row ∷ [])))
told_inside None k rows told row is lt h = cc
told_inside (Some n) k rows told row is lt h =
    let here : n ≡ k = cc in
    let long = length-append told (row ∷ []) in
    let same = length-set rows k row in (
      omega (arith, h.0),
      omega (arith, h.0),
      ap (λ xs. set xs k row) h.2 ∙ over-blank told (length rows) k row (omega (arith, h.0)) lt
          ∙ ap (λ n. (told ++ row ∷ []) ++ blank (n - length (told ++ row ∷ []))) (sym same),
    )

pub tells_none : (t : Told) → Tells t [] t
tells_none t = record { report = record { same = refl; long = refl }; holds = λ told h. subst (Holds t) (sym (append-nil told)) h }

pub wiped_same : (t t' : Told) → t'.rows.ghost_name ≡ t.rows.ghost_name → t'.rows.now ≡ blank (length t.rows.now) → SameReport t t'
wiped_same t t' same wiped = record { same = same; long = blank_long t'.rows.now (length t.rows.now) wiped }

pub same_then : (t t' t'' : Told) → SameReport t t' → SameReport t' t'' → SameReport t t''
same_then t t' t'' a b = record { same = b.same ∙ a.same; long = b.long ∙ a.long }

pub tells_then : (t t' t'' : Told) (new newer : List Row) → Tells t new t' → Tells t' newer t'' → Tells t (new ++ newer) t''
tells_then t t' t'' new newer a b = record {
  report = same_then t t' t'' a.report b.report;
  holds = λ told h. subst (Holds t'') (append_assoc told new newer) (b.holds (told ++ new) (a.holds told h));
}

-- one more row, of the element at the place i
pub tells_next : {X : Type 0} (f : X → Row) (xs : List X) (i : ℕ) (d : X) (t₀ t t' : Told) (row : Row) → i < length xs → Tells t₀ (map f (take i xs)) t → row ≡ f (get_or xs i d) → Tells t (row ∷ []) t' → Tells t₀ (map f (take (i + 1) xs)) t'
tells_next f xs i d t₀ t t' row lt so_far is new =
    subst (λ (rs : List Row). Tells t₀ rs t') (ap (λ (r : Row). map f (take i xs) ++ r ∷ []) is ∙ sym (ap (map f) (take_more xs i d lt) ∙ map-append f (take i xs) (get_or xs i d ∷ [])))
    (tells_then t₀ t t' (map f (take i xs)) (row ∷ []) so_far new)
