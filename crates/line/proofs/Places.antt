-- A line's refusal has number 1 or 2, and a place within the line.
use Rattle.std.proofs.Common.{◌≡◌, ℕ, suc, ◌+◌, ◌≤◌, eqb, ltb, List, [], ◌∷◌, length, take, Some, None, Ok, Err, Option, Result, sym, subst, arith, length-take}
use Rattle.std.proofs.lemmas.List.Sums.{prefix_len-le-length}
use Rattle.std.proofs.lemmas.Bool.{cond_both, ltb-false}
use Rattle.market.specs.Refusals.{refusal_code}
use Rattle.market.specs.declared.refusal.Refusal.{Refusal}
use Rattle.line.specs.Bytes.{allowed, clean, onto, fields_of}
use Rattle.line.specs.Kinds.{Kind, fits, misfit, Form, answer}
use Rattle.line.specs.Verdicts.{read_line}

abbrev UpTo : ℕ → Option ℕ → Type 0
UpTo n None = Unit {0}
UpTo n (Some p) = p ≤ n

further : (m n : ℕ) (o : Option ℕ) → m ≤ n → UpTo m o → UpTo n o
further m n None h u = tt
further m n (Some p) h u = omega arith

misfit_place : (ks : List Kind) (fs : List (List ℕ)) (n : ℕ) → UpTo (n + length fs) (misfit ks fs n)
misfit_place [] [] n = tt
misfit_place [] (f ∷ fs) n = omega arith
misfit_place (k ∷ ks) [] n = omega arith
misfit_place (k ∷ ks) (f ∷ fs) n =
    cond_both (fits k f) _ _ (UpTo (n + suc (length fs)))
    (λ e. further (n + 1 + length fs) (n + suc (length fs)) (misfit ks fs (n + 1)) (omega arith) (misfit_place ks fs (n + 1)))
    (λ e. let h : n ≤ n + suc (length fs) = omega arith in h)

onto-length : (b : ℕ) (fs : List (List ℕ)) → length (onto b fs) ≤ suc (length fs)
onto-length b [] = omega arith
onto-length b (f ∷ fs) =
    let P : List (List ℕ) → Type 0 = λ gs. length gs ≤ suc (suc (length fs)) in
    cond_both (eqb b 32) _ _ P (λ e. let h : suc (suc (length fs)) ≤ suc (suc (length fs)) = omega arith in h) (λ e. let h : suc (length fs) ≤ suc (suc (length fs)) = omega arith in h)

fields_length : (line : List ℕ) → length (fields_of line) ≤ suc (length line)
fields_length [] = omega arith
fields_length (b ∷ bs) = let h = fields_length bs in let k = onto-length b (fields_of bs) in omega arith

-- a refusal, if any, has number 1 or 2 and a place up to 1201
abbrev pub LineRefusal : {X : Type 0} → Result X Refusal → Type 0
LineRefusal (Ok x) = Unit {0}
LineRefusal (Err e) = (1 ≤ (refusal_code e).number) × ((refusal_code e).number ≤ 2) × ((refusal_code e).place ≤ 1201)

module _ {X : Type 0} (form : List (List ℕ) → Form X) (line : List ℕ) where
  from_place : (o : Option ℕ) (x : X) → UpTo 1201 o → LineRefusal (answer o x)
  from_place None x u = tt
  from_place (Some p) x u = (omega arith, omega arith, u)

  pub line_refusal : LineRefusal (read_line form line)
  line_refusal =
      let fs = fields_of line in
      let most = prefix_len-le-length allowed (take 1200 line) in
      let long = length-take 1200 line in
      cond_both (ltb (clean line) (length line)) _ _ LineRefusal
      (λ e. (omega arith, omega arith, omega arith))
      (λ e. from_place (misfit (form fs).kinds fs 0) (form fs).value
      (further (0 + length fs) 1201 (misfit (form fs).kinds fs 0)
      (let s = ltb-false _ _ e in let l = fields_length line in omega arith)
      (misfit_place (form fs).kinds fs 0)))

  pub refused_by : (e : Refusal) → Err e ≡ read_line form line → LineRefusal {X = X} (Err e)
  refused_by e h = subst LineRefusal (sym h) line_refusal
