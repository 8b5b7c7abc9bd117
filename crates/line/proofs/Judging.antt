-- What the verdict on a line says, byte by byte and field by field.
use Rattle.std.proofs.Common.{◌≡◌, ℕ, zero, suc, ◌+◌, ◌<◌, ◌≤◌, Bool, true, false, cond, ltb, List, [], ◌∷◌, length, take, Some, None, Option, Result, sym, refl, ap, ◌∙◌, subst, add-zero, zero-add, arith, length-take}
use Rattle.std.proofs.lemmas.List.{get_or-take}
use Rattle.std.proofs.lemmas.List.Sums.{prefix_len-le-length, prefix_len_passes, prefix_len_stops}
use Rattle.std.proofs.lemmas.Bool.{cond_both, ltb-true, ltb-false}
use Rattle.market.specs.declared.refusal.Refusal.{Refusal}
use Rattle.line.specs.Bytes.{fields_of, allowed, clean}
use Rattle.line.specs.Kinds.{Kind, fits, misfit, Form, answer}
use Rattle.line.specs.Verdicts.{read_line, as_asked, FirstMisfit, Clean, BadByte, Judged, bad_byte, bad_field, sound, Read}
use Rattle.line.proofs.Partings.{parted}

-- what the place of the first misfit says, counted from n
abbrev Placed : List Kind → List (List ℕ) → ℕ → Option ℕ → Type 0
Placed ks fs n None = (i : ℕ) → as_asked ks fs i ≡ true
Placed ks fs n (Some p) = (i : ℕ) × (p ≡ n + i) × FirstMisfit ks fs i

at_first : (ks : List Kind) (fs : List (List ℕ)) (n : ℕ) → as_asked ks fs 0 ≡ false → Placed ks fs n (Some n)
at_first ks fs n e = (0, sym (add-zero n), record { here = e; before = λ j l. absurd (omega arith) })

one_on : (k : Kind) (ks : List Kind) (f : List ℕ) (fs : List (List ℕ)) (n : ℕ) (o : Option ℕ) → fits k f ≡ true → Placed ks fs (n + 1) o → Placed (k ∷ ks) (f ∷ fs) n o
one_on k ks f fs n None e h = elim [ zero ↦ e | suc i ↦ h i ]
one_on k ks f fs n (Some p) e h = (suc h.0, omega (arith, h.1), record { here = h.2.here; before = elim [ zero ↦ λ l. e | suc i ↦ λ l. h.2.before i (omega arith) ] })

placed : (ks : List Kind) (fs : List (List ℕ)) (n : ℕ) → Placed ks fs n (misfit ks fs n)
placed [] [] n = λ i. refl
placed [] (f ∷ fs) n = at_first [] (f ∷ fs) n refl
placed (k ∷ ks) [] n = at_first (k ∷ ks) [] n refl
placed (k ∷ ks) (f ∷ fs) n = go (fits k f) refl (placed ks fs (n + 1))
  where
    go : (t : Bool) → fits k f ≡ t → Placed ks fs (n + 1) (misfit ks fs (n + 1)) → Placed (k ∷ ks) (f ∷ fs) n (cond (fits k f) (misfit ks fs (n + 1)) (Some n))
    go true e h = rw e (one_on k ks f fs n (misfit ks fs (n + 1)) e h)
    go false e h = rw e (at_first (k ∷ ks) (f ∷ fs) n e)

at_fault : (line : List ℕ) → clean line < length line → BadByte line (clean line)
at_fault line l =
    let head = take 1200 line in
    let long = length-take 1200 line in
    let most = prefix_len-le-length allowed head in
    record {
      inside = l;
      limit = omega arith;
      before = λ j m. sym (ap allowed (get_or-take 1200 line j 0 (omega arith))) ∙ prefix_len_passes allowed head j 0 m;
      here = λ m. sym (ap allowed (get_or-take 1200 line (clean line) 0 m)) ∙ prefix_len_stops allowed head 0 (omega arith);
    }

no_fault : (line : List ℕ) → length line ≤ clean line → Clean line
no_fault line l =
    let head = take 1200 line in
    let long = length-take 1200 line in
    let most = prefix_len-le-length allowed head in
    record {
      short = omega arith;
      bytes = λ j m. sym (ap allowed (get_or-take 1200 line j 0 (omega arith))) ∙ prefix_len_passes allowed head j 0 (omega arith);
    }

module _ {X : Type 0} (form : List (List ℕ) → Form X) (line : List ℕ) where
  from_place : (o : Option ℕ) → Clean line → Placed (form (fields_of line)).kinds (fields_of line) 0 o → Judged form line (answer o (form (fields_of line)).value)
  from_place None h p = sound h p
  from_place (Some n) h p = bad_field n h (subst (FirstMisfit (form (fields_of line)).kinds (fields_of line)) (sym (p.1 ∙ zero-add p.0)) p.2)

  judged : Judged form line (read_line form line)
  judged =
      cond_both (ltb (clean line) (length line)) _ _ (Judged form line)
      (λ e. bad_byte (clean line) (at_fault line (ltb-true _ _ e)))
      (λ e. from_place (misfit (form (fields_of line)).kinds (fields_of line) 0) (no_fault line (ltb-false _ _ e)) (placed (form (fields_of line)).kinds (fields_of line) 0))

  pub reads : Read form line (read_line form line)
  reads = record { value = refl; judged = judged; parted = parted line }

  pub as_read : (r : Result X Refusal) → r ≡ read_line form line → Read form line r
  as_read r e = subst (Read form line) (sym e) reads
