-- A loop that makes an element of each field of a run.
use Rattle.std.proofs.Common.{◌≡◌, ℕ, suc, ◌+◌, ◌-◌, ◌<◌, ◌≤◌, true, false, List, [], ◌∷◌, ◌++◌, length, get_or, drop, replicate, Some, Ok, Option, sym, refl, ap, ◌∙◌, subst, arith}
use Rattle.std.proofs.lemmas.List.{append_assoc, append-nil, drop_all, drop_more, length-replicate}
use Rattle.line.specs.Bytes.{first, others}
use Rattle.line.specs.Kinds.{Kind, fits, misfit, opens}
use Rattle.line.specs.Cursors.{rest}
use Rattle.line.specs.Runs.{each, places, numbers, from_runs}
use Rattle.line.specs.Fills.{run, Passed, Filled}
use Rattle.line.specs.declared.cursor.Cursor.{Cursor}

-- from the cursor at s, where all of ps was to come, to the cursor at t, where qs is still to come, the elements xs were made
pub record Filling {A X : Type 0} (k : Kind) (f : A → List ℕ → X) (s : Cursor) (ps : List A) (t : Cursor) (qs : List A) (xs : List X) : Type 0 where
  pub place : (ks : List Kind) → misfit (run k ps ks) (rest s) s.index ≡ misfit (run k qs ks) (rest t) t.index
  pub made : xs ++ each f qs (rest t) ≡ each f ps (rest s)
  pub left : drop (length qs) (rest t) ≡ drop (length ps) (rest s)

module _ {A X : Type 0} {k : Kind} {f : A → List ℕ → X} {s : Cursor} {ps : List A} where
  module _ {q : A} {qs : List A} {t : Cursor} {xs : List X} (h : Filling k f s ps t (q ∷ qs) xs) where
    pub refused : opens (fits k) (rest t) ≡ false → (ks : List Kind) → misfit (run k ps ks) (rest s) s.index ≡ Some t.index
    refused bad ks = h.place ks ∙ rw bad refl

    pub one_more : {u : Cursor} {x : X} → opens (fits k) (rest t) ≡ true → x ≡ f q (first (rest t)) → rest u ≡ others (rest t) → u.index ≡ t.index + 1 → Filling k f s ps u qs (xs ++ x ∷ [])
    one_more good is r n = record {
      place = λ ks. h.place ks ∙ rw (good, ← r, ← n) refl;
      made = append_assoc xs _ _ ∙ (λ j. xs ++ (is j ∷ each f qs (r j))) ∙ h.made;
      left = ap (drop (length qs)) r ∙ skip (rest t) ∙ h.left;
    }
      where
        skip : (fs : List (List ℕ)) → drop (length qs) (others fs) ≡ drop (suc (length qs)) fs
        skip [] = drop_all (length qs) [] (omega arith)
        skip (f ∷ fs) = refl

-- the next of the parts
pub next_part : {X : Type 0} {k : Kind} {f : ℕ → List ℕ → X} {s t : Cursor} {ns : List ℕ} {xs : List X} (i : ℕ) → i < length ns → Filling k f s ns t (drop i ns) xs → Filling k f s ns t (get_or ns i 0 ∷ drop (i + 1) ns) xs
next_part {k = k} {f = f} {s = s} {t = t} {ns = ns} {xs = xs} i h = subst (λ qs. Filling k f s ns t qs xs) (drop_more ns i 0 h)

-- no part is left
pub done : {A X : Type 0} {k : Kind} {f : A → List ℕ → X} {s t : Cursor} {ps : List A} {xs : List X} → Filling k f s ps t [] xs → Filled k f s ps (Ok (record { items = xs })) t
done h = (h.place, sym (append-nil _) ∙ h.made, h.left)

pub all_parts : {A X : Type 0} {k : Kind} {f : A → List ℕ → X} {s t : Cursor} {ps : List A} {xs : List X} (i : ℕ) → length ps ≤ i → Filling k f s ps t (drop i ps) xs → Filled k f s ps (Ok (record { items = xs })) t
all_parts {k = k} {f = f} {s = s} {t = t} {ps = ps} {xs = xs} i h g = done (subst (λ qs. Filling k f s ps t qs xs) (drop_all i ps h) g)

-- n places, one of which is next
pub next_place : {X : Type 0} {k : Kind} {f : Unit {0} → List ℕ → X} {s t : Cursor} {xs : List X} (n i : ℕ) → i < n → Filling k f s (places n) t (places (n - i)) xs → Filling k f s (places n) t (tt ∷ places (n - (i + 1))) xs
next_place {k = k} {f = f} {s = s} {t = t} {xs = xs} n i h = subst (λ m. Filling k f s (places n) t (places m) xs) (let e : n - i ≡ suc (n - (i + 1)) = omega arith in e)

module _ (s u : Cursor) (ns : List ℕ) (n : ℕ) where
  -- behind n fields of a kind, from s to u, one of another kind is asked for each of ns
  pub after_numbers : (k l : Kind) → length ns ≡ n → Passed (run k (places n)) s u → (o : List Kind → Option ℕ) → ((ks : List Kind) → misfit (run l ns ks) (rest u) u.index ≡ o ks) → (ks : List Kind) → misfit (replicate n k ++ (replicate n l ++ ks)) (rest s) s.index ≡ o ks
  after_numbers k l many p o q ks =
      subst (λ m. misfit (replicate m k ++ (replicate n l ++ ks)) (rest s) s.index ≡ misfit (replicate n l ++ ks) (rest u) u.index) (length-replicate n tt) (p (replicate n l ++ ks))
      ∙ subst (λ m. misfit (replicate m l ++ ks) (rest u) u.index ≡ o ks) many (q ks)

  -- the elements made of both runs
  pub all_made : {X : Type 0} (f : ℕ → List ℕ → X) (xs : List X) → ns ≡ numbers n (rest s) → rest u ≡ drop (length (places n)) (rest s) → xs ≡ each f ns (rest u) → xs ≡ from_runs f n (rest s)
  all_made f xs is left made = made ∙ (λ j. each f (is j) (left j)) ∙ ap (λ m. each f (numbers n (rest s)) (drop m (rest s))) (length-replicate n tt)
