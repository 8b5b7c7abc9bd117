-- The fields of a line are its parts between spaces.
use Rattle.std.proofs.Common.{◌≡◌, ℕ, suc, Bool, true, false, eqb, List, [], ◌∷◌, length, drop, sym, refl, ap, ◌∙◌, arith}
use Rattle.std.specs.List.{All}
use Rattle.std.proofs.lemmas.Bool.{eqb-true}
use Rattle.std.proofs.lemmas.List.Elements.{All-nil, All-cons, All-head, All-tail}
use Rattle.line.specs.Bytes.{fields_of, onto}
use Rattle.line.specs.Verdicts.{Parted}

-- a byte that is no space
abbrev Solid : ℕ → Type 0
Solid b = eqb b 32 ≡ false

onto_parted : (b : ℕ) (bs : List ℕ) (fs : List (List ℕ)) → Parted bs fs → Parted (b ∷ bs) (onto b fs)
onto_parted b bs [] h = absurd (let e : 0 ≡ suc (length bs) = ap length h.whole in omega arith)
onto_parted b bs (f ∷ fs) h = go (eqb b 32) refl
  where
    plain : All (All Solid) (f ∷ fs)
    plain = h.plain

    go : (t : Bool) → eqb b 32 ≡ t → Parted (b ∷ bs) (onto b (f ∷ fs))
    go true e = rw e (record { whole = ap (λ l. 32 ∷ l) h.whole ∙ ap (λ x. 32 ∷ (x ∷ bs)) (sym (eqb-true b 32 e)); plain = All-cons (All Solid) [] (f ∷ fs) (All-nil Solid) plain })
    go false e = rw e (record { whole = ap (λ l. 32 ∷ (b ∷ drop 1 l)) h.whole; plain = All-cons (All Solid) (b ∷ f) fs (All-cons Solid b f e (All-head (All Solid) f fs plain)) (All-tail (All Solid) f fs plain) })

pub parted : (line : List ℕ) → Parted line (fields_of line)
parted [] = record { whole = refl; plain = All-cons (All Solid) [] [] (All-nil Solid) (All-nil (All Solid)) }
parted (b ∷ bs) = onto_parted b bs (fields_of bs) (parted bs)
