-- The first field of a line, and those after it.
use Rattle.std.proofs.Common.{◌≡◌, ℕ, suc, ◌+◌, ◌≤◌, Bool, true, false, cond, eqb, leb, List, [], ◌∷◌, length, take, drop, sym, refl, ap, ◌∙◌, add-one, one-add, arith}
use Rattle.std.specs.List.{prefix_len}
use Rattle.std.proofs.lemmas.List.{drop-drop, length-drop}
use Rattle.std.proofs.lemmas.Bool.{cond-true, le-leb}
use Rattle.std.proofs.lemmas.Bool.Decides.{nat_tests}
use Rattle.line.specs.Bytes.{fields_of, onto}
use Rattle.line.specs.Cursors.{solid, left}

pub left_inside : (line : List ℕ) (at : ℕ) → at ≤ length line → left line at ≡ fields_of (drop at line)
left_inside line at h = cond-true (leb at (length line)) _ _ (le-leb at (length line) h)

left_cons : (b : ℕ) (bs : List ℕ) (n : ℕ) → left (b ∷ bs) (n + 1) ≡ left bs n
left_cons b bs n =
    let e : leb (n + 1) (suc (length bs)) ≡ leb n (length bs) = grind (arith, nat_tests) in
    let d : drop (n + 1) (b ∷ bs) ≡ drop n bs = rw add-one in
    (λ i. cond (e i) (fields_of (d i)) [])

left-drop : (line : List ℕ) (at n : ℕ) → at ≤ length line → left (drop at line) n ≡ left line (at + n)
left-drop line at n h =
    let e : leb n (length (drop at line)) ≡ leb (at + n) (length line) = rw length-drop (grind (arith, nat_tests)) in
    let d : drop n (drop at line) ≡ drop (at + n) line = drop-drop n at line in
    (λ i. cond (e i) (fields_of (d i)) [])

pub fields_split : (xs : List ℕ) → fields_of xs ≡ take (prefix_len solid xs) xs ∷ left xs (prefix_len solid xs + 1)
fields_split [] = refl
fields_split (b ∷ bs) = ap (onto b) (fields_split bs) ∙ go (eqb b 32) refl (fields_split bs)
  where
    go : (t : Bool) → eqb b 32 ≡ t → fields_of bs ≡ take (prefix_len solid bs) bs ∷ left bs (prefix_len solid bs + 1) → onto b (take (prefix_len solid bs) bs ∷ left bs (prefix_len solid bs + 1)) ≡ take (prefix_len solid (b ∷ bs)) (b ∷ bs) ∷ left (b ∷ bs) (prefix_len solid (b ∷ bs) + 1)
    go true e h = rw e (ap (λ l. [] ∷ l) (sym h ∙ sym (left_inside bs 0 (omega arith)) ∙ sym (left_cons b bs 0)))
    go false e h = rw (e, one-add) (ap (λ l. (b ∷ take (prefix_len solid bs) bs) ∷ l) (sym (left_cons b bs (prefix_len solid bs + 1)) ∙ ap (λ n. left (b ∷ bs) (n + 1)) (add-one (prefix_len solid bs))))

pub left_split : (line : List ℕ) (at n : ℕ) → at ≤ length line → n ≡ prefix_len solid (drop at line) → left line at ≡ take n (drop at line) ∷ left line (at + n + 1)
left_split line at n h e =
    left_inside line at h ∙ fields_split (drop at line)
    ∙ rw (← e) (ap (λ l. take n (drop at line) ∷ l) (left-drop line at (n + 1) h ∙ ap (left line) (omega arith)))
