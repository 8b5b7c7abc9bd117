-- How lines go on from one block to the next.
use Rattle.std.proofs.Common.{◌≡◌, ℕ, zero, suc, ◌+◌, ◌-◌, ◌<◌, ◌≤◌, min, Bool, true, false, cond, eqb, ltb, ◌⊎◌, List, [], ◌∷◌, ◌++◌, length, take, Some, None, ◌==◌, sym, refl, ap, ◌∙◌, inl, inr, arith}
use Rattle.std.proofs.lemmas.List.{append_assoc, append-nil, take_all}
use Rattle.std.proofs.lemmas.List.Elements.{All-nil, All-cons}
use Rattle.std.proofs.lemmas.List.Recursion.{is_position_or_len}
use Rattle.std.proofs.lemmas.Bool.{cases_lt}
use Rattle.std.proofs.lemmas.Bool.Decides.{nat_tests}
use Rattle.std.specs.List.{position, position_or_len, flat_map, All}
use Rattle.console.specs.Lines.{closed_after, open_after, closed_lines, open_line, has_newline, before_newline, Parted}

-- ---- fronts

pub take-onto : (k : ℕ) (xs ys : List ℕ) → length xs ≤ k → take k (xs ++ ys) ≡ xs ++ take (k - length xs) ys
take-onto k [] ys h = ap (λ n. take n ys) (omega arith)
take-onto zero (x ∷ xs) ys h = absurd (omega arith)
take-onto (suc k) (x ∷ xs) ys h = ap (λ l. x ∷ l) (take-onto k xs ys (omega arith)) ∙ ap (λ n. x ∷ (xs ++ take n ys)) (omega arith)

-- as much as there is room for
pub take_room : (k n : ℕ) (xs ys : List ℕ) → length xs ≤ k → n ≡ min (length ys) (k - length xs) → xs ++ take n ys ≡ take k (xs ++ ys)
take_room k n xs ys h e = ap (λ t. xs ++ t) (room (cases_lt (length ys) (k - length xs))) ∙ sym (take-onto k xs ys h)
  where
    room : (length ys < k - length xs) ⊎ (k - length xs ≤ length ys) → take n ys ≡ take (k - length xs) ys
    room (inl l) = take_all n ys (omega arith) ∙ sym (take_all (k - length xs) ys (omega arith))
    room (inr l) = ap (λ m. take m ys) (omega arith)

-- what is cut off does not come back
pub take_again : (k : ℕ) (xs ys : List ℕ) → take k (take k xs ++ ys) ≡ take k (xs ++ ys)
take_again zero xs ys = refl
take_again (suc k) [] ys = refl
take_again (suc k) (x ∷ xs) ys = ap (λ l. x ∷ l) (take_again k xs ys)

-- ---- input that goes on

pub closed_on : (part xs ys : List ℕ) → closed_after part (xs ++ ys) ≡ closed_after part xs ++ closed_after (open_after part xs) ys
closed_on part [] ys = refl
closed_on part (b ∷ xs) ys = let e = closed_on [] xs ys in let f = closed_on (part ++ (b ∷ [])) xs ys in grind (arith, nat_tests)

pub open_on : (part xs ys : List ℕ) → open_after part (xs ++ ys) ≡ open_after (open_after part xs) ys
open_on part [] ys = refl
open_on part (b ∷ xs) ys = let e = open_on [] xs ys in let f = open_on (part ++ (b ∷ [])) xs ys in grind (arith, nat_tests)

-- bytes with no newline close nothing
pub closed_plain : (part xs : List ℕ) → has_newline xs ≡ false → closed_after part xs ≡ []
closed_plain part [] h = refl
closed_plain part (b ∷ xs) h = let f = closed_plain (part ++ (b ∷ [])) xs in grind (arith, nat_tests)

pub open_plain : (part xs : List ℕ) → has_newline xs ≡ false → open_after part xs ≡ part ++ xs
open_plain part [] h = sym (append-nil part)
open_plain part (b ∷ xs) h = let f = open_plain (part ++ (b ∷ [])) xs in let a = append_assoc part (b ∷ []) xs in grind (arith, nat_tests)

-- ---- up to the first newline

pub before_plain : (xs : List ℕ) → has_newline (before_newline xs) ≡ false
before_plain [] = refl
before_plain (b ∷ xs) = let e = before_plain xs in grind (arith, nat_tests)

pub before_all : (xs : List ℕ) → has_newline xs ≡ false → before_newline xs ≡ xs
before_all [] h = refl
before_all (b ∷ xs) h = let e = before_all xs in grind (arith, nat_tests)

pub before_le : (xs : List ℕ) → length (before_newline xs) ≤ length xs
before_le [] = omega arith
before_le (b ∷ xs) = let e = before_le xs in grind (arith, nat_tests)

pub take_before : (xs : List ℕ) → take (length (before_newline xs)) xs ≡ before_newline xs
take_before [] = refl
take_before (b ∷ xs) = let e = take_before xs in grind (arith, nat_tests)

pub found_less : (xs : List ℕ) → has_newline xs ≡ ltb (length (before_newline xs)) (length xs)
found_less [] = refl
found_less (b ∷ xs) = let e = found_less xs in grind (arith, nat_tests)

pub take_found : (xs : List ℕ) → has_newline xs ≡ true → take (suc (length (before_newline xs))) xs ≡ before_newline xs ++ (10 ∷ [])
take_found [] h = grind (arith, nat_tests)
take_found (b ∷ xs) h = let e = take_found xs in grind (arith, nat_tests)

-- where the first newline is found
before_at : (xs : List ℕ) → length (before_newline xs) ≡ position_or_len (λ b. b == 10) xs
before_at xs = is_position_or_len (λ ys. length (before_newline ys)) (λ b. b == 10) refl (λ b ys. grind (arith, nat_tests)) xs

newline_at : (xs : List ℕ) → position (λ b. b == 10) xs ≡ cond (has_newline xs) (Some (length (before_newline xs))) None
newline_at xs =
    (λ i. cond (ltb (sym (before_at xs) i) (length xs)) (Some (sym (before_at xs) i)) None)
    ∙ ap (λ t. cond t (Some (length (before_newline xs))) None) (sym (found_less xs))

pub found_at : (xs : List ℕ) (n : ℕ) → position (λ b. b == 10) xs ≡ Some n → (has_newline xs ≡ true) × (n ≡ length (before_newline xs))
found_at xs n e = go (has_newline xs) refl (sym (newline_at xs) ∙ e)
  where
    go : (t : Bool) → has_newline xs ≡ t → cond t (Some (length (before_newline xs))) None ≡ Some n → (has_newline xs ≡ true) × (n ≡ length (before_newline xs))
    go true h e = (h, cc)
    go false h e = cc

pub none_at : (xs : List ℕ) → position (λ b. b == 10) xs ≡ None → has_newline xs ≡ false
none_at xs e = go (has_newline xs) refl (sym (newline_at xs) ∙ e)
  where
    go : (t : Bool) → has_newline xs ≡ t → cond t (Some (length (before_newline xs))) None ≡ None → has_newline xs ≡ false
    go true h e = cc
    go false h e = h

-- a cut uses no more than the block
pub used_le : (xs : List ℕ) → length (before_newline xs) + cond (has_newline xs) 1 0 ≤ length xs
used_le xs = let e = found_less xs in let h = before_le xs in grind (arith, nat_tests)

-- ---- every input is parted

whole_after : (part xs : List ℕ) → part ++ xs ≡ flat_map (λ l. l ++ (10 ∷ [])) (closed_after part xs) ++ open_after part xs
whole_after part [] = append-nil part
whole_after part (b ∷ xs) =
    let e = whole_after [] xs in
    let f = whole_after (part ++ (b ∷ [])) xs in
    let a = append_assoc part (b ∷ []) xs in
    let j = flat_map (λ l. l ++ (10 ∷ [])) (closed_after [] xs) in
    let a2 = append_assoc (part ++ (10 ∷ [])) j (open_after [] xs) in
    let a3 = append_assoc part (10 ∷ []) (j ++ open_after [] xs) in
    grind (arith, nat_tests)

plain_push : (xs : List ℕ) (b : ℕ) → has_newline xs ≡ false → eqb b 10 ≡ false → has_newline (xs ++ (b ∷ [])) ≡ false
plain_push [] b h e = grind (arith, nat_tests)
plain_push (x ∷ xs) b h e = let f = plain_push xs b in grind (arith, nat_tests)

abbrev Plain : List ℕ → Type 0
Plain l = has_newline l ≡ false

lines_plain_after : (part xs : List ℕ) → Plain part → All Plain (closed_after part xs)
lines_plain_after part [] h = All-nil Plain
lines_plain_after part (b ∷ xs) h = byte (eqb b 10) refl (lines_plain_after [] xs refl) (λ e. lines_plain_after (part ++ (b ∷ [])) xs (plain_push part b h e))
  where
    byte : (t : Bool) → eqb b 10 ≡ t → All Plain (closed_after [] xs) → (eqb b 10 ≡ false → All Plain (closed_after (part ++ (b ∷ [])) xs)) → All Plain (cond t (part ∷ closed_after [] xs) (closed_after (part ++ (b ∷ [])) xs))
    byte true e here there = All-cons Plain part (closed_after [] xs) h here
    byte false e here there = there e

part_plain_after : (part xs : List ℕ) → Plain part → Plain (open_after part xs)
part_plain_after part [] h = h
part_plain_after part (b ∷ xs) h = byte (eqb b 10) refl (part_plain_after [] xs refl) (λ e. part_plain_after (part ++ (b ∷ [])) xs (plain_push part b h e))
  where
    byte : (t : Bool) → eqb b 10 ≡ t → Plain (open_after [] xs) → (eqb b 10 ≡ false → Plain (open_after (part ++ (b ∷ [])) xs)) → Plain (cond t (open_after [] xs) (open_after (part ++ (b ∷ [])) xs))
    byte true e here there = here
    byte false e here there = there e

pub lines_part : (input : List ℕ) → Parted input (closed_lines input) (open_line input)
lines_part input = record { whole = whole_after [] input; lines_plain = lines_plain_after [] input refl; part_plain = part_plain_after [] input refl }
