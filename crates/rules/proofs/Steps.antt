-- Loops that read a list in order and write one number for each element: what each turn of them keeps, and what they end with.
use Rattle.std.specs.Prelude.{◌≡◌, ℕ, ◌+◌, ◌-◌, ◌*◌, ◌/◌, ◌<◌, ◌≤◌, min, List, [], ◌∷◌, ◌++◌, length, take, drop, slice_index, slice_set}
use Rattle.std.proofs.Common.{ap, sym, ◌∙◌, arith}
use Rattle.std.proofs.lemmas.List.{at_drop_more, at_drop_all, take_more_set, drop_more, drop-set-lt, append_assoc, append-nil, take_all, drop_all}
use Rattle.rules.specs.Domain.{total}
use Rattle.rules.specs.PriceTime.{price_time}
use Rattle.rules.specs.ProRata.{parts, one_more, one_each}

-- `F` of what is still to read is what is still to be written
pub write_more : (F G : List ℕ → List ℕ) (qs out : List ℕ) (i s : ℕ) → i < length qs → i < length out → F (slice_index qs i ∷ drop (i + 1) qs) ≡ s ∷ G (drop (i + 1) qs) → take (i + 1) (slice_set out i s) ++ G (drop (i + 1) qs) ≡ take i out ++ F (drop i qs)
write_more F G qs out i s inside room step =
    ap (λ xs. xs ++ G (drop (i + 1) qs)) (take_more_set out i s room)
    ∙ append_assoc (take i out) (s ∷ []) (G (drop (i + 1) qs))
    ∙ ap (λ xs. take i out ++ xs) (sym step ∙ sym (ap F (drop_more qs i 0 inside)))

pub write_end : (F : List ℕ → List ℕ) (qs out : List ℕ) (i : ℕ) → length qs ≤ i → length out ≡ length qs → F [] ≡ [] → take i out ++ F (drop i qs) ≡ out
write_end F qs out i past same none =
    ap (λ xs. take i out ++ F xs) (drop_all i qs past)
    ∙ ap (λ xs. take i out ++ xs) none
    ∙ append-nil (take i out)
    ∙ take_all i out (omega arith)

pub price_time_step : (q : ℕ) (qs : List ℕ) (left s : ℕ) → s ≡ min left q → price_time (q ∷ qs) left ≡ s ∷ price_time qs (left - s)
price_time_step q qs left s is =
    let rest : left - q ≡ left - s = omega arith in
    let head : min q left ≡ s = omega arith in
    cc

-- one turn of a loop that makes `one_each` in place: the share at `i` grows by `m`
pub one_each_next : (qs out : List ℕ) (i left m : ℕ) (after : List ℕ) (rest : ℕ) → i < length qs → i < length out → m ≡ one_more (slice_index qs i) (slice_index out i) left → after ≡ slice_set out i (slice_index out i + m) → rest ≡ left - m → take (i + 1) after ++ one_each (drop (i + 1) qs) (drop (i + 1) after) rest ≡ take i out ++ one_each (drop i qs) (drop i out) left
one_each_next qs out i left m after rest inside room is written left_is =
    let s : ℕ = slice_index out i + m in
    let same : drop (i + 1) (slice_set out i s) ≡ drop (i + 1) out = drop-set-lt (i + 1) out i s (omega arith) in
    let head : one_each (slice_index qs i ∷ drop (i + 1) qs) (drop i out) left ≡ s ∷ one_each (drop (i + 1) qs) (drop (i + 1) out) rest =
    (let cut = drop_more out i 0 room in cc) in
    simp (written, same) (write_more (λ xs. one_each xs (drop i out) left) (λ xs. one_each xs (drop (i + 1) out) rest) qs out i s inside room head)

-- what the parts from `i` on come to, with the part at `i` apart
pub parts_more : (give sum : ℕ) (qs : List ℕ) (i : ℕ) → i < length qs → total (parts give sum (drop i qs)) ≡ slice_index qs i * give / sum + total (parts give sum (drop (i + 1) qs))
parts_more give sum qs i h = at_drop_more (λ xs. total (parts give sum xs)) qs i 0 h

pub parts_end : (give sum : ℕ) (qs : List ℕ) (i : ℕ) → length qs ≤ i → total (parts give sum (drop i qs)) ≡ 0
parts_end give sum qs i h = at_drop_all (λ xs. total (parts give sum xs)) qs i h
