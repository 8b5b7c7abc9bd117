-- One order trades on its own.
use Rattle.std.proofs.Common.{◌≡◌, ℕ, ◌+◌, ◌<◌, ◌≤◌, List, [], ◌∷◌, ◌++◌, length, get_or, take, drop, set, filter, true, sym, ap, ◌∙◌, arith}
use Rattle.std.proofs.lemmas.Bool.Decides.{nat_tests}
use Rattle.std.proofs.lemmas.List.{append_assoc, take_more_set, drop-set-lt, take-append-drop, length-set}
use Rattle.std.proofs.lemmas.List.Elements.{All-take, All-drop, All-set, All-filter, All-weaker, filter-append}
use Rattle.market.specs.declared.order.Order.{Order}
use Rattle.market.specs.Levels.{still_open}
use Rattle.market.specs.Orders.{quantity_of, less}
use Rattle.market.specs.Round.{left_of}
use Rattle.market.proofs.Asking.{small_lasts}
use Rattle.market.proofs.RankedLadders.{filter_all}
use Rattle.market.proofs.Thinning.{length-kept_le}
use Rattle.book.specs.Bounds.{Small, Positive}

set_parts : (os : List Order) (i : ℕ) (o : Order) → i < length os → set os i o ≡ take i os ++ (o ∷ drop (i + 1) os)
set_parts os i o lt =
    sym (take-append-drop (i + 1) (set os i o))
    ∙ ap (λ (xs : List Order). xs ++ drop (i + 1) (set os i o)) (take_more_set os i o lt)
    ∙ ap (λ (xs : List Order). (take i os ++ o ∷ []) ++ xs) (drop-set-lt (i + 1) os i o (omega arith))
    ∙ append_assoc (take i os) (o ∷ []) (drop (i + 1) os)

-- orders with something open all stay
open_stay : (os : List Order) → Positive os → filter still_open os ≡ os
open_stay os positive = filter_all still_open os (All-weaker (λ o. 0 < quantity_of o) (λ o. still_open o ≡ true) (λ o h. grind (arith, nat_tests)) os positive)

pub spent_parts : (os : List Order) (i k : ℕ) (d : Order) → i < length os → Positive os → filter still_open (set os i (less (get_or os i d) k)) ≡ take i os ++ left_of (get_or os i d) k ++ drop (i + 1) os
spent_parts os i k d lt positive =
    let o' = less (get_or os i d) k in
    ap (filter still_open) (set_parts os i o' lt)
    ∙ filter-append still_open (take i os) (o' ∷ drop (i + 1) os)
    ∙ ap (λ (xs : List Order). xs ++ filter still_open (o' ∷ drop (i + 1) os)) (open_stay (take i os) (All-take (λ o. 0 < quantity_of o) i os positive))
    ∙ ap (λ (xs : List Order). take i os ++ xs) (filter-append still_open (o' ∷ []) (drop (i + 1) os)
    ∙ ap (λ (xs : List Order). left_of (get_or os i d) k ++ xs) (open_stay (drop (i + 1) os) (All-drop (λ o. 0 < quantity_of o) (i + 1) os positive)))
    ∙ sym (append_assoc (take i os) (left_of (get_or os i d) k) (drop (i + 1) os))

pub spent_small : (os : List Order) (i k : ℕ) (d : Order) → i < length os → Small os → Small (filter still_open (set os i (less (get_or os i d) k)))
spent_small os i k d lt small =
    All-filter still_open (λ o. quantity_of o ≤ 10000) (set os i (less (get_or os i d) k))
    (All-set (λ o. quantity_of o ≤ 10000) os i (less (get_or os i d) k) (small_lasts (get_or os i d) k (small i d lt)) small)

pub spent_length : (os : List Order) (i : ℕ) (o : Order) → length (filter still_open (set os i o)) ≤ length os
spent_length os i o = omega (arith, length-kept_le still_open (set os i o), length-set os i o)
