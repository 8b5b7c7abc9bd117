-- Ladders, level by level: a ladder is its best level, and then the ladder of what is worse.
use Rattle.std.proofs.Common.{◌≡◌, ◌<◌, Bool, true, false, cond, not, ◌&&◌, List, [], ◌∷◌, ◌++◌, length, replicate, filter, Some, None, Option, refl, sym, ap, ◌∙◌, ◌⊎◌, inl, inr, arith}
use Rattle.std.specs.Prelude.{ℤ}
use Rattle.std.specs.List.{All, Any}
use Rattle.std.proofs.lemmas.Bool.{cases_Bool, cond_both, cond-true, and_parts, both_ways, not-true, ltb-false}
use Rattle.std.proofs.lemmas.Int.{ints}
use Rattle.std.proofs.lemmas.List.{append_assoc, replicate-append-replicate}
use Rattle.std.proofs.lemmas.List.Elements.{All-nil, All-cons, All-head, All-tail, All-filter, All-weaker, filter_agree, filter_passes}
use Rattle.rules.specs.Domain.{total}
use Rattle.market.specs.declared.book_id.BookId.{BookId}
use Rattle.market.specs.declared.order.Order.{Order}
use Rattle.market.specs.declared.price.Price.{Price}
use Rattle.market.specs.declared.side.Side.{Side}
use Rattle.market.specs.declared.side.Side.TheVariants.{Buy, Sell}
use Rattle.market.specs.Fills.{facing}
use Rattle.market.specs.Ladders.{placed, ranked, contracts, ladder}
use Rattle.market.specs.Levels.{in_level, quantities, Best, still_open}
use Rattle.market.specs.Orders.{stands, quantity_of}
use Rattle.market.specs.Prices.{opposite, good, same_price}
use Rattle.market.proofs.Lists.{any_first, any_behind}
use Rattle.market.proofs.Places.{same_price_is, good_refl, good_trans, good_total, same_as_good}

-- ---- lists

-- two tests that agree on a list's elements keep the same of them
pub filter_alike : {X : Type 0} (f g : X → Bool) (xs : List X) → All (λ x. f x ≡ g x) xs → filter f xs ≡ filter g xs
filter_alike f g [] a = refl
filter_alike f g (x ∷ xs) a = rw (All-head (λ y. f y ≡ g y) x xs a, filter_alike f g xs (All-tail (λ y. f y ≡ g y) x xs a)) refl

pub filter_filter : {X : Type 0} (f g : X → Bool) (xs : List X) → filter f (filter g xs) ≡ filter (λ x. g x && f x) xs
filter_filter f g [] = refl
filter_filter f g (x ∷ xs) = elim (cases_Bool (g x)) [
  | inl e ↦ rw (e, filter_filter f g xs)
  | inr e ↦ rw (e, filter_filter f g xs)
]

pub filter_none : {X : Type 0} (f : X → Bool) (xs : List X) → All (λ x. f x ≡ false) xs → filter f xs ≡ []
filter_none f [] a = refl
filter_none f (x ∷ xs) a = rw (All-head (λ y. f y ≡ false) x xs a) (filter_none f xs (All-tail (λ y. f y ≡ false) x xs a))

pub filter_all : {X : Type 0} (f : X → Bool) (xs : List X) → All (λ x. f x ≡ true) xs → filter f xs ≡ xs
filter_all f [] a = refl
filter_all f (x ∷ xs) a = rw (All-head (λ y. f y ≡ true) x xs a) (ap (λ ys. x ∷ ys) (filter_all f xs (All-tail (λ y. f y ≡ true) x xs a)))

-- what holds of every element that passes a test
pub all_kept : {X : Type 0} (f : X → Bool) (P : X → Type 0) (xs : List X) → All (λ x. f x ≡ true → P x) xs → All P (filter f xs)
all_kept f P [] a = All-nil P
all_kept f P (x ∷ xs) a =
    let more = all_kept f P xs (All-tail (λ y. f y ≡ true → P y) x xs a) in
    cond_both (f x) _ _ (All P) (λ e. All-cons P x (filter f xs) (All-head (λ y. f y ≡ true → P y) x xs a e) more) (λ _. more)

-- ---- ranked orders

all_placed : (P : Order → Type 0) (s : Side) (o : Order) (xs : List Order) → P o → All P xs → All P (placed s o xs)
all_placed P s o [] h a = All-cons P o [] h a
all_placed P s o (x ∷ xs) h a =
    cond_both (good s o.price x.price) _ _ (All P)
    (λ _. All-cons P o (x ∷ xs) h a)
    (λ _. All-cons P x (placed s o xs) (All-head P x xs a) (all_placed P s o xs h (All-tail P x xs a)))

pub all_ranked : (P : Order → Type 0) (s : Side) (xs : List Order) → All P xs → All P (ranked s xs)
all_ranked P s [] a = a
all_ranked P s (o ∷ xs) a = all_placed P s o (ranked s xs) (All-head P o xs a) (all_ranked P s xs (All-tail P o xs a))

placed_first : (s : Side) (p : Price) (o : Order) (xs : List Order) → good s o.price p ≡ true → All (λ x. good s p x.price ≡ true) xs → placed s o xs ≡ o ∷ xs
placed_first s p o [] h a = refl
placed_first s p o (x ∷ xs) h a = cond-true _ _ _ (good_trans s o.price p x.price h (All-head (λ y. good s p y.price ≡ true) x xs a))

-- one that is worse than p goes behind all that are as good
worse_than_level : (s : Side) (p q r : Price) → good s q p ≡ false → good s r p ≡ true → good s q r ≡ false
worse_than_level Buy p q r h k = grind (arith, ints)
worse_than_level Sell p q r h k = grind (arith, ints)

placed_behind : (s : Side) (p : Price) (o : Order) (fs bs : List Order) → good s o.price p ≡ false → All (λ x. good s x.price p ≡ true) fs → placed s o (fs ++ bs) ≡ fs ++ placed s o bs
placed_behind s p o [] bs h a = refl
placed_behind s p o (x ∷ fs) bs h a =
    rw (worse_than_level s p o.price x.price h (All-head (λ y. good s y.price p ≡ true) x fs a))
    (ap (λ ys. x ∷ ys) (placed_behind s p o fs bs h (All-tail (λ y. good s y.price p ≡ true) x fs a)))

-- ---- orders in rank

-- each is at least as good as all behind it
abbrev pub InRank : Side → List Order → Type 0
InRank s [] = Unit {0}
InRank s (o ∷ os) = All (λ x. good s o.price x.price ≡ true) os × InRank s os

placed_in_rank : (s : Side) (o : Order) (xs : List Order) → InRank s xs → InRank s (placed s o xs)
placed_in_rank s o [] h = (All-nil (λ x. good s o.price x.price ≡ true), tt)
placed_in_rank s o (x ∷ xs) h =
    cond_both (good s o.price x.price) _ _ (InRank s)
    (λ e. (All-cons (λ y. good s o.price y.price ≡ true) x xs e (All-weaker (λ y. good s x.price y.price ≡ true) (λ y. good s o.price y.price ≡ true) (λ y k. good_trans s o.price x.price y.price e k) xs h.0), h))
    (λ e. (all_placed (λ y. good s x.price y.price ≡ true) s o xs (good_total s o.price x.price e) h.0, placed_in_rank s o xs h.1))

pub ranked_in_rank : (s : Side) (xs : List Order) → InRank s (ranked s xs)
ranked_in_rank s [] = tt
ranked_in_rank s (o ∷ xs) = placed_in_rank s o (ranked s xs) (ranked_in_rank s xs)

-- one more order among the ranked, seen through a test
filter_placed : (s : Side) (test : Order → Bool) (o : Order) (xs : List Order) → InRank s xs → filter test (placed s o xs) ≡ cond (test o) (placed s o (filter test xs)) (filter test xs)
filter_placed s test o [] h = refl
filter_placed s test o (x ∷ xs) h = elim (cases_Bool (good s o.price x.price)) [
  | inl e ↦
      let as_good : Order → Type 0 = λ y. good s o.price y.price ≡ true in
      let a = All-cons as_good x xs e (All-weaker (λ y. good s x.price y.price ≡ true) as_good (λ y k. good_trans s o.price x.price y.price e k) xs h.0) in
      let first = placed_first s o.price o (filter test (x ∷ xs)) (good_refl s o.price) (All-filter test as_good (x ∷ xs) a) in
      rw (e, first) refl
  | inr e ↦ elim (cases_Bool (test x)) [
    | inl k ↦ rw (e, k, e, filter_placed s test o xs h.1) (elim (cases_Bool (test o)) [ inl t ↦ rw t refl | inr t ↦ rw t refl ])
    | inr k ↦ rw (e, k) (filter_placed s test o xs h.1)
  ]
]

-- a test leaves the ranked in rank
filter_ranked : (s : Side) (test : Order → Bool) (xs : List Order) → filter test (ranked s xs) ≡ ranked s (filter test xs)
filter_ranked s test [] = refl
filter_ranked s test (o ∷ xs) =
    filter_placed s test o (ranked s xs) (ranked_in_rank s xs)
    ∙ rw (filter_ranked s test xs) (elim (cases_Bool (test o)) [ inl e ↦ rw e refl | inr e ↦ rw e refl ])

-- where none is better than p, those that are as good stand first, in book order
ranked_split : (s : Side) (p : Price) (xs : List Order) → All (λ o. good s p o.price ≡ true) xs →
    ranked s xs ≡ filter (λ o. good s o.price p) xs ++ ranked s (filter (λ o. not (good s o.price p)) xs)
ranked_split s p [] a = refl
ranked_split s p (o ∷ xs) a =
    let more = ranked_split s p xs (All-tail (λ y. good s p y.price ≡ true) o xs a) in
    elim (cases_Bool (good s o.price p)) [
      | inl e ↦ rw e (placed_first s p o (ranked s xs) e (all_ranked (λ y. good s p y.price ≡ true) s xs (All-tail (λ y. good s p y.price ≡ true) o xs a)) ∙ ap (λ ys. o ∷ ys) more)
      | inr e ↦ rw e (ap (placed s o) more ∙ placed_behind s p o (filter (λ x. good s x.price p) xs) _ e (filter_passes (λ x. good s x.price p) xs))
    ]

-- ---- their contracts

pub contracts_append : (xs ys : List Order) → contracts (xs ++ ys) ≡ contracts xs ++ contracts ys
contracts_append [] ys = refl
contracts_append (o ∷ xs) ys = rw (contracts_append xs ys) (sym (append_assoc (replicate (quantity_of o) o.price.0) (contracts xs) (contracts ys)))

-- of orders at one price
contracts_level : (p : Price) (xs : List Order) → All (λ o. o.price ≡ p) xs → contracts xs ≡ replicate (total (quantities xs)) p.0
contracts_level p [] a = refl
contracts_level p (o ∷ xs) a =
    rw (All-head (λ x. x.price ≡ p) o xs a, contracts_level p xs (All-tail (λ x. x.price ≡ p) o xs a))
    (replicate-append-replicate (quantity_of o) (total (quantities xs)) p.0)

pub level_price : (test : Order → Bool) (p : Price) (os : List Order) → All (λ o. o.price ≡ p) (filter (λ o. test o && same_price o.price p) os)
level_price test p os =
    All-weaker (λ o. (test o && same_price o.price p) ≡ true) (λ o. o.price ≡ p)
    (λ o h. same_price_is o.price p (and_parts (test o) (same_price o.price p) h).1)
    (filter (λ o. test o && same_price o.price p) os) (filter_passes (λ o. test o && same_price o.price p) os)

-- the contracts of the orders that pass a test, one by one, the best level first
abbrev pub rungs : Side → (Order → Bool) → List Order → List ℤ
rungs s test os = contracts (ranked s (filter test os))

-- p is the best price of those that pass a test
pub record BestOf (s : Side) (test : Order → Bool) (os : List Order) (p : Price) : Type 0 where
  pub there : Any (λ o. (test o ≡ true) × (o.price ≡ p)) os
  pub none_better : All (λ o. test o ≡ true → good s p o.price ≡ true) os

-- where none is better than p, those at p come first
pub rungs_split : (s : Side) (test : Order → Bool) (p : Price) (os : List Order) → All (λ o. test o ≡ true → good s p o.price ≡ true) os →
    rungs s test os ≡ replicate (total (quantities (filter (λ o. test o && same_price o.price p) os))) p.0 ++ rungs s (λ o. test o && not (good s o.price p)) os
rungs_split s test p os a =
    let kept = all_kept test (λ o. good s p o.price ≡ true) os a in
    let first = filter (λ o. good s o.price p) (filter test os) in
    let alike : first ≡ filter (λ o. test o && same_price o.price p) os =
    sym (filter_alike (λ o. same_price o.price p) (λ o. good s o.price p) (filter test os) (All-weaker (λ o. good s p o.price ≡ true) (λ o. same_price o.price p ≡ good s o.price p) (λ o h. same_as_good s p o.price h) (filter test os) kept))
    ∙ filter_filter (λ o. same_price o.price p) test os in
    ap contracts (ranked_split s p (filter test os) kept)
    ∙ contracts_append first (ranked s (filter (λ o. not (good s o.price p)) (filter test os)))
    ∙ rw (alike, filter_filter (λ o. not (good s o.price p)) test os, contracts_level p (filter (λ o. test o && same_price o.price p) os) (level_price test p os)) refl

-- so those of the best price do
pub rungs_best : (s : Side) (test : Order → Bool) (os : List Order) (p : Price) → BestOf s test os p →
    rungs s test os ≡ replicate (total (quantities (filter (λ o. test o && same_price o.price p) os))) p.0 ++ rungs s (λ o. test o && not (good s o.price p)) os
rungs_best s test os p best = rungs_split s test p os best.none_better

-- what has nothing open has no contracts
contracts_open : (xs : List Order) → contracts (filter still_open xs) ≡ contracts xs
contracts_open [] = refl
contracts_open (o ∷ xs) = elim (cases_Bool (still_open o)) [
  | inl e ↦ rw (e, contracts_open xs) refl
  | inr e ↦ let none : quantity_of o ≡ 0 = omega (arith, ltb-false 0 (quantity_of o) e) in rw (e, none, contracts_open xs) refl
]

pub rungs_open : (s : Side) (test : Order → Bool) (os : List Order) → rungs s test (filter still_open os) ≡ rungs s test os
rungs_open s test os =
    ap (λ xs. contracts (ranked s xs)) (filter_filter test still_open os ∙ filter_agree (λ o. still_open o && test o) (λ o. test o && still_open o) (λ o. grind arith) os ∙ sym (filter_filter still_open test os))
    ∙ ap contracts (sym (filter_ranked s still_open (filter test os)))
    ∙ contracts_open (ranked s (filter test os))

pub rungs_nobody : (s : Side) (test : Order → Bool) (os : List Order) → All (λ o. test o ≡ false) os → rungs s test os ≡ []
rungs_nobody s test os a = rw (filter_none test os a)

-- ---- ladders

-- of all orders of the other side, or of those strictly worse than a price
abbrev pub beyond : BookId → Side → Option Price → Order → Bool
beyond b s None o = stands b (opposite s) o
beyond b s (Some p) o = stands b (opposite s) o && not (good s o.price p)

-- the ladder behind a price
abbrev pub ladder_beyond : BookId → Side → Option Price → List Order → List ℤ
ladder_beyond b s from os = rungs s (beyond b s from) os

-- the best price behind a price
abbrev pub BestBeyond : BookId → Side → Option Price → List Order → Price → Type 0
BestBeyond b s from os p = BestOf s (beyond b s from) os p

best_of : (b : BookId) (s : Side) (os : List Order) (p : Price) → Best b s os p → BestBeyond b s None os p
best_of b s os p best = record { there = best.there; none_better = best.none_better }

-- a price behind another
abbrev Behind : Side → Option Price → Price → Type 0
Behind s None p = Unit {0}
Behind s (Some a) p = good s p a ≡ false

best_behind : (b : BookId) (s : Side) (from : Option Price) (os : List Order) (p : Price) → BestBeyond b s from os p → Behind s from p
best_behind b s None os p best = tt
best_behind b s (Some a) os p best =
    let o = best.there.1 in
    let h : (beyond b s (Some a) o ≡ true) × (o.price ≡ p) = best.there.4 in
    rw h.1 at (not-true (good s o.price a) (and_parts (stands b (opposite s) o) (not (good s o.price a)) h.0).1)

not_good_at : (s : Side) (q p a : Price) → good s p a ≡ false → same_price q p ≡ true → good s q a ≡ false
not_good_at s q p a h e = rw (same_price_is q p e) h

at_level : (b : BookId) (s : Side) (from : Option Price) (p : Price) → Behind s from p → (o : Order) →
    (beyond b s from o && same_price o.price p) ≡ in_level b (opposite s) p o
at_level b s None p h o = refl
at_level b s (Some a) p h o = elim (cases_Bool (same_price o.price p)) [
  | inl e ↦ rw (not_good_at s o.price p a h e, e) (grind arith)
  | inr e ↦ rw e (grind arith)
]

not_good_before : (s : Side) (q p a : Price) → good s p a ≡ false → good s q p ≡ false → good s q a ≡ false
not_good_before Buy q p a h k = grind (arith, ints)
not_good_before Sell q p a h k = grind (arith, ints)

past_level : (b : BookId) (s : Side) (from : Option Price) (p : Price) → Behind s from p → (o : Order) →
    (beyond b s from o && not (good s o.price p)) ≡ beyond b s (Some p) o
past_level b s None p h o = refl
past_level b s (Some a) p h o = elim (cases_Bool (good s o.price p)) [
  | inl e ↦ rw e (grind arith)
  | inr e ↦ rw (not_good_before s o.price p a h e, e) (grind arith)
]

-- the ladder behind a price is the best level there, and the ladder behind that level
pub ladder_beyond_best : (b : BookId) (s : Side) (from : Option Price) (os : List Order) (p : Price) → BestBeyond b s from os p →
    ladder_beyond b s from os ≡ replicate (total (quantities (facing b s p os))) p.0 ++ ladder_beyond b s (Some p) os
ladder_beyond_best b s from os p best =
    let h = best_behind b s from os p best in
    rungs_best s (beyond b s from) os p best
    ∙ rw (
      filter_agree (λ o. beyond b s from o && same_price o.price p) (in_level b (opposite s) p) (at_level b s from p h) os,
      filter_agree (λ o. beyond b s from o && not (good s o.price p)) (beyond b s (Some p)) (past_level b s from p h) os,
    ) refl

pub ladder_nobody : (b : BookId) (s : Side) (os : List Order) → All (λ o. stands b (opposite s) o ≡ false) os → ladder b s os ≡ []
ladder_nobody b s os a = rungs_nobody s (stands b (opposite s)) os a

pub ladder_open : (b : BookId) (s : Side) (os : List Order) → ladder b s (filter still_open os) ≡ ladder b s os
ladder_open b s os = rungs_open s (stands b (opposite s)) os

-- where none is better than p, those strictly worse are those outside the level at p
outside_level : (b : BookId) (s : Side) (p : Price) (o : Order) → (stands b (opposite s) o ≡ true → good s p o.price ≡ true) →
    (stands b (opposite s) o && not (good s o.price p)) ≡ (not (in_level b (opposite s) p o) && stands b (opposite s) o)
outside_level b s p o h = elim (cases_Bool (stands b (opposite s) o)) [
  | inl e ↦ rw (e, same_as_good s p o.price (h e)) (grind arith)
  | inr e ↦ rw e refl
]

-- where none is better than p, a ladder is the level at p, and the ladder of the orders outside it
pub ladder_split : (b : BookId) (s : Side) (p : Price) (os : List Order) → All (λ o. stands b (opposite s) o ≡ true → good s p o.price ≡ true) os →
    ladder b s os ≡ replicate (total (quantities (facing b s p os))) p.0 ++ ladder b s (filter (λ o. not (in_level b (opposite s) p o)) os)
ladder_split b s p os a =
    let worse : Order → Bool = λ o. stands b (opposite s) o && not (good s o.price p) in
    let outside : Order → Bool = λ o. not (in_level b (opposite s) p o) in
    let same : filter worse os ≡ filter (stands b (opposite s)) (filter outside os) =
    filter_alike worse (λ o. outside o && stands b (opposite s) o) os
    (All-weaker (λ o. stands b (opposite s) o ≡ true → good s p o.price ≡ true) (λ o. worse o ≡ (outside o && stands b (opposite s) o)) (λ o h. outside_level b s p o h) os a)
    ∙ sym (filter_filter (stands b (opposite s)) outside os) in
    rungs_split s (stands b (opposite s)) p os a
    ∙ ap (λ xs. replicate (total (quantities (facing b s p os))) p.0 ++ contracts (ranked s xs)) same

-- so a ladder is its best level, and the ladder of the orders outside it
pub ladder_best : (b : BookId) (s : Side) (os : List Order) (p : Price) → Best b s os p →
    ladder b s os ≡ replicate (total (quantities (facing b s p os))) p.0 ++ ladder b s (filter (λ o. not (in_level b (opposite s) p o)) os)
ladder_best b s os p best = ladder_split b s p os best.none_better

-- ---- where there is an order there is a best price

best_of_one : (s : Side) (test : Order → Bool) (o : Order) (os : List Order) → test o ≡ true → All (λ x. test x ≡ true → good s o.price x.price ≡ true) os → BestOf s test (o ∷ os) o.price
best_of_one s test o os e a = record {
  there = any_first (λ x. (test x ≡ true) × (x.price ≡ o.price)) o os (e, refl);
  none_better = All-cons (λ x. test x ≡ true → good s o.price x.price ≡ true) o os (λ _. good_refl s o.price) a;
}

best_of_rest : (s : Side) (test : Order → Bool) (o : Order) (os : List Order) (p : Price) → (test o ≡ true → good s p o.price ≡ true) → BestOf s test os p → BestOf s test (o ∷ os) p
best_of_rest s test o os p h best = record {
  there = any_behind (λ x. (test x ≡ true) × (x.price ≡ p)) o os best.there;
  none_better = All-cons (λ x. test x ≡ true → good s p x.price ≡ true) o os h best.none_better;
}

-- none passes, or those that do have a best price
pub nobody_or_best : (s : Side) (test : Order → Bool) (os : List Order) → All (λ o. test o ≡ false) os ⊎ ((p : Price) × BestOf s test os p)
nobody_or_best s test [] = inl (All-nil (λ o. test o ≡ false))
nobody_or_best s test (o ∷ os) = elim (cases_Bool (test o)) [
  | inl e ↦ elim (nobody_or_best s test os) [
    | inl none ↦ inr (o.price, best_of_one s test o os e (All-weaker (λ x. test x ≡ false) (λ x. test x ≡ true → good s o.price x.price ≡ true) (λ x h k. absurd (both_ways (test x) h k)) os none))
    | inr best ↦ elim (cases_Bool (good s o.price best.0)) [
      | inl g ↦ inr (o.price, best_of_one s test o os e (All-weaker (λ x. test x ≡ true → good s best.0 x.price ≡ true) (λ x. test x ≡ true → good s o.price x.price ≡ true) (λ x h k. good_trans s o.price best.0 x.price g (h k)) os best.1.none_better))
      | inr g ↦ inr (best.0, best_of_rest s test o os best.0 (λ _. good_total s o.price best.0 g) best.1)
    ]
  ]
  | inr e ↦ elim (nobody_or_best s test os) [
    | inl none ↦ inl (All-cons (λ x. test x ≡ false) o os e none)
    | inr best ↦ inr (best.0, best_of_rest s test o os best.0 (λ k. absurd (both_ways (test o) e k)) best.1)
  ]
]

-- where a ladder has a contract there is a best level
pub best_exists : (b : BookId) (s : Side) (os : List Order) → 0 < length (ladder b s os) → (p : Price) × Best b s os p
best_exists b s os h = elim (nobody_or_best s (stands b (opposite s)) os) [
  | inl none ↦ absurd (let e = ap length (ladder_nobody b s os none) in omega arith)
  | inr best ↦ (best.0, record { there = best.1.there; none_better = best.1.none_better })
]
