-- Ladders: each is in order, and has the contracts of every order of the other side.
use Rattle.std.proofs.Common.{◌≡◌, ℕ, zero, suc, ◌+◌, ◌<◌, Bool, true, cond, List, [], ◌∷◌, ◌++◌, replicate, filter, ℤ, inl, inr, refl, ap, arith}
use Rattle.std.specs.List.{All, sum_by, count_by}
use Rattle.std.proofs.lemmas.Bool.{cond_both, cases_Bool}
use Rattle.std.proofs.lemmas.Int.{ints}
use Rattle.std.proofs.lemmas.List.Elements.{All-nil, All-cons, All-head, All-tail, All-append, All-replicate}
use Rattle.std.proofs.lemmas.List.Folds.{sum_by-replicate}
use Rattle.std.proofs.lemmas.List.Sums.{sum_by-append, sum_by-cons}
use Rattle.rules.specs.Domain.{total}
use Rattle.market.specs.declared.book_id.BookId.{BookId}
use Rattle.market.specs.declared.order.Order.{Order}
use Rattle.market.specs.declared.price.Price.{Price}
use Rattle.market.specs.declared.side.Side.{Side}
use Rattle.market.specs.declared.side.Side.TheVariants.{Buy, Sell}
use Rattle.market.specs.Fills.{facing}
use Rattle.market.specs.LadderLaw.{AsGood, InOrder, contracts_at, BestFirst, EveryLadder}
use Rattle.market.specs.Ladders.{placed, ranked, contracts, ladder}
use Rattle.market.specs.Levels.{quantities}
use Rattle.market.specs.Orders.{stands, quantity_of}
use Rattle.market.specs.Prices.{opposite, good, same_price, as_price}
use Rattle.market.proofs.Places.{good_refl}
use Rattle.market.proofs.RankedLadders.{InRank, ranked_in_rank}

-- ---- contracts in order

all_contracts : (P : ℤ → Type 0) (os : List Order) → All (λ o. P o.price.0) os → All P (contracts os)
all_contracts P [] a = All-nil P
all_contracts P (o ∷ os) a =
    let at = λ (x : Order). P x.price.0 in
    All-append P (replicate (quantity_of o) o.price.0) (contracts os)
    (All-replicate P (quantity_of o) o.price.0 (All-head at o os a))
    (all_contracts P os (All-tail at o os a))

in_order_front : (s : Side) (n : ℕ) (z : ℤ) (zs : List ℤ) → All (AsGood s z) zs → InOrder s zs → InOrder s (replicate n z ++ zs)
in_order_front s zero z zs a i = i
in_order_front s (suc n) z zs a i = (
  All-append (AsGood s z) (replicate n z) zs (All-replicate (AsGood s z) n z (good_refl s (as_price z))) a,
  in_order_front s n z zs a i,
)

contracts_in_order : (s : Side) (os : List Order) → InRank s os → InOrder s (contracts os)
contracts_in_order s [] a = tt
contracts_in_order s (o ∷ os) a =
    in_order_front s (quantity_of o) o.price.0 (contracts os) (all_contracts (AsGood s o.price.0) os a.0) (contracts_in_order s os a.1)

pub ladder_in_order : (b : BookId) (s : Side) (os : List Order) → InOrder s (ladder b s os)
ladder_in_order b s os =
    let others = filter (stands b (opposite s)) os in
    contracts_in_order s (ranked s others) (ranked_in_rank s others)

-- ---- contracts counted

pub counts_first : (test : ℤ → Bool) (z : ℤ) (zs : List ℤ) → count_by test (z ∷ zs) ≡ cond (test z) 1 0 + count_by test zs
counts_first test z zs = sum_by-cons (λ x. cond (test x) 1 0) z zs

-- so many contracts, if the order's price passes
abbrev pub passing : (Price → Bool) → Order → ℕ
passing test o = cond (test o.price) (quantity_of o) 0

count_contracts : (test : Price → Bool) (os : List Order) → count_by (λ z. test (as_price z)) (contracts os) ≡ sum_by (passing test) os
count_contracts test [] = refl
count_contracts test (o ∷ os) =
    let one : ℤ → ℕ = λ z. cond (test (as_price z)) 1 0 in
    let own = replicate (quantity_of o) o.price.0 in
    grind (arith, count_contracts test os, sum_by-append one own (contracts os), sum_by-replicate one (quantity_of o) o.price.0, sum_by-cons (passing test) o os)

sum_placed : (f : Order → ℕ) (s : Side) (o : Order) (xs : List Order) → sum_by f (placed s o xs) ≡ f o + sum_by f xs
sum_placed f s o [] = sum_by-cons f o []
sum_placed f s o (x ∷ xs) =
    cond_both (good s o.price x.price) _ _ (λ ys. sum_by f ys ≡ f o + sum_by f (x ∷ xs))
    (λ _. sum_by-cons f o (x ∷ xs))
    (λ _. omega (arith, sum_by-cons f x (placed s o xs), sum_by-cons f x xs, sum_placed f s o xs))

sum_ranked : (f : Order → ℕ) (s : Side) (os : List Order) → sum_by f (ranked s os) ≡ sum_by f os
sum_ranked f s [] = refl
sum_ranked f s (o ∷ os) = omega (arith, sum_placed f s o (ranked s os), sum_ranked f s os, sum_by-cons f o os)

pub sum_filter : (f : Order → ℕ) (test : Order → Bool) (os : List Order) → sum_by f (filter test os) ≡ sum_by (λ o. cond (test o) (f o) 0) os
sum_filter f test [] = refl
sum_filter f test (o ∷ os) = grind (arith, sum_filter f test os, sum_by-cons f o (filter test os), sum_by-cons (λ x. cond (test x) (f x) 0) o os)

-- at the prices that pass, a ladder has what the orders of the other side have open
pub count_ladder : (b : BookId) (s : Side) (os : List Order) (test : Price → Bool) →
    count_by (λ z. test (as_price z)) (ladder b s os) ≡ sum_by (passing test) (filter (stands b (opposite s)) os)
count_ladder b s os test =
    let others = filter (stands b (opposite s)) os in
    omega (arith, count_contracts test (ranked s others), sum_ranked (passing test) s others)

-- ---- the law of ladders

level_total : (b : BookId) (s : Side) (p : Price) (os : List Order) →
    total (quantities (facing b s p os)) ≡ sum_by (passing (λ q. same_price q p)) (filter (stands b (opposite s)) os)
level_total b s p [] = refl
level_total b s p (o ∷ os) =
    let rest = level_total b s p os in
    grind (arith, rest, sum_by-cons (passing (λ q. same_price q p)) o (filter (stands b (opposite s)) os))

ladder_best_first : (b : BookId) (s : Side) (os : List Order) → BestFirst b s os (ladder b s os)
ladder_best_first b s os = record {
  in_order = ladder_in_order b s os;
  each_level = λ p. omega (arith, count_ladder b s os (λ q. same_price q p), level_total b s p os);
}

as_good_at : (s : Side) (y z p : Price) → good s y z ≡ true → same_price z p ≡ true → good s y p ≡ true
as_good_at Buy y z p g e = grind (arith, ints)
as_good_at Sell y z p g e = grind (arith, ints)

-- a price that is as good as those of all contracts is as good as any found among them
found : (s : Side) (y : ℤ) (p : Price) (zs : List ℤ) → All (AsGood s y) zs → 0 < contracts_at p zs → good s (as_price y) p ≡ true
found s y p [] a h = absurd (omega arith)
found s y p (z ∷ zs) a h = elim (cases_Bool (same_price (as_price z) p)) [
  | inl e ↦ as_good_at s (as_price y) (as_price z) p (All-head (AsGood s y) z zs a) e
  | inr e ↦ found s y p zs (All-tail (AsGood s y) z zs a) (grind (arith, counts_first (λ x. same_price (as_price x) p) z zs))
]

both_as_good : (s : Side) (y z : ℤ) → AsGood s y z → AsGood s z y → y ≡ z
both_as_good Buy y z g h = grind (arith, ints)
both_as_good Sell y z g h = grind (arith, ints)

own_price : (p : Price) → same_price p p ≡ true
own_price p = grind (arith, ints)

-- a contract counts at its own price
some_at : (z : ℤ) (zs : List ℤ) → 0 < contracts_at (as_price z) (z ∷ zs)
some_at z zs = grind (arith, own_price (as_price z), counts_first (λ x. same_price (as_price x) (as_price z)) z zs)

-- the first is as good as any contract that counts somewhere in the list
first_as_good : (s : Side) (y z : ℤ) (ys : List ℤ) → InOrder s (y ∷ ys) → 0 < contracts_at (as_price z) (y ∷ ys) → AsGood s y z
first_as_good s y z ys i h = found s y (as_price z) (y ∷ ys) (All-cons (AsGood s y) y ys (good_refl s (as_price y)) i.0) h

-- contracts in order are fixed by how many there are at each price
same_contracts : (s : Side) (ys zs : List ℤ) → InOrder s ys → InOrder s zs → ((p : Price) → contracts_at p ys ≡ contracts_at p zs) → ys ≡ zs
same_contracts s [] [] i j e = refl
same_contracts s [] (z ∷ zs) i j e = absurd (omega (arith, e (as_price z), some_at z zs))
same_contracts s (y ∷ ys) [] i j e = absurd (omega (arith, e (as_price y), some_at y ys))
same_contracts s (y ∷ ys) (z ∷ zs) i j e =
    let first : y ≡ z = both_as_good s y z
    (first_as_good s y z ys i (omega (arith, e (as_price z), some_at z zs)))
    (first_as_good s z y zs j (omega (arith, e (as_price y), some_at y ys))) in
    let rest = same_contracts s ys zs i.1 j.1 (same_behind first) in
    cc
  where
    same_behind : y ≡ z → (p : Price) → contracts_at p ys ≡ contracts_at p zs
    same_behind first p =
        let test : ℤ → Bool = λ x. same_price (as_price x) p in
        grind (arith, e p, counts_first test y ys, counts_first test z zs, ap test first)

pub every_ladder : EveryLadder
every_ladder b s os =
    let best_first = ladder_best_first b s os in
    record {
      best_first = best_first;
      only = λ zs h. same_contracts s zs (ladder b s os) h.in_order best_first.in_order (λ p. omega (arith, h.each_level p, best_first.each_level p));
    }
