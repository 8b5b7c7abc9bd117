-- A thinner book: its ladders are no better in any place, and unit 1 is no better to anyone.
use Rattle.std.proofs.Common.{◌≡◌, ℕ, zero, suc, ◌+◌, ◌≤◌, ◌<◌, Bool, true, false, cond, leb, List, [], ◌∷◌, ◌++◌, length, take, drop, filter, ℤ, pos, ◌+ℤ◌, neg_ℤ, Some, None, Option, inl, inr, refl, arith}
use Rattle.std.specs.List.{All, sum_by, count_by}
use Rattle.std.proofs.lemmas.Bool.{cases_Bool, cond_both, leb-true, le-leb, true_from_ne_false, false_from_ne_true, both_ways}
use Rattle.std.proofs.lemmas.Int.{ints}
use Rattle.std.proofs.lemmas.List.{length-drop}
use Rattle.std.proofs.lemmas.List.Elements.{All-cons, All-head, All-tail}
use Rattle.std.proofs.lemmas.List.Sums.{sum_by-cons}
use Rattle.market.specs.declared.book_id.BookId.{BookId}
use Rattle.market.specs.declared.book_id.BookId.TheVariants.{Instrument}
use Rattle.market.specs.declared.leg.Leg.{Leg}
use Rattle.market.specs.declared.order.Order.{Order}
use Rattle.market.specs.declared.price.Price.{Price}
use Rattle.market.specs.declared.side.Side.{Side}
use Rattle.market.specs.declared.side.Side.TheVariants.{Buy, Sell}
use Rattle.market.specs.LadderLaw.{AsGood, InOrder}
use Rattle.market.specs.Combinations.{is_minus}
use Rattle.market.specs.Ladders.{leg_side, contracts_for, signed, ladder, ladders, sum_of, unit_contracts, leg_net, plus, net, unit_net, reach, net_to, wanted}
use Rattle.market.specs.Orders.{stands, lot_book}
use Rattle.market.specs.Prices.{opposite, good, as_price}
use Rattle.market.specs.Round.{legs_of, eligible}
use Rattle.market.proofs.LadderLaw.{ladder_in_order, counts_first, passing, sum_filter, count_ladder}
use Rattle.market.proofs.Places.{good_refl, good_trans}

-- ---- a thinner book

-- Thinner os os': some orders are taken out of os; all others stay as found, in os'
pub data Thinner : List Order → List Order → Type 0 where
  empty : Thinner [] []
  stays : {os os' : List Order} (o : Order) → Thinner os os' → Thinner (o ∷ os) (o ∷ os')
  goes : {os os' : List Order} (o : Order) → Thinner os os' → Thinner (o ∷ os) os'

thinner_same : (os : List Order) → Thinner os os
thinner_same [] = empty
thinner_same (o ∷ os) = stays o (thinner_same os)

pub thinner_without : (before : List Order) (o : Order) (behind : List Order) → Thinner (before ++ o ∷ behind) (before ++ behind)
thinner_without [] o behind = goes o (thinner_same behind)
thinner_without (x ∷ before) o behind = stays x (thinner_without before o behind)

pub thinner_filter : (test : Order → Bool) (os : List Order) → Thinner os (filter test os)
thinner_filter test [] = empty
thinner_filter test (o ∷ os) = cond_both (test o) _ _ (Thinner (o ∷ os)) (λ _. stays o (thinner_filter test os)) (λ _. goes o (thinner_filter test os))

pub thinner_all : (P : Order → Type 0) {os os' : List Order} → Thinner os os' → All P os → All P os'
thinner_all P empty a = a
thinner_all P (stays {os} {os'} o t) a = All-cons P o os' (All-head P o os a) (thinner_all P t (All-tail P o os a))
thinner_all P (goes {os} o t) a = thinner_all P t (All-tail P o os a)

thinner_sum : (f : Order → ℕ) {os os' : List Order} → Thinner os os' → sum_by f os' ≤ sum_by f os
thinner_sum f empty = omega arith
thinner_sum f (stays {os} {os'} o t) = omega (arith, thinner_sum f t, sum_by-cons f o os, sum_by-cons f o os')
thinner_sum f (goes {os} o t) = omega (arith, thinner_sum f t, sum_by-cons f o os)

-- ---- its ladders

-- how many contracts are at least as good as the price p
abbrev as_good : Side → Price → List ℤ → ℕ
as_good s p zs = count_by (λ z. good s (as_price z) p) zs

fewer_as_good : (b : BookId) (s : Side) (p : Price) {os os' : List Order} → Thinner os os' → as_good s p (ladder b s os') ≤ as_good s p (ladder b s os)
fewer_as_good b s p {os} {os'} t =
    let test = λ (q : Price). good s q p in
    let f = passing test in
    let side = stands b (opposite s) in
    omega (arith, count_ladder b s os test, count_ladder b s os' test, sum_filter f side os, sum_filter f side os', thinner_sum (λ o. cond (side o) (f o) 0) t)

-- Worse s ys zs: zs is no longer, and each of its contracts is no better to s than the one in its place in ys
abbrev Worse : Side → List ℤ → List ℤ → Type 0
Worse s ys [] = Unit {0}
Worse s [] (z ∷ zs) = ⊥
Worse s (y ∷ ys) (z ∷ zs) = AsGood s y z × Worse s ys zs

first_counts : (s : Side) (p : Price) (z : ℤ) (zs : List ℤ) → as_good s p (z ∷ zs) ≡ cond (good s (as_price z) p) 1 0 + as_good s p zs
first_counts s p z zs = counts_first (λ x. good s (as_price x) p) z zs

own_counts : (s : Side) (z : ℤ) (zs : List ℤ) → 0 < as_good s (as_price z) (z ∷ zs)
own_counts s z zs = grind (arith, first_counts s (as_price z) z zs, good_refl s (as_price z))

-- where z is not as good as p, no contract that z is as good as is so either
none_as_good : (s : Side) (z : ℤ) (p : Price) (zs : List ℤ) → All (AsGood s z) zs → good s (as_price z) p ≡ false → as_good s p zs ≡ 0
none_as_good s z p [] a h = refl
none_as_good s z p (y ∷ zs) a h =
    let first : good s (as_price y) p ≡ false = false_from_ne_true (good s (as_price y) p)
    (λ g. both_ways (good s (as_price z) p) h (good_trans s (as_price z) (as_price y) p (All-head (AsGood s z) y zs a) g)) in
    grind (arith, first, first_counts s p y zs, none_as_good s z p zs (All-tail (AsGood s z) y zs a) h)

worse : (s : Side) (ys zs : List ℤ) → InOrder s ys → InOrder s zs → ((p : Price) → as_good s p zs ≤ as_good s p ys) → Worse s ys zs
worse s ys [] i j h = tt
worse s [] (z ∷ zs) i j h = absurd (omega (arith, h (as_price z), own_counts s z zs))
worse s (y ∷ ys) (z ∷ zs) i j h = (first, worse s ys zs i.1 j.1 rest)
  where
    first : AsGood s y z
    first = true_from_ne_false (good s (as_price y) (as_price z)) (λ g.
        grind (arith, h (as_price z), own_counts s z zs, g, first_counts s (as_price z) y ys, none_as_good s y (as_price z) ys i.0 g))

    rest : (p : Price) → as_good s p zs ≤ as_good s p ys
    rest p = elim (cases_Bool (good s (as_price z) p)) [
      | inl g ↦ grind (arith, h p, first_counts s p z zs, first_counts s p y ys, g, good_trans s (as_price y) (as_price z) p first g)
      | inr g ↦ omega (arith, none_as_good s z p zs j.0 g)
    ]

thinner_worse : (b : BookId) (s : Side) {os os' : List Order} → Thinner os os' → Worse s (ladder b s os) (ladder b s os')
thinner_worse b s {os} {os'} t = worse s (ladder b s os) (ladder b s os') (ladder_in_order b s os) (ladder_in_order b s os') (λ p. fewer_as_good b s p t)

worse_length : (s : Side) (ys zs : List ℤ) → Worse s ys zs → length zs ≤ length ys
worse_length s ys [] w = omega arith
worse_length s [] (z ∷ zs) w = absurd w
worse_length s (y ∷ ys) (z ∷ zs) w = omega (arith, worse_length s ys zs w.1)

worse_drop : (s : Side) (n : ℕ) (ys zs : List ℤ) → Worse s ys zs → Worse s (drop n ys) (drop n zs)
worse_drop s zero ys zs w = w
worse_drop s (suc n) ys [] w = tt
worse_drop s (suc n) [] (z ∷ zs) w = absurd w
worse_drop s (suc n) (y ∷ ys) (z ∷ zs) w = worse_drop s n ys zs w.1

-- ---- its nets

as_good_sum : (s : Side) (x x' y y' : ℤ) → AsGood s x x' → AsGood s y y' → AsGood s (x +ℤ y) (x' +ℤ y')
as_good_sum Buy x x' y y' g h = grind (arith, ints)
as_good_sum Sell x x' y y' g h = grind (arith, ints)

as_good_negated : (s : Side) (y z : ℤ) → AsGood (opposite s) y z → AsGood s (neg_ℤ y) (neg_ℤ z)
as_good_negated Buy y z g = grind (arith, ints)
as_good_negated Sell y z g = grind (arith, ints)

as_good_signed : (s : Side) (leg : Leg) (y z : ℤ) → AsGood (leg_side s leg) y z → AsGood s (signed leg y) (signed leg z)
as_good_signed s leg y z = elim (is_minus leg) as (λ t. AsGood (cond t (opposite s) s) y z → AsGood s (cond t (neg_ℤ y) y) (cond t (neg_ℤ z) z)) [
  | true ↦ as_good_negated s y z
  | false ↦ λ g. g
]

worse_sum : (s : Side) (n : ℕ) (ys zs : List ℤ) → Worse s ys zs → n ≤ length zs → AsGood s (sum_of (take n ys)) (sum_of (take n zs))
worse_sum s zero ys zs w h = good_refl s (as_price (pos 0))
worse_sum s (suc n) ys [] w h = absurd (omega arith)
worse_sum s (suc n) [] (z ∷ zs) w h = absurd w
worse_sum s (suc n) (y ∷ ys) (z ∷ zs) w h = as_good_sum s y z (sum_of (take n ys)) (sum_of (take n zs)) w.0 (worse_sum s n ys zs w.1 (omega arith))

-- the second net, if it exists, is no better to one who trades on side s than the first, which exists then
abbrev NoBetter : Side → Option ℤ → Option ℤ → Type 0
NoBetter s x None = Unit {0}
NoBetter s None (Some z) = ⊥
NoBetter s (Some y) (Some z) = AsGood s y z

plus_no_better : (s : Side) (x x' y y' : Option ℤ) → NoBetter s x x' → NoBetter s y y' → NoBetter s (plus x y) (plus x' y')
plus_no_better s x None y y' g h = tt
plus_no_better s x (Some x') y None g h = tt
plus_no_better s None (Some x') y (Some y') g h = absurd g
plus_no_better s (Some x) (Some x') None (Some y') g h = absurd h
plus_no_better s (Some x) (Some x') (Some y) (Some y') g h = as_good_sum s x x' y y' g h

leg_no_better : (s : Side) (leg : Leg) (ys zs : List ℤ) → Worse (leg_side s leg) ys zs → NoBetter s (leg_net leg ys 1) (leg_net leg zs 1)
leg_no_better s leg ys zs w =
    let side = leg_side s leg in
    let n = contracts_for leg 1 in
    let before = contracts_for leg 0 in
    elim (cases_Bool (leb n (length zs))) [
      | inl e ↦
          let enough = leb-true n (length zs) e in
          rw (e, le-leb n (length ys) (omega (arith, worse_length side ys zs w)))
          (as_good_signed s leg (sum_of (unit_contracts leg 1 ys)) (sum_of (unit_contracts leg 1 zs))
          (worse_sum side n (drop before ys) (drop before zs) (worse_drop side before ys zs w) (omega (arith, length-drop before zs))))
      | inr e ↦ rw e tt
    ]

net_no_better : (s : Side) (legs : List Leg) {os os' : List Order} → Thinner os os' → NoBetter s (net (ladders s legs os) 1) (net (ladders s legs os') 1)
net_no_better s [] t = good_refl s (as_price (pos 0))
net_no_better s (leg ∷ legs) t =
    plus_no_better s _ _ _ _
    (leg_no_better s leg _ _ (thinner_worse (Instrument leg.instrument) (leg_side s leg) t))
    (net_no_better s legs t)

unit_no_better : (o : Order) (legs : Option (List Leg)) {os os' : List Order} → Thinner os os' → NoBetter o.side (net_to o legs os 1) (net_to o legs os' 1)
unit_no_better o legs {os} {os'} t = go (reach o legs)
  where
    go : (l : Option (List Leg)) → NoBetter o.side (unit_net l o.side os 1) (unit_net l o.side os' 1)
    go None = tt
    go (Some l) = net_no_better o.side l t

wanted_before : (s : Side) (limit : Price) (x x' : Option ℤ) → NoBetter s x x' → wanted s limit None x' ≡ true → wanted s limit None x ≡ true
wanted_before s limit x None g h = absurd (both_ways false refl h)
wanted_before s limit None (Some x') g h = absurd g
wanted_before s limit (Some x) (Some x') g h = good_trans s (as_price x) (as_price x') limit g h

-- what is eligible in a thinner book was so before
pub eligible_before : (cs : List (List Leg)) {os os' : List Order} → Thinner os os' → (o : Order) → eligible cs os' o ≡ true → eligible cs os o ≡ true
eligible_before cs t o = wanted_before o.side o.price _ _ (unit_no_better o (legs_of cs (lot_book o.lot)) t)
