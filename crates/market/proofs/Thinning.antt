-- What a fill leaves of the book: fewer orders, or less of them.
use Rattle.std.proofs.Common.{◌≡◌, ℕ, ◌+◌, ◌≤◌, Bool, cond, List, [], ◌∷◌, ◌++◌, length, filter, refl, arith}
use Rattle.std.specs.List.{All, count_by}
use Rattle.std.proofs.lemmas.Bool.{cond_both}
use Rattle.std.proofs.lemmas.List.Elements.{All-nil, All-cons, All-head, All-tail, All-append, All-filter}
use Rattle.std.proofs.lemmas.List.{append_assoc, length-append}
use Rattle.std.proofs.lemmas.List.Sums.{length-filter, count_by-le-length, sum_by-cons, sum_by-append}
use Rattle.market.specs.declared.order.Order.{Order}
use Rattle.market.specs.Levels.{reduced, still_open, after_fill}
use Rattle.market.specs.Orders.{less}
use Rattle.market.specs.Round.{left_of}
use Rattle.market.specs.Sessions.{ByArrival}
use Rattle.market.proofs.Arrivals.{Above, arrival_filter, arrival_behind}
use Rattle.market.proofs.Lists.{all_parts}
use Rattle.market.proofs.Sizes.{Lasting}

pub all_reduced : (P : Order → Type 0) → Lasting P → (test : Order → Bool) (os : List Order) (ks : List ℕ) → All P os → All P (reduced test os ks)
all_reduced P lasts test [] ks a = a
all_reduced P lasts test (o ∷ os) [] a = a
all_reduced P lasts test (o ∷ os) (k ∷ ks) a =
    cond_both (test o) _ _ (All P)
    (λ _. All-cons P _ _ (lasts o k (All-head P o os a)) (all_reduced P lasts test os ks (All-tail P o os a)))
    (λ _. All-cons P _ _ (All-head P o os a) (all_reduced P lasts test os (k ∷ ks) (All-tail P o os a)))

pub all_after_fill : (P : Order → Type 0) → Lasting P → (test : Order → Bool) (os : List Order) (ks : List ℕ) → All P os → All P (after_fill test os ks)
all_after_fill P lasts test os ks a = All-filter still_open P (reduced test os ks) (all_reduced P lasts test os ks a)

pub length-kept_le : {X : Type 0} (test : X → Bool) (xs : List X) → length (filter test xs) ≤ length xs
length-kept_le test xs = omega (arith, length-filter test xs, count_by-le-length test xs)

length-reduced : (test : Order → Bool) (os : List Order) (ks : List ℕ) → length (reduced test os ks) ≡ length os
length-reduced test [] ks = refl
length-reduced test (o ∷ os) [] = refl
length-reduced test (o ∷ os) (k ∷ ks) = grind (arith, length-reduced test os ks, length-reduced test os (k ∷ ks))

pub length-after_fill : (test : Order → Bool) (os : List Order) (ks : List ℕ) → length (after_fill test os ks) ≤ length os
length-after_fill test os ks = omega (arith, length-kept_le still_open (reduced test os ks), length-reduced test os ks)

arrival_reduced : (test : Order → Bool) (os : List Order) (ks : List ℕ) → ByArrival os → ByArrival (reduced test os ks)
arrival_reduced test [] ks a = tt
arrival_reduced test (o ∷ os) [] a = a
arrival_reduced test (o ∷ os) (k ∷ ks) a =
    cond_both (test o) _ _ ByArrival
    (λ _. (all_reduced (Above o.number) (λ x j h. h) test os ks a.0, arrival_reduced test os ks a.1))
    (λ _. (all_reduced (Above o.number) (λ x j h. h) test os (k ∷ ks) a.0, arrival_reduced test os (k ∷ ks) a.1))

-- ---- how many pass a test that is blind to quantities

-- an order passes the test whatever it has open
abbrev pub Steady : (Order → Bool) → Type 0
Steady test = (o : Order) (k : ℕ) → test (less o k) ≡ test o

pub count-cons : (test : Order → Bool) (o : Order) (os : List Order) → count_by test (o ∷ os) ≡ cond (test o) 1 0 + count_by test os
count-cons test o os = sum_by-cons (λ x. cond (test x) 1 0) o os

pub count-append : (test : Order → Bool) (os os' : List Order) → count_by test (os ++ os') ≡ count_by test os + count_by test os'
count-append test os os' = sum_by-append (λ x. cond (test x) 1 0) os os'

pub count-filter_le : (test kept : Order → Bool) (os : List Order) → count_by test (filter kept os) ≤ count_by test os
count-filter_le test kept [] = omega arith
count-filter_le test kept (o ∷ os) = grind (arith, count-cons test o os, count-cons test o (filter kept os), count-filter_le test kept os)

-- an order counts as much after a trade
pub count-less : (test : Order → Bool) → Steady test → (o : Order) (k : ℕ) (os : List Order) → count_by test (less o k ∷ os) ≡ count_by test (o ∷ os)
count-less test steady o k os = grind (arith, steady o k, count-cons test (less o k) os, count-cons test o os)

count-reduced : (test : Order → Bool) → Steady test → (level : Order → Bool) (os : List Order) (ks : List ℕ) → count_by test (reduced level os ks) ≡ count_by test os
count-reduced test steady level [] ks = refl
count-reduced test steady level (o ∷ os) [] = refl
count-reduced test steady level (o ∷ os) (k ∷ ks) =
    cond_both (level o) _ _ (λ (xs : List Order). count_by test xs ≡ count_by test (o ∷ os))
    (λ _. omega (arith, count-less test steady o k (reduced level os ks), count-cons test o (reduced level os ks), count-cons test o os, count-reduced test steady level os ks))
    (λ _. omega (arith, count-cons test o (reduced level os (k ∷ ks)), count-cons test o os, count-reduced test steady level os (k ∷ ks)))

count-after_fill : (test : Order → Bool) → Steady test → (level : Order → Bool) (os : List Order) (ks : List ℕ) → count_by test (after_fill level os ks) ≤ count_by test os
count-after_fill test steady level os ks = omega (arith, count-filter_le test still_open (reduced level os ks), count-reduced test steady level os ks)

-- ---- a thinner book

-- each order of the second book is one of the first, but for its quantity; they are no more, and in the same order
pub record Thins (os os' : List Order) : Type 1 where
  pub keeps : (P : Order → Type 0) → Lasting P → All P os → All P os'
  pub fewer : length os' ≤ length os
  pub counts : (test : Order → Bool) → Steady test → count_by test os' ≤ count_by test os
  pub rises : ByArrival os → ByArrival os'

pub thins_same : (os : List Order) → Thins os os
thins_same os = record { keeps = λ P lasts a. a; fewer = omega arith; counts = λ test steady. omega arith; rises = λ a. a }

pub thins_then : {os os' os'' : List Order} → Thins os os' → Thins os' os'' → Thins os os''
thins_then t u = record {
  keeps = λ P lasts a. u.keeps P lasts (t.keeps P lasts a);
  fewer = omega (arith, t.fewer, u.fewer);
  counts = λ test steady. omega (arith, t.counts test steady, u.counts test steady);
  rises = λ a. u.rises (t.rises a);
}

pub fill_thins : (test : Order → Bool) (os : List Order) (ks : List ℕ) → Thins os (after_fill test os ks)
fill_thins test os ks = record {
  keeps = λ P lasts. all_after_fill P lasts test os ks;
  fewer = length-after_fill test os ks;
  counts = λ other steady. count-after_fill other steady test os ks;
  rises = λ a. arrival_filter still_open (reduced test os ks) (arrival_reduced test os ks a);
}

-- ---- one order less, or less of it

-- what an order leaves is above all numbers that it was above
above_left : (n : ℕ) (o : Order) (behind : List Order) (k : ℕ) → All (Above n) (o ∷ behind) → All (Above n) (left_of o k ++ behind)
above_left n o behind k a =
    cond_both (still_open (less o k)) _ _ (λ (os : List Order). All (Above n) (os ++ behind))
    (λ _. All-cons (Above n) (less o k) behind (All-head (Above n) o behind a) (All-tail (Above n) o behind a)) (λ _. All-tail (Above n) o behind a)

arrival_left : (o : Order) (behind : List Order) (k : ℕ) → ByArrival (o ∷ behind) → ByArrival (left_of o k ++ behind)
arrival_left o behind k a = cond_both (still_open (less o k)) _ _ (λ (os : List Order). ByArrival (os ++ behind)) (λ _. a) (λ _. a.1)

pub left_thins : (ahead : List Order) (o : Order) (behind : List Order) (k : ℕ) → Thins (ahead ++ (o ∷ behind)) (ahead ++ left_of o k ++ behind)
left_thins ahead o behind k = record {
  keeps = λ P lasts a.
      let r = all_parts P ahead (o ∷ behind) a in
      let left = All-filter still_open P (less o k ∷ []) (All-cons P (less o k) [] (lasts o k (All-head P o behind r.1)) (All-nil P)) in
      All-append P (ahead ++ left_of o k) behind (All-append P ahead (left_of o k) r.0 left) (All-tail P o behind r.1);
  fewer = omega (arith, length-append {A = Order}, length-kept_le still_open (less o k ∷ []));
  counts = λ test steady. omega (
    arith,
    count-append test ahead (o ∷ behind),
    count-cons test o behind,
    count-append test (ahead ++ left_of o k) behind,
    count-append test ahead (left_of o k),
    count-filter_le test still_open (less o k ∷ []),
    count-less test steady o k [],
    count-cons test o [],
  );
  rises = λ a.
      rw (append_assoc ahead (left_of o k) behind)
      (arrival_behind ahead (o ∷ behind) (left_of o k ++ behind) (λ n. above_left n o behind k) (arrival_left o behind k) a);
}

pub removed_thins : (ahead : List Order) (o : Order) (behind : List Order) → Thins (ahead ++ (o ∷ behind)) (ahead ++ behind)
removed_thins ahead o behind = record {
  keeps = λ P lasts a. let r = all_parts P ahead (o ∷ behind) a in All-append P ahead behind r.0 (All-tail P o behind r.1);
  fewer = omega (arith, length-append {A = Order});
  counts = λ test steady. omega (arith, count-append test ahead (o ∷ behind), count-cons test o behind, count-append test ahead behind);
  rises = arrival_behind ahead (o ∷ behind) behind (λ n a. All-tail (Above n) o behind a) (λ a. a.1);
}

pub filtered_thins : (test : Order → Bool) (os : List Order) → Thins os (filter test os)
filtered_thins test os = record { keeps = λ P lasts. All-filter test P os; fewer = length-kept_le test os; counts = λ other steady. count-filter_le other test os; rises = arrival_filter test os }
