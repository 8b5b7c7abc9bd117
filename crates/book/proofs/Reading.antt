-- What is still to come of a ladder that is read level after level.
use Rattle.std.proofs.Common.{◌≡◌, ℕ, zero, suc, ◌+◌, ◌-◌, ◌<◌, ◌≤◌, Bool, true, List, [], ◌∷◌, ◌++◌, map, length, get_or, replicate, append_assoc, length-append, Some, None, filter, Option, sym, refl, ap, ◌∙◌, subst, inl, inr, arith}
use Rattle.std.specs.Prelude.{ℤ, pos, ◌+ℤ◌, ◌*ℤ◌, ◌*◌}
use Rattle.std.proofs.lemmas.List.{length-replicate, replicate-append-replicate}
use Rattle.std.specs.List.{All, Any}
use Rattle.std.proofs.Math.IntN.{+ℤ_assoc, +ℤ_comm, zero-*ℤ, suc_ℤ-*ℤ}
use Rattle.std.proofs.lemmas.Int.{ints}
use Rattle.std.proofs.lemmas.Bool.{both_ways, cases_Bool, and_parts}
use Rattle.std.proofs.lemmas.Option.{none-some}
use Rattle.std.proofs.lemmas.List.Elements.{All-nil, All-cons, All-head, All-tail, All-weaker, filter_agree, filter_passes}
use Rattle.rules.specs.Domain.{total}
use Rattle.market.specs.declared.book_id.BookId.{BookId}
use Rattle.market.specs.declared.order.Order.{Order}
use Rattle.market.specs.declared.price.Price.{Price}
use Rattle.market.specs.declared.side.Side.{Side}
use Rattle.market.specs.Ladders.{contracts, ladder, ranked, sum_of}
use Rattle.market.specs.Levels.{level, quantities, Best}
use Rattle.market.specs.Orders.{stands}
use Rattle.market.specs.Prices.{opposite, good}
use Rattle.market.proofs.Lists.{any_behind}
use Rattle.market.proofs.RankedLadders as market
use Rattle.market.proofs.RankedLadders.{filter_all}
use Rattle.market.specs.Fills.{BestLevel}
use Rattle.book.specs.declared.rung.Rung.{Rung}
use Rattle.book.specs.Best.{best_among}
use Rattle.book.specs.Bounds.{Positive}
use Rattle.book.specs.Reading.{beyond, awaits, levels_beyond, to_come, Near, Bounded}
use Rattle.book.proofs.Bounds.{level_open}
use Rattle.book.proofs.Levels.{best_found}

-- ---- level after level

-- what holds of every element that passes, said of all
passed_all : {X : Type 0} (test : X → Bool) (P : X → Type 0) (xs : List X) → All P (filter test xs) → All (λ x. test x ≡ true → P x) xs
passed_all test P [] a = All-nil (λ x. test x ≡ true → P x)
passed_all test P (x ∷ xs) a =
    elim (cases_Bool (test x)) [
      | inl e ↦ let k : All P (x ∷ filter test xs) = rw e at a in All-cons (λ y. test y ≡ true → P y) x xs (λ _. All-head P x (filter test xs) k) (passed_all test P xs (All-tail P x (filter test xs) k))
      | inr e ↦ let k : All P (filter test xs) = rw e at a in All-cons (λ y. test y ≡ true → P y) x xs (λ t. absurd (both_ways _ e t)) (passed_all test P xs k)
    ]

-- some element that passes
passed_any : {X : Type 0} (test : X → Bool) (P : X → Type 0) (xs : List X) → Any P (filter test xs) → Any (λ x. (test x ≡ true) × P x) xs
passed_any test P [] (i, y, lt, at, p) = absurd (omega arith)
passed_any {X} test P (x ∷ xs) a =
    elim (cases_Bool (test x)) [
      | inl e ↦ step (passed_any test P xs) e (rw e at a)
      | inr e ↦ any_behind (λ y. (test y ≡ true) × P y) x xs (passed_any test P xs (rw e at a))
    ]
  where
    step : (Any P (filter test xs) → Any (λ y. (test y ≡ true) × P y) xs) → test x ≡ true → Any P (x ∷ filter test xs) → Any (λ y. (test y ≡ true) × P y) (x ∷ xs)
    step more e (zero, y, lt, at, p) = (0, y, omega arith, at, (ap test (sym at) ∙ e, p))
    step more e (suc i, y, lt, at, p) = any_behind (λ y. (test y ≡ true) × P y) x xs (more (i, y, omega arith, at, p))

none_among : (s : Side) (os : List Order) → best_among s (map (λ o. o.price) os) ≡ None → contracts (ranked s os) ≡ []
none_among s [] h = refl
none_among s (o ∷ os) h = absurd (none-some _ (sym h))

-- the price of the level that is being read
abbrev from : Option Rung → Option Price
from None = None
from (Some r) = Some r.price

awaits_beyond : (b : BookId) (s : Side) (r : Option Rung) (o : Order) → awaits b s r o ≡ market.beyond b s (from r) o
awaits_beyond b s None o = grind arith
awaits_beyond b s (Some r) o = refl

module _ (b : BookId) (s : Side) (r : Option Rung) (os : List Order) where
  abbrev waiting : List Order
  waiting = filter (awaits b s r) os

  levels_are : levels_beyond b s os r ≡ market.ladder_beyond b s (from r) os
  levels_are = ap (λ xs. contracts (ranked s xs)) (filter_agree (awaits b s r) (market.beyond b s (from r)) (awaits_beyond b s r) os)

  -- all that wait stand there
  all_stand : filter (stands b (opposite s)) waiting ≡ waiting
  all_stand = filter_all (stands b (opposite s)) waiting (All-weaker (λ o. awaits b s r o ≡ true) (λ o. stands b (opposite s) o ≡ true) (λ o h. (and_parts (stands b (opposite s) o) (beyond s r o) h).0) waiting (filter_passes (awaits b s r) os))

  found : BestLevel b s waiting (best_among s (map (λ o. o.price) waiting))
  found = subst (λ xs. BestLevel b s waiting (best_among s (map (λ o. o.price) xs))) all_stand (best_found b s waiting)

  pub no_level : best_among s (map (λ o. o.price) waiting) ≡ None → levels_beyond b s os r ≡ []
  no_level h = none_among s waiting h

  best_waiting : (p : Price) → best_among s (map (λ o. o.price) waiting) ≡ Some p → market.BestBeyond b s (from r) os p
  best_waiting p h =
      let best : Best b s waiting p = subst (BestLevel b s waiting) h found in
      let w = passed_any (awaits b s r) (λ o. (stands b (opposite s) o ≡ true) × (o.price ≡ p)) os best.there in
      let all = passed_all (awaits b s r) (λ o. stands b (opposite s) o ≡ true → good s p o.price ≡ true) os best.none_better in
      record {
        there = (w.0, w.1, w.2, w.3, (sym (awaits_beyond b s r w.1) ∙ w.4.0, w.4.1.1));
        none_better = λ i d at t. let o = get_or os i d in let e = awaits_beyond b s r o ∙ t in all i d at e (and_parts (stands b (opposite s) o) (beyond s r o) e).0;
      }

  pub one_level : (p : Price) (n : ℕ) → best_among s (map (λ o. o.price) waiting) ≡ Some p → n ≡ total (quantities (level b (opposite s) p os)) →
      levels_beyond b s os r ≡ replicate n p.0 ++ levels_beyond b s os (Some (record { price = p; left = n }))
  one_level p n h is =
      levels_are ∙ market.ladder_beyond_best b s (from r) os p (best_waiting p h) ∙ rw is refl

  pub some_level : (p : Price) → best_among s (map (λ o. o.price) waiting) ≡ Some p → Positive os → 0 < total (quantities (level b (opposite s) p os))
  some_level p h positive =
      let best : Best b s waiting p = subst (BestLevel b s waiting) h found in
      let w = passed_any (awaits b s r) (λ o. (stands b (opposite s) o ≡ true) × (o.price ≡ p)) os best.there in
      level_open b (opposite s) p os positive (w.0, w.1, w.2, w.3, w.4.1)

-- before a level is read, all of the ladder is to come
pub nothing_read : (b : BookId) (s : Side) (os : List Order) → to_come b s os None ≡ ladder b s os
nothing_read b s os = ap (λ xs. contracts (ranked s xs)) (filter_agree (awaits b s None) (stands b (opposite s)) (λ o. grind arith) os)

-- n contracts of the level that is being read, and what is to come after them
pub some_taken : (b : BookId) (s : Side) (os : List Order) (r : Rung) (n : ℕ) → n ≤ r.left → to_come b s os (Some r) ≡ replicate n r.price.0 ++ to_come b s os (Some (record { price = r.price; left = r.left - n }))
some_taken b s os r n le =
    let parts : replicate r.left r.price.0 ≡ replicate n r.price.0 ++ replicate (r.left - n) r.price.0 = ap (λ k. replicate k r.price.0) (omega arith) ∙ sym (replicate-append-replicate n (r.left - n) r.price.0) in
    ap (λ xs. xs ++ levels_beyond b s os (Some r)) parts ∙ append_assoc (replicate n r.price.0) _ _

-- ---- contract after contract

-- i contracts of zs have been read, and the rest is to come
pub record Reads (zs : List ℤ) (i : ℕ) (rest : List ℤ) (sum : ℤ) : Type 0 where
  pub taken : List ℤ
  pub parts : zs ≡ taken ++ rest
  pub many : length taken ≡ i
  pub adds : sum ≡ sum_of taken
  pub near : Bounded i sum

pub sum_of_append : (ys zs : List ℤ) → sum_of (ys ++ zs) ≡ sum_of ys +ℤ sum_of zs
sum_of_append [] zs = omega (arith, ints)
sum_of_append (y ∷ ys) zs = ap (λ x. y +ℤ x) (sum_of_append ys zs) ∙ sym (+ℤ_assoc y (sum_of ys) (sum_of zs))

-- so many contracts of one price
pub sum_of_same : (n : ℕ) (z : ℤ) → sum_of (replicate n z) ≡ pos n *ℤ z
sum_of_same zero z = sym (zero-*ℤ z)
sum_of_same (suc n) z = ap (λ x. z +ℤ x) (sum_of_same n z) ∙ +ℤ_comm z (pos n *ℤ z) ∙ sym (suc_ℤ-*ℤ (pos n) z)

near_same : (b n : ℕ) (z : ℤ) → Near b z → Near (b * n) (sum_of (replicate n z))
near_same b zero z near = record { high = omega (arith, ints); low = omega (arith, ints) }
near_same b (suc n) z near =
    let rest = near_same b n z near in
    record { high = omega (arith, ints, near.high, rest.high); low = omega (arith, ints, near.low, rest.low) }

pub near_times : (b n : ℕ) (z x : ℤ) → x ≡ pos n *ℤ z → Near b z → Near (b * n) x
near_times b n z x is near = subst (Near (b * n)) (sum_of_same n z ∙ sym is) (near_same b n z near)

pub reads_start : (zs : List ℤ) → Reads zs 0 zs (pos 0)
reads_start zs = record { taken = []; parts = refl; many = refl; adds = refl; near = record { high = grind (arith, ints); low = grind (arith, ints) } }

-- so many contracts more, all at one price
pub reads_more : (zs : List ℤ) (i n : ℕ) (z : ℤ) (rest rest' : List ℤ) (sum cost sum' : ℤ) → Reads zs i rest sum → rest ≡ replicate n z ++ rest' → cost ≡ pos n *ℤ z → Bounded n cost → sum' ≡ sum +ℤ cost
    → Reads zs (i + n) rest' sum'
reads_more zs i n z rest rest' sum cost sum' r is costs near adds = record {
  taken = r.taken ++ replicate n z;
  parts = r.parts ∙ ap (λ xs. r.taken ++ xs) is ∙ sym (append_assoc r.taken (replicate n z) rest');
  many = omega (arith, length-append r.taken (replicate n z), length-replicate n z, r.many);
  adds = adds ∙ ap (λ y. y +ℤ cost) r.adds ∙ ap (λ y. sum_of r.taken +ℤ y) (costs ∙ sym (sum_of_same n z)) ∙ sym (sum_of_append r.taken (replicate n z));
  near = record { high = omega (arith, ints, adds, r.near.high, near.high); low = omega (arith, ints, adds, r.near.low, near.low) };
}
