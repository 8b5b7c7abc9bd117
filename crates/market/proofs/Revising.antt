-- What a revision leaves of the book, and what its rows say.
use Rattle.std.proofs.Common.{◌≡◌, ℕ, ◌+◌, ◌-◌, ◌<◌, ◌≤◌, ltb, leb, Bool, true, cond, eqb, ◌&&◌, List, [], ◌∷◌, ◌++◌, refl, ap, arith}
use Rattle.std.specs.List.{All, Any}
use Rattle.std.proofs.lemmas.Bool.{and_parts, ltb-true, leb-true}
use Rattle.std.proofs.lemmas.Bool.Decides.{nat_tests}
use Rattle.std.proofs.lemmas.List.{length-append}
use Rattle.std.proofs.lemmas.List.Elements.{All-cons, All-head, All-tail, All-append}
use Rattle.std.proofs.lemmas.List.Sums.{sum_by-append}
use Rattle.market.specs.declared.leg.Leg.{Leg}
use Rattle.market.specs.declared.order.Order.{Order}
use Rattle.market.specs.declared.price.Price.{Price}
use Rattle.market.specs.declared.row.Row.{Row}
use Rattle.market.specs.BookCalls.{BookState}
use Rattle.market.specs.Orders.{quantity_of, sized, less}
use Rattle.market.specs.Prices.{same_price}
use Rattle.market.specs.Revisions.{stays, kept, cancelled, cut_rows, Revision, Revises, Revises.none, Revises.keeps, Revises.cancels}
use Rattle.market.specs.Turns.{resting}
use Rattle.market.proofs.Arrivals.{Above, arrival_behind}
use Rattle.market.proofs.Cancelling.{cancel_gone}
use Rattle.market.proofs.Keeping.{Orderly, orderly_thins, none as gives_nothing, Keeps}
use Rattle.market.proofs.Lists.{all_parts, all_among, any_first, any_right}
use Rattle.market.proofs.Sizes.{lot_size-sized}
use Rattle.market.proofs.Sums.{resting-cons, gone, Used}
use Rattle.market.proofs.Thinning.{count-cons, count-append, Thins, thins_same, removed_thins}

-- an order that keeps its place has something left, and no more than rested
pub stays_parts : (q : ℕ) (r : Price) (o : Order) → stays q r o ≡ true → (0 < q) × (q ≤ quantity_of o)
stays_parts q r o h =
    let parts = and_parts (ltb 0 q) (same_price o.price r && leb q (quantity_of o)) h in
    (ltb-true 0 q parts.0, leb-true q (quantity_of o) (and_parts (same_price o.price r) (leb q (quantity_of o)) parts.1).1)

-- one order has less left
pub lessened_thins : (before : List Order) (o : Order) (behind : List Order) (q : ℕ) → q ≤ quantity_of o → Thins (before ++ (o ∷ behind)) (before ++ (sized o q ∷ behind))
lessened_thins before o behind q le = record {
  keeps = λ P lasts a.
      let r = all_parts P before (o ∷ behind) a in
      let left : quantity_of o - (quantity_of o - q) ≡ q = omega (arith, le) in
      All-append P before (sized o q ∷ behind) r.0
      (All-cons P (sized o q) behind (rw left at (lasts o (quantity_of o - q) (All-head P o behind r.1))) (All-tail P o behind r.1));
  fewer = omega (arith, length-append {A = Order});
  counts = λ test steady.
      let left : quantity_of o - (quantity_of o - q) ≡ q = omega (arith, le) in
      let same : test (sized o q) ≡ test o = rw left at (steady o (quantity_of o - q)) in
      grind (arith, same, count-append test before (o ∷ behind), count-append test before (sized o q ∷ behind), count-cons test o behind, count-cons test (sized o q) behind);
  rises = arrival_behind before (o ∷ behind) (sized o q ∷ behind)
      (λ n a. All-cons (Above n) (sized o q) behind (All-head (Above n) o behind a) (All-tail (Above n) o behind a)) (λ a. a);
}

-- a revision makes one order less, takes it out, or leaves all as it was
pub revises_thins : {test : Order → Bool} {q : ℕ} {r : Price} {os os' : List Order} {v : Revision} {rows : List Row} → Revises test q r os v rows os' → Thins os os'
revises_thins {os = os} (none all) = thins_same os
revises_thins {q = q} {r} (keeps before o behind is others mine stay) = rw is (lessened_thins before o behind q (stays_parts q r o stay).1)
revises_thins (cancels before o behind is others mine gone) = rw is (removed_thins before o behind)

-- ---- what the rows say

-- an order that is cut to q is cancelled for the difference
pub cut_gone : (i n : ℕ) → 1 ≤ n → (o : Order) (q : ℕ) → gone i n (cut_rows o q) ≡ cond (eqb o.number n) (quantity_of o - q) 0
cut_gone i n h o q = grind (arith, nat_tests, cancel_gone i n h (less o q) [], lot_size-sized o.lot (quantity_of o - q))

-- what rested is what the rows cancel and what rests
revised_balance : {test : Order → Bool} {q : ℕ} {r : Price} {os os' : List Order} {v : Revision} {rows : List Row} → Revises test q r os v rows os' →
    (n i : ℕ) → 1 ≤ n → resting n os ≡ gone i n rows + resting n os'
revised_balance (none all) n i h = omega arith
revised_balance {q = q} {r} (keeps before o behind is others mine stay) n i h =
    let le = (stays_parts q r o stay).1 in
    let cut = cut_gone i n h o q in
    let split = sum_by-append {X = Order} (λ x. cond (eqb x.number n) (quantity_of x) 0) before in
    grind (arith, nat_tests, ap (resting n) is, split, resting-cons n o behind, resting-cons n (sized o q) behind, lot_size-sized o.lot q)
revised_balance (cancels before o behind is others mine not_left) n i h =
    omega (arith, ap (resting n) is, sum_by-append {X = Order}, resting-cons n o behind, cancel_gone i n h o [])

-- a revision gives no number, and loses nothing
pub revises_keeps : (cs : List (List Leg)) (m : BookState) → Orderly m → {test : Order → Bool} {q : ℕ} {r : Price} {os : List Order} {v : Revision} {rows : List Row} →
    Revises test q r m.orders v rows os → Keeps cs m rows [] (record { orders = os; next = m.next })
revises_keeps cs m s {os = os} revision =
    let thins = revises_thins revision in
    record {
      gives = gives_nothing;
      balance = λ n i h a b. omega (arith, revised_balance revision n i h);
      comes = λ P lasts a new. thins.keeps P lasts a;
      orderly = orderly_thins m os m.next s thins (omega arith);
    }

-- ---- the order that is revised

-- it is in the book, and passes the test
pub record Found (test : Order → Bool) (os : List Order) (o : Order) : Type 0 where
  pub there : Any (λ x. x ≡ o) os
  pub passes : test o ≡ true

in_middle : (before : List Order) (o : Order) (behind os : List Order) → os ≡ before ++ (o ∷ behind) → Any (λ x. x ≡ o) os
in_middle before o behind os is = rw is (any_right (λ x. x ≡ o) before (o ∷ behind) (any_first (λ x. x ≡ o) o behind refl))

-- the order that is cancelled
pub cancelled_found : {test : Order → Bool} {q : ℕ} {r : Price} {os os' : List Order} {o : Order} {rows : List Row} → Revises test q r os (cancelled o) rows os' → Found test os o
cancelled_found {os = os} (cancels before o behind is others mine not_left) = record { there = in_middle before o behind os is; passes = mine }

-- the order that keeps its number
pub kept_found : {test : Order → Bool} {q k : ℕ} {r : Price} {os os' : List Order} {rows : List Row} → Revises test q r os (kept k) rows os' →
    (o : Order) × Found test os o × (o.number ≡ k) × (stays q r o ≡ true)
kept_found {os = os} (keeps before o behind is others mine stay) = (o, record { there = in_middle before o behind os is; passes = mine }, refl, stay)

-- the number that is kept is one of those in the book
pub kept_used : {test : Order → Bool} {q k next : ℕ} {r : Price} {os os' : List Order} {rows : List Row} → Revises test q r os (kept k) rows os' → All (Used next) os → (1 ≤ k) × (k < next)
kept_used {next = next} {os = os} revision used =
    let found = kept_found revision in
    rw found.2 at (all_among (Used next) os found.0 used found.1.there)
