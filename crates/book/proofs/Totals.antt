-- No fill adds to what is open in a book.
use Rattle.std.proofs.Common.{◌≡◌, ℕ, ◌+◌, ◌-◌, ◌*◌, ◌≤◌, Bool, List, [], ◌∷◌, ◌++◌, length, filter, ap, ◌∙◌, arith}
use Rattle.std.specs.List.{All}
use Rattle.std.proofs.lemmas.Bool.{cond_both}
use Rattle.std.proofs.lemmas.List.Elements.{All-head, All-tail}
use Rattle.std.proofs.lemmas.Bool.Decides.{nat_tests}
use Rattle.std.proofs.lemmas.List.{map-append}
use Rattle.rules.specs.Domain.{total}
use Rattle.market.specs.declared.book_id.BookId.{BookId}
use Rattle.market.specs.declared.leg.Leg.{Leg}
use Rattle.market.specs.declared.order.Order.{Order}
use Rattle.market.specs.declared.row.Row.{Row}
use Rattle.market.specs.declared.side.Side.{Side}
use Rattle.market.specs.Fills.{divided}
use Rattle.market.specs.Implied.{Taken, LegsTaken}
use Rattle.market.specs.Implied.Taken.{taken_all, next_level}
use Rattle.market.specs.Implied.LegsTaken.{no_leg, next_leg}
use Rattle.market.specs.Levels.{in_level, quantities, reduced, still_open, after_fill}
use Rattle.market.specs.Orders.{quantity_of, less}
use Rattle.market.specs.Prices.{opposite}
use Rattle.market.specs.Round.{left_of}
use Rattle.market.proofs.Sizes.{lot_size-sized}

-- what is open of all orders together
abbrev pub open_in : List Order → ℕ
open_in os = total (quantities os)

total_append : (xs ys : List ℕ) → total (xs ++ ys) ≡ total xs + total ys
total_append [] ys = omega arith
total_append (x ∷ xs) ys = omega (arith, total_append xs ys)

pub open_append : (xs ys : List Order) → open_in (xs ++ ys) ≡ open_in xs + open_in ys
open_append xs ys = ap total (map-append quantity_of xs ys) ∙ total_append (quantities xs) (quantities ys)

open_stays : (os : List Order) → open_in (filter still_open os) ≤ open_in os
open_stays [] = omega arith
open_stays (o ∷ os) =
    let rest = open_stays os in
    cond_both (still_open o) (o ∷ filter still_open os) (filter still_open os) (λ (xs : List Order). open_in xs ≤ quantity_of o + open_in os)
    (λ _. omega arith) (λ _. omega arith)

open_reduced : (test : Order → Bool) (os : List Order) (ks : List ℕ) → open_in (reduced test os ks) ≤ open_in os
open_reduced test [] ks = omega arith
open_reduced test (o ∷ os) [] = omega arith
open_reduced test (o ∷ os) (k ∷ ks) =
    let one = lot_size-sized o.lot (quantity_of o - k) in
    let rest = open_reduced test os ks in
    let same = open_reduced test os (k ∷ ks) in
    cond_both (test o) (less o k ∷ reduced test os ks) (o ∷ reduced test os (k ∷ ks)) (λ (xs : List Order). open_in xs ≤ quantity_of o + open_in os)
    (λ _. omega arith) (λ _. omega arith)

open_after : (test : Order → Bool) (os : List Order) (ks : List ℕ) → open_in (after_fill test os ks) ≤ open_in os
open_after test os ks = omega (arith, open_stays (reduced test os ks), open_reduced test os ks)

module _ (shares : List ℕ → ℕ → List ℕ) (f n : ℕ) where
  open_taken : (b : BookId) (s : Side) {q : ℕ} {os os' : List Order} {rows : List Row} → Taken shares f n b s q os rows os' → open_in os' ≤ open_in os
  open_taken b s taken_all = omega arith
  open_taken b s (next_level {q} {os} p some best t) = omega (arith, open_taken b s t, open_after (in_level b (opposite s) p) os (divided shares b s p os q))

  pub open_legs_taken : (s : Side) (u : ℕ) {legs : List Leg} {os os' : List Order} {rows : List Row} → LegsTaken shares f n s u legs os rows os' → open_in os' ≤ open_in os
  open_legs_taken s u no_leg = omega arith
  open_legs_taken s u (next_leg t ts) = omega (arith, open_taken _ _ t, open_legs_taken s u ts)

-- what is left of an order is open
open_left : (o : Order) (k : ℕ) → open_in (left_of o k) ≡ quantity_of o - k
open_left o k =
    let one = lot_size-sized o.lot (quantity_of o - k) in
    cond_both (still_open (less o k)) (less o k ∷ []) [] (λ (xs : List Order). open_in xs ≡ quantity_of o - k)
    (λ _. omega arith) (λ spent. grind (arith, nat_tests, one, spent))

-- an order among others trades
pub open_traded : (ahead : List Order) (o : Order) (behind : List Order) (k : ℕ) → k ≤ quantity_of o → open_in (ahead ++ left_of o k ++ behind) + k ≡ open_in (ahead ++ (o ∷ behind))
open_traded ahead o behind k within =
    omega (arith, open_append (ahead ++ left_of o k) behind, open_append ahead (left_of o k), open_append ahead (o ∷ behind), open_left o k)

-- a book of small orders has little open
pub open_small : (os : List Order) → All (λ o. quantity_of o ≤ 10000) os → open_in os ≤ length os * 10000
open_small [] small = omega arith
open_small (o ∷ os) small = omega (arith, All-head (λ x. quantity_of x ≤ 10000) o os small, open_small os (All-tail (λ x. quantity_of x ≤ 10000) o os small))
