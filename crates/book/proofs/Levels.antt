-- A loop that reads a level, and one that finds the best price.
use Rattle.std.proofs.Common.{◌≡◌, ℕ, ◌+◌, ◌<◌, Bool, true, false, cond, List, [], ◌∷◌, ◌++◌, map, length, get_or, take, pos, Some, None, filter, Option, Bor, sym, refl, ap, ◌∙◌, subst, arith}
use Rattle.std.proofs.lemmas.List.Elements.{All-nil, All-push, filter_more}
use Rattle.std.proofs.lemmas.List.Quantifiers.{Any-push}
use Rattle.std.proofs.lemmas.List.{map-append, append-nil, append_assoc}
use Rattle.std.proofs.lemmas.Bool.{both_ways, cond_both}
use Rattle.std.specs.List.{fold}
use Rattle.std.specs.Option.{MatchOption}
use Rattle.rules.specs.Domain.{total}
use Rattle.market.specs.declared.book_id.BookId.{BookId}
use Rattle.market.specs.declared.order.Lot.TheVariants.{Outright}
use Rattle.market.specs.declared.order.Order.{Order}
use Rattle.market.specs.declared.price.Price.{Price}
use Rattle.market.specs.declared.side.Side.{Side}
use Rattle.market.specs.declared.side.Side.TheVariants.{Buy}
use Rattle.market.specs.Fills.{BestLevel}
use Rattle.market.specs.Levels.{in_level, level, quantities}
use Rattle.market.specs.Orders.{stands, quantity_of}
use Rattle.market.specs.Prices.{opposite, good}
use Rattle.market.proofs.Lists.{any_left}
use Rattle.market.proofs.Places.{good_refl, good_trans, good_total}
use Rattle.book.specs.Best.{better, best_among}

-- the order that a read past the end would give
abbrev pub no_order : Order
no_order = record { number = 0; participant = 0; side = Buy; price = record { 0 = pos 0 }; lot = Outright 0 (record { 0 = 0 }); quote = false }

-- ---- sums

pub total_push : (qs : List ℕ) (q : ℕ) → total (qs ++ q ∷ []) ≡ total qs + q
total_push [] q = omega arith
total_push (p ∷ qs) q = omega (arith, total_push qs q)

-- ---- reading a level

pub read_more : (b : BookId) (s : Side) (p : Price) (os : List Order) (k : ℕ) (d : Order) (qs qs' : List ℕ) → k < length os
    → qs ≡ quantities (level b s p (take k os))
    → qs' ≡ cond (in_level b s p (get_or os k d)) (qs ++ quantity_of (get_or os k d) ∷ []) qs
    → qs' ≡ quantities (level b s p (take (k + 1) os))
read_more b s p os k d qs qs' lt h e =
    rw (filter_more (in_level b s p) os k d lt, map-append quantity_of (filter (in_level b s p) (take k os)) (cond (in_level b s p (get_or os k d)) (get_or os k d ∷ []) []), ← h, e) (go (in_level b s p (get_or os k d)))
  where
    go : (t : Bool) → cond t (qs ++ quantity_of (get_or os k d) ∷ []) qs ≡ qs ++ map quantity_of (cond t (get_or os k d ∷ []) [])
    go true = refl
    go false = sym (append-nil qs)

-- ---- the best price

-- the best of the opposite orders' prices; none where there is no such order
abbrev pub best_of : BookId → Side → List Order → Option Price
best_of b s os = best_among s (map (λ o. o.price) (filter (stands b (opposite s)) os))

-- the better of a price and one that may be there
abbrev better_of : Side → Option Price → Price → Option Price
better_of s None p = Some p
better_of s (Some q) p = Some (better s q p)

-- the scan that begins with the first price is the scan that begins with none
from_first : (s : Side) (q : Price) (ps : List Price) → fold (better_of s) (Some q) ps ≡ Some (fold (better s) q ps)
from_first s q [] = refl
from_first s q (p ∷ ps) = from_first s (better s q p) ps

from_none : (s : Side) (ps : List Price) → fold (better_of s) None ps ≡ best_among s ps
from_none s [] = refl
from_none s (p ∷ ps) = from_first s p ps

module _ (b : BookId) (s : Side) (os : List Order) (o : Order) where
  abbrev here : Order → Bool
  here = stands b (opposite s)

  -- the price p is at least as good as that of x, if x stands there
  abbrev AsGood : Price → Order → Type 0
  AsGood p x = here x ≡ true → good s p x.price ≡ true

  -- an order that stands elsewhere changes nothing
  found_no : (best : Option Price) → BestLevel b s os best → here o ≡ false → BestLevel b s (os ++ o ∷ []) best
  found_no None h n = All-push (λ x. here x ≡ false) os o h n
  found_no (Some p) h n = record {
    there = any_left _ os (o ∷ []) h.there;
    none_better = All-push (AsGood p) os o h.none_better (λ y. absurd (both_ways _ n y));
  }

  -- an order that stands there may be the better one
  found_yes : (best : Option Price) → BestLevel b s os best → here o ≡ true → BestLevel b s (os ++ o ∷ []) (better_of s best o.price)
  found_yes None h y = record {
    there = Any-push _ os o (y, refl);
    none_better = All-push (AsGood o.price) os o (λ i x at t. absurd (both_ways _ (h i x at) t)) (λ _. good_refl s o.price);
  }
  found_yes (Some q) h y = go (good s q o.price) refl
    where
      go : (t : Bool) → good s q o.price ≡ t → BestLevel b s (os ++ o ∷ []) (Some (cond t q o.price))
      go true e = record {
        there = any_left _ os (o ∷ []) h.there;
        none_better = All-push (AsGood q) os o h.none_better (λ _. e);
      }
      go false e = record {
        there = Any-push _ os o (y, refl);
        none_better = All-push (AsGood o.price) os o (λ i x at t. good_trans s o.price q _ (good_total s q o.price e) (h.none_better i x at t)) (λ _. good_refl s o.price);
      }

module _ (b : BookId) (s : Side) where
  -- the prices of the orders that stand opposite, in book order
  abbrev opposed : List Order → List Price
  opposed os = map (λ o. o.price) (filter (stands b (opposite s)) os)

  -- what was the best of the orders before goes on to the best of all
  best_onward : (before : List Order) (best : Option Price) (os : List Order) → BestLevel b s before best → BestLevel b s (before ++ os) (fold (better_of s) best (opposed os))
  best_onward before best [] h = subst (λ (xs : List Order). BestLevel b s xs best) (sym (append-nil before)) h
  best_onward before best (o ∷ os) h =
      subst (λ (xs : List Order). BestLevel b s xs (fold (better_of s) best (opposed (o ∷ os)))) (append_assoc before (o ∷ []) os)
      (cond_both (stands b (opposite s) o) (o ∷ filter (stands b (opposite s)) os) (filter (stands b (opposite s)) os) (λ (xs : List Order). BestLevel b s ((before ++ o ∷ []) ++ os) (fold (better_of s) best (map (λ x. x.price) xs)))
      (λ y. best_onward (before ++ o ∷ []) (better_of s best o.price) os (found_yes b s before o best h y))
      (λ n. best_onward (before ++ o ∷ []) best os (found_no b s before o best h n)))

  -- a scan finds the best price
  pub best_found : (os : List Order) → BestLevel b s os (best_of b s os)
  best_found os = subst (BestLevel b s os) (from_none s (opposed os)) (best_onward [] None os (All-nil _))

-- ---- a scan by references

-- the prices of the orders that pass, read through references
pub prices_through : (test : Order → Bool) (rs : List (Bor Order)) → map (λ o. o.now.price) (filter (λ o. test o.now) rs) ≡ map (λ o. o.price) (filter test (map (λ o. o.now) rs))
prices_through test [] = refl
prices_through test (r ∷ rs) = go (test r.now) (prices_through test rs)
  where
    go : (b : Bool) → map (λ o. o.now.price) (filter (λ o. test o.now) rs) ≡ map (λ o. o.price) (filter test (map (λ o. o.now) rs))
        → map (λ o. o.now.price) (cond b (r ∷ filter (λ o. test o.now) rs) (filter (λ o. test o.now) rs)) ≡ map (λ o. o.price) (cond b (r.now ∷ filter test (map (λ o. o.now) rs)) (filter test (map (λ o. o.now) rs)))
    go true h = ap (λ (ps : List Price). r.now.price ∷ ps) h
    go false h = h

-- a reduction by the better of two prices gives the best
pub best_reduced : (s : Side) (ps : List Price) (n : ℕ) (r : Option Price) (P : Price → Type 0) → n ≡ length ps → MatchOption r (n ≡ 0) P
    → ((y : Price) → P y → (x : Price) × (xs : List Price) × (ps ≡ x ∷ xs) × (y ≡ fold (better s) x xs)) → r ≡ best_among s ps
best_reduced s [] n None P long h says = refl
best_reduced s (p ∷ ps) n None P long h says = absurd (omega (arith, long, h))
best_reduced s ps n (Some y) P long h says =
    let is = says y h in
    ap Some is.3 ∙ sym (ap (best_among s) is.2)
