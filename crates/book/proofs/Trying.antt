-- Orders of combinations tried in turn: of each combination and side only the first.
use Rattle.std.proofs.Common.{◌≡◌, ℕ, zero, suc, ◌+◌, ◌<◌, ◌≤◌, Bool, true, false, cond, not, ◌&&◌, List, [], ◌∷◌, length, get_or, Some, None, Option, ltb, sym, refl, ap, ◌∙◌, subst, arith}
use Rattle.std.specs.Prelude.{ℤ, ◌||◌, nat_lt, ◌==◌}
use Rattle.std.specs.List.{All}
use Rattle.std.proofs.lemmas.Bool.{both_ways, ltb-true, ltb-false}
use Rattle.std.proofs.lemmas.Bool.Decides.{nat_tests}
use Rattle.std.proofs.lemmas.Int.{ints}
use Rattle.std.proofs.lemmas.List.{get_or_default}
use Rattle.market.specs.declared.leg.Leg.{Leg}
use Rattle.market.specs.declared.order.Lot.{Lot}
use Rattle.market.specs.declared.order.Lot.TheVariants.{Outright, Combined}
use Rattle.market.specs.declared.order.Order.{Order}
use Rattle.market.specs.declared.price.Price.{Price}
use Rattle.market.specs.declared.side.Side.{Side}
use Rattle.market.specs.declared.side.Side.TheVariants.{Buy, Sell}
use Rattle.market.specs.Ladders.{unit_net, net_to, wanted}
use Rattle.market.specs.Orders.{lot_book, book_number}
use Rattle.market.specs.Prices.{good, as_price}
use Rattle.market.specs.Round.{legs_of, eligible, side_first, precedes}
use Rattle.market.proofs.Places.{good_trans}
use Rattle.book.specs.Rounds.{combined, side_before, group_before, waits, FirstAmong}

module _ (cs : List (List Leg)) (os : List Order) where
  -- ---- one combination and side

  -- a limit that is no wider leaves no more eligible
  narrower : (s : Side) (p r : Price) (net : Option ℤ) → good s r p ≡ true → wanted s p None net ≡ false → wanted s r None net ≡ false
  narrower s p r None closer no-unit = refl
  narrower s p r (Some z) closer no-unit = go (good s (as_price z) r) refl
    where
      go : (t : Bool) → good s (as_price z) r ≡ t → t ≡ false
      go false e = refl
      go true e = absurd (both_ways _ no-unit (good_trans s (as_price z) r p e closer))

  alike : (x o : Order) → lot_book x.lot ≡ lot_book o.lot → x.side ≡ o.side → x.quote ≡ o.quote → net_to x (legs_of cs (lot_book x.lot)) os 1 ≡ net_to o (legs_of cs (lot_book o.lot)) os 1
  alike x o b s q = λ j. unit_net (cond (q j) None (legs_of cs (b j))) (s j) os 1

  same_group : (x o : Order) → lot_book x.lot ≡ lot_book o.lot → x.side ≡ o.side → x.quote ≡ o.quote → good o.side x.price o.price ≡ true → eligible cs os o ≡ false → eligible cs os x ≡ false
  same_group x o b s q closer none =
      subst (λ (t : Side). wanted t x.price None (net_to x (legs_of cs (lot_book x.lot)) os 1) ≡ false) (sym s)
      (subst (λ n. wanted o.side x.price None n ≡ false) (sym (alike x o b s q)) (narrower o.side o.price x.price (net_to o (legs_of cs (lot_book o.lot)) os 1) closer none))

-- ---- turns

same_number : (l m : Lot) → combined l ≡ true → combined m ≡ true → book_number (lot_book l) ≡ book_number (lot_book m) → lot_book l ≡ lot_book m
same_number (Outright i q) m a b e = absurd (both_ways _ refl a)
same_number (Combined c q) (Outright i r) a b e = absurd (both_ways _ refl b)
same_number (Combined c q) (Combined d r) a b e = ap (λ n. lot_book (Combined n q)) e

-- on the two sides of x and o: where o is first, or x is not, and no side goes before the other's, they have one side, and x's limit is no wider
side_ahead : (s t : Side) (p r : Price) → side_first s t p r ≡ true → side_before s t ≡ false → (t ≡ s) × (good s r p ≡ true)
side_ahead Buy Buy p r h k = (refl, grind (arith, ints))
side_ahead Buy Sell p r h k = absurd (both_ways _ k refl)
side_ahead Sell Buy p r h k = absurd (both_ways _ refl h)
side_ahead Sell Sell p r h k = (refl, grind (arith, ints))

side_behind : (s t : Side) (p r : Price) → side_first t s r p ≡ false → side_before s t ≡ false → (t ≡ s) × (good s r p ≡ true)
side_behind Buy Buy p r h k = (refl, grind (arith, ints))
side_behind Buy Sell p r h k = absurd (both_ways _ k refl)
side_behind Sell Buy p r h k = absurd (both_ways _ h refl)
side_behind Sell Sell p r h k = (refl, grind (arith, ints))

-- by number, then by tests
rank_ahead : (c d : ℕ) (t u : Bool) → (nat_lt c d || (c == d && t)) ≡ true → (nat_lt c d || (c == d && u)) ≡ false → (c ≡ d) × (t ≡ true) × (u ≡ false)
rank_ahead c d t u h k = (grind (arith, nat_tests), grind (arith, nat_tests), grind (arith, nat_tests))

rank_behind : (c d : ℕ) (t u : Bool) → (nat_lt d c || (d == c && t)) ≡ false → (nat_lt c d || (c == d && u)) ≡ false → (c ≡ d) × (t ≡ false) × (u ≡ false)
rank_behind c d t u h k = (grind (arith, nat_tests), grind (arith, nat_tests), grind (arith, nat_tests))

abbrev number : Order → ℕ
number o = book_number (lot_book o.lot)

group_ahead : (o x : Order) → precedes o x ≡ true → group_before o x ≡ false → (number o ≡ number x) × (x.side ≡ o.side) × (good o.side x.price o.price ≡ true)
group_ahead o x h k =
    let r = rank_ahead (number o) (number x) (side_first o.side x.side o.price x.price) (side_before o.side x.side) h k in
    let s = side_ahead o.side x.side o.price x.price r.1 r.2 in
    (r.0, s.0, s.1)

group_behind : (o x : Order) → precedes x o ≡ false → group_before o x ≡ false → (number o ≡ number x) × (x.side ≡ o.side) × (good o.side x.price o.price ≡ true)
group_behind o x h k =
    let r = rank_behind (number o) (number x) (side_first x.side o.side x.price o.price) (side_before o.side x.side) h k in
    let s = side_behind o.side x.side o.price x.price r.1 r.2 in
    (r.0, s.0, s.1)

side_chain : (s t u : Side) → side_before s t ≡ true → side_before t u ≡ true → side_before s u ≡ true
side_chain Buy Buy u h k = absurd (both_ways _ refl h)
side_chain Buy Sell Buy h k = absurd (both_ways _ refl k)
side_chain Buy Sell Sell h k = refl
side_chain Sell Buy u h k = absurd (both_ways _ refl h)
side_chain Sell Sell u h k = absurd (both_ways _ refl h)

rank_chain : (c d e : ℕ) (t u v : Bool) → (t ≡ true → u ≡ true → v ≡ true) → (nat_lt c d || (c == d && t)) ≡ true → (nat_lt d e || (d == e && u)) ≡ true → (nat_lt c e || (c == e && v)) ≡ true
rank_chain c d e t u v f h k = grind (arith, nat_tests)

group_chain : (x y z : Order) → group_before x y ≡ true → group_before y z ≡ true → group_before x z ≡ true
group_chain x y z h k = rank_chain (number x) (number y) (number z) _ _ _ (side_chain x.side y.side z.side) h k

side_itself : (s : Side) → side_before s s ≡ false
side_itself Buy = refl
side_itself Sell = refl

rank_itself : (c : ℕ) (t : Bool) → t ≡ false → (nat_lt c c || (c == c && t)) ≡ false
rank_itself c t e = grind (arith, nat_tests)

group_itself : (x : Order) → group_before x x ≡ false
group_itself x = rank_itself (number x) _ (side_itself x.side)

-- ---- what waits

-- what a waiting order is
pub record Waiting (tried : Option Order) (o : Order) : Type 0 where
  pub of : combined o.lot ≡ true
  pub order : o.quote ≡ false

open_parts : (b q g : Bool) → b && (not q && g) ≡ true → (b ≡ true) × (q ≡ false) × (g ≡ true)
open_parts true true g h = absurd (both_ways _ refl h)
open_parts true false g h = (refl, refl, h)
open_parts false q g h = absurd (both_ways _ refl h)

open_two : (b q : Bool) → b && not q ≡ true → (b ≡ true) × (q ≡ false)
open_two true true h = absurd (both_ways _ refl h)
open_two true false h = (refl, refl)
open_two false q h = absurd (both_ways _ refl h)

waiting : (tried : Option Order) (o : Order) → waits tried o ≡ true → Waiting tried o
waiting None o h = let p = open_two (combined o.lot) o.quote h in record { of = p.0; order = p.1 }
waiting (Some x) o h = let p = open_parts (combined o.lot) o.quote (group_before x o) h in record { of = p.0; order = p.1 }

closed : (b q g : Bool) → b ≡ true → q ≡ false → b && (not q && g) ≡ false → g ≡ false
closed b q g eb eq h = grind arith

opened : (b q g : Bool) → b ≡ true → q ≡ false → g ≡ true → b && (not q && g) ≡ true
opened b q g eb eq h = grind arith

-- what waits once o is tried has waited before
pub waits_before : (tried : Option Order) (o x : Order) → waits tried o ≡ true → waits (Some o) x ≡ true → waits tried x ≡ true
waits_before None o x h k =
    let p = open_parts (combined x.lot) x.quote (group_before o x) k in
    two (combined x.lot) x.quote p.0 p.1
  where
    two : (b q : Bool) → b ≡ true → q ≡ false → b && not q ≡ true
    two b q eb eq = grind arith
waits_before (Some y) o x h k =
    let p = open_parts (combined x.lot) x.quote (group_before o x) k in
    let r = open_parts (combined o.lot) o.quote (group_before y o) h in
    opened (combined x.lot) x.quote (group_before y x) p.0 p.1 (group_chain y o x r.2 p.2)

pub waits_not : (tried : Option Order) (o : Order) → waits tried o ≡ true → waits (Some o) o ≡ false
waits_not tried o h = shut (combined o.lot) o.quote (group_before o o) (group_itself o)
  where
    shut : (b q g : Bool) → g ≡ false → b && (not q && g) ≡ false
    shut true true g e = refl
    shut true false g e = e
    shut false q g e = refl

-- ---- how many wait

abbrev pub many : (Order → Bool) → List Order → ℕ
many test [] = 0
many test (o ∷ os) = cond (test o) 1 0 + many test os

one_le : (a b : Bool) → (a ≡ true → b ≡ true) → cond a 1 0 ≤ cond b 1 0
one_le true b k = rw (k refl) (omega arith)
one_le false b k = omega arith

many_le : (f g : Order → Bool) → ((x : Order) → f x ≡ true → g x ≡ true) → (os : List Order) → many f os ≤ many g os
many_le f g h [] = omega arith
many_le f g h (o ∷ os) = omega (arith, many_le f g h os, one_le (f o) (g o) (h o))

pub many_less : (f g : Order → Bool) → ((x : Order) → f x ≡ true → g x ≡ true) → (os : List Order) (i : ℕ) (d : Order) → i < length os → f (get_or os i d) ≡ false → g (get_or os i d) ≡ true → many f os < many g os
many_less f g h [] i d lt a b = absurd (omega arith)
many_less f g h (o ∷ os) zero d lt a b = rw (a, b) (omega (arith, many_le f g h os))
many_less f g h (o ∷ os) (suc i) d lt a b = omega (arith, many_less f g h os i d (omega arith) a b, one_le (f o) (g o) (h o))

-- ---- trying

module _ (cs : List (List Leg)) (os : List Order) where
  -- no order that does not wait any more is eligible
  abbrev pub Tried : Option Order → Type 0
  Tried tried = All (λ o. waits tried o ≡ false → eligible cs os o ≡ false) os

  module _ (tried : Option Order) (i : ℕ) (d : Order) (h : Tried tried) (first : FirstAmong (waits tried) os i) where
    abbrev o : Order
    o = get_or os i d

    -- an order of the same turn is not eligible either
    group_none : eligible cs os o ≡ false → (x : Order) → waits tried x ≡ true → (number o ≡ number x) × (x.side ≡ o.side) × (good o.side x.price o.price ≡ true) → eligible cs os x ≡ false
    group_none none x wx g =
        let a = waiting tried x wx in
        let b = waiting tried o (first.passes d) in
        same_group cs os x o (same_number x.lot o.lot a.of b.of (sym g.0)) g.1 (a.order ∙ sym b.order) g.2 none

    -- an order that had its turn with o
    turn_none : eligible cs os o ≡ false → (j : ℕ) (x : Order) → j < length os → get_or os j d ≡ x → waits (Some o) x ≡ false → waits tried x ≡ true → eligible cs os x ≡ false
    turn_none none j x lt same out wx =
        let p = waiting tried x wx in
        let apart : group_before o x ≡ false = closed (combined x.lot) x.quote (group_before o x) p.of p.order out in
        let wd : waits tried (get_or os j d) ≡ true = subst (λ y. waits tried y ≡ true) (sym same) wx in
        place (ltb j i) (ltb i j) refl refl apart wd
      where
        place : (a b : Bool) → ltb j i ≡ a → ltb i j ≡ b → group_before o x ≡ false → waits tried (get_or os j d) ≡ true → eligible cs os x ≡ false
        place true b ea eb apart wd = group_none none x wx (group_ahead o x (subst (λ y. precedes o y ≡ true) same (first.before d j (ltb-true j i ea) wd)) apart)
        place false true ea eb apart wd = group_none none x wx (group_behind o x (subst (λ y. precedes y o ≡ false) same (first.after d j lt (ltb-true i j eb) wd)) apart)
        place false false ea eb apart wd =
            let here : j ≡ i = omega (arith, ltb-false j i ea, ltb-false i j eb) in
            subst (λ y. eligible cs os y ≡ false) (ap (λ n. get_or os n d) (sym here) ∙ same) none

    pub tried_more : eligible cs os o ≡ false → Tried (Some o)
    tried_more none j e lt out = go (waits tried (get_or os j e)) refl
      where
        go : (t : Bool) → waits tried (get_or os j e) ≡ t → eligible cs os (get_or os j e) ≡ false
        go false w = h j e lt w
        go true w = turn_none none j (get_or os j e) lt (get_or_default os j d e lt) out w
