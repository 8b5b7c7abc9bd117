-- One fill: what its rows say, and what it leaves of the book.
use Rattle.std.proofs.Common.{◌≡◌, ℕ, ◌+◌, ◌-◌, ◌≤◌, Bool, true, false, cond, ◌&&◌, ◌||◌, eqb, List, [], ◌∷◌, map, Some, None, Option, filter, refl, sym, ◌∙◌, inl, inr, arith}
use Rattle.std.specs.List.{All}
use Rattle.std.proofs.lemmas.Bool.{cases_Bool, cond_both, true≢false}
use Rattle.std.proofs.lemmas.Bool.Decides.{nat_tests}
use Rattle.std.proofs.lemmas.List.Elements.{All-nil, All-cons, All-head, All-tail, All-append, All-map}
use Rattle.std.proofs.lemmas.List.Sums.{sum_by-append}
use Rattle.rules.specs.Domain.{total, Below}
use Rattle.market.specs.declared.leg.Leg.{Leg}
use Rattle.market.specs.declared.order.Order.{Order}
use Rattle.market.specs.declared.row.Row.{Row}
use Rattle.market.specs.declared.row.RowKind.{RowKind}
use Rattle.market.specs.declared.row.RowKind.TheVariants as kind
use Rattle.market.specs.declared.side.Side.{Side}
use Rattle.market.specs.declared.side.Side.TheVariants.{Buy, Sell}
use Rattle.market.specs.Levels.{quantities, reduced, still_open}
use Rattle.market.specs.Orders.{quantity_of, less}
use Rattle.market.specs.Prices.{opposite}
use Rattle.market.specs.Rows.{buyer_of, some_rows, trade_row, combination_row, leg_row, share_rows, fill_rows}
use Rattle.market.specs.Turns.{counted, resting}
use Rattle.market.proofs.Sizes.{lot_size-sized}
use Rattle.market.proofs.Sums.{counted-cons, resting-cons, Plain}

-- ---- what a fill's rows say

-- the rows that trade in a fill
abbrev pub fill_kind : Option (List Leg) → RowKind
fill_kind None = kind.Trade
fill_kind (Some legs) = kind.Combination

-- a trade of the order o with the order t names n
abbrev pub meets : ℕ → ℕ → Order → Bool
meets t n o = eqb (buyer_of o.side o.number t) n || eqb (buyer_of (opposite o.side) o.number t) n

-- of two different orders, a trade names n as the first alone would
pub names_other : (s : Side) (m t n : ℕ) → (n ≡ t → ⊥) → (eqb (buyer_of s m t) n || eqb (buyer_of (opposite s) m t) n) ≡ eqb m n
names_other Buy m t n ne = grind (arith, nat_tests)
names_other Sell m t n ne = grind (arith, nat_tests)

pub names_own : (s : Side) (m t : ℕ) → (eqb (buyer_of s m t) t || eqb (buyer_of (opposite s) m t) t) ≡ true
names_own Buy m t = grind (arith, nat_tests)
names_own Sell m t = grind (arith, nat_tests)

module _ (is : RowKind → Bool) (leg : is kind.Leg ≡ false) (f t n : ℕ) where
  -- the legs of a trade between combinations count for nobody
  legs_uncounted : (o : Order) (k : ℕ) (legs : List Leg) → counted is n (map (leg_row f t o k) legs) ≡ 0
  legs_uncounted o k [] = refl
  legs_uncounted o k (l ∷ legs) = grind (arith, counted-cons is n (leg_row f t o k l) (map (leg_row f t o k) legs), leg, legs_uncounted o k legs)

  share_counts : (legs : Option (List Leg)) (o : Order) (k : ℕ) → counted is n (share_rows f t legs o k) ≡ cond (is (fill_kind legs) && meets t n o) k 0
  share_counts None o k = omega arith
  share_counts (Some legs) o k = omega (arith, counted-cons is n (combination_row f t o k) (map (leg_row f t o k) legs), legs_uncounted o k legs)

  -- what a fill's rows say: what the first share's rows say, and the others
  fill_step : (legs : Option (List Leg)) (o : Order) (os : List Order) (k : ℕ) (ks : List ℕ) →
      counted is n (fill_rows f t legs (o ∷ os) (k ∷ ks)) ≡ cond (is (fill_kind legs) && meets t n o) k 0 + counted is n (fill_rows f t legs os ks)
  fill_step legs o os k ks = grind (arith, nat_tests, sum_by-append {X = Row}, share_counts legs o k)

-- to the arriving order: all shares
pub fill_own : (is : RowKind → Bool) → is kind.Leg ≡ false → (f t : ℕ) (legs : Option (List Leg)) → is (fill_kind legs) ≡ true →
    (os : List Order) (ks : List ℕ) → Below ks (quantities os) → counted is t (fill_rows f t legs os ks) ≡ total ks
fill_own is leg f t legs main [] [] h = refl
fill_own is leg f t legs main [] (k ∷ ks) h = absurd h
fill_own is leg f t legs main (o ∷ os) [] h = absurd h
fill_own is leg f t legs main (o ∷ os) (k ∷ ks) h =
    grind (arith, fill_step is leg f t t legs o os k ks, main, names_own o.side o.number t, fill_own is leg f t legs main os ks h.1)

-- with no share there is no row
fill_none : (f t : ℕ) (legs : Option (List Leg)) (os : List Order) → fill_rows f t legs os [] ≡ []
fill_none f t legs [] = refl
fill_none f t legs (o ∷ os) = refl

-- to any other: what it loses
module _ (is : RowKind → Bool) (leg : is kind.Leg ≡ false) (f t n : ℕ) (legs : Option (List Leg)) (ne : is (fill_kind legs) ≡ true → n ≡ t → ⊥) (test : Order → Bool) where
  -- an order of the number n that passes the test is traded by the rows of this fill
  abbrev pub Met : Order → Type 0
  Met o = o.number ≡ n → test o ≡ true → is (fill_kind legs) ≡ true

  -- what the rows of an order's share say of the number n
  loses : (o : Order) → test o ≡ true → Met o → (k : ℕ) → cond (is (fill_kind legs) && meets t n o) k 0 ≡ cond (eqb o.number n) k 0
  loses o e met k = elim (cases_Bool (is (fill_kind legs))) [
    | inl main ↦ rw (main, names_other o.side o.number t n (ne main)) refl
    | inr silent ↦ let other : o.number ≡ n → ⊥ = λ same. true≢false (sym (met same e) ∙ silent) in grind (arith, nat_tests)
  ]

  pub fill_other : (os : List Order) (ks : List ℕ) → All Met os → Below ks (quantities (filter test os)) →
      resting n os ≡ counted is n (fill_rows f t legs (filter test os) ks) + resting n (reduced test os ks)
  fill_other [] ks a h = refl
  fill_other (o ∷ os) [] a h = rw (fill_none f t legs (filter test (o ∷ os))) (omega arith)
  fill_other (o ∷ os) (k ∷ ks) a h = elim (cases_Bool (test o)) [
    | inl e ↦
        let b : (k ≤ quantity_of o) × Below ks (quantities (filter test os)) = rw e at h in
        let more = fill_other os ks (All-tail Met o os a) b.1 in
        let one = fill_step is leg f t n legs o (filter test os) k ks in
        let lost = loses o e (All-head Met o os a) k in
        rw e (grind (arith, nat_tests, resting-cons n o, resting-cons n (less o k), more, b.0, one, lost, lot_size-sized o.lot (quantity_of o - k)))
    | inr e ↦ rw e (grind (arith, resting-cons n o, fill_other os (k ∷ ks) (All-tail Met o os a) (rw e at h)))
  ]

-- an emptied order held nothing more
pub resting_open : (n : ℕ) (os : List Order) → resting n (filter still_open os) ≡ resting n os
resting_open n [] = refl
resting_open n (o ∷ os) = grind (arith, nat_tests, resting-cons n o, resting_open n os)

-- ---- what rows of a fill are

-- what holds of the rows of each share holds of the rows of the fill
pub fill_each : (P : Row → Type 0) (Q : Order → Type 0) (f n : ℕ) (legs : Option (List Leg)) → ((o : Order) (k : ℕ) → Q o → All P (share_rows f n legs o k)) →
    (os : List Order) (ks : List ℕ) → All Q os → All P (fill_rows f n legs os ks)
fill_each P Q f n legs each [] ks a = All-nil P
fill_each P Q f n legs each (o ∷ os) [] a = All-nil P
fill_each P Q f n legs each (o ∷ os) (k ∷ ks) a =
    All-append P (some_rows k (share_rows f n legs o k)) (fill_rows f n legs os ks)
    (cond_both (eqb k 0) [] (share_rows f n legs o k) (All P) (λ e. All-nil P) (λ e. each o k (All-head Q o os a)))
    (fill_each P Q f n legs each os ks (All-tail Q o os a))

-- they cancel nothing
legs_plain : (f t : ℕ) (o : Order) (k : ℕ) (legs : List Leg) → All Plain (map (leg_row f t o k) legs)
legs_plain f t o k legs = All-map Plain (leg_row f t o k) legs (λ i l at. refl)

share_plain : (f t : ℕ) (legs : Option (List Leg)) (o : Order) (k : ℕ) → All Plain (share_rows f t legs o k)
share_plain f t None o k = All-cons Plain (trade_row f t o k) [] refl (All-nil Plain)
share_plain f t (Some legs) o k = All-cons Plain (combination_row f t o k) (map (leg_row f t o k) legs) refl (legs_plain f t o k legs)

pub fill_plain : (f t : ℕ) (legs : Option (List Leg)) (os : List Order) (ks : List ℕ) → All Plain (fill_rows f t legs os ks)
fill_plain f t legs os ks = fill_each Plain (λ o. Unit {0}) f t legs (λ o k _. share_plain f t legs o k) os ks (λ i o at. tt)
