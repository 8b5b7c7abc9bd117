-- Sums over lists: what rows and a book come to for one order, and whom rows name.
use Rattle.std.proofs.Common.{◌≡◌, ℕ, ◌+◌, ◌<◌, ◌≤◌, Bool, true, false, cond, eqb, ◌&&◌, List, [], ◌∷◌, ◌++◌, arith}
use Rattle.std.specs.List.{All, sum_by}
use Rattle.std.proofs.lemmas.Bool.Decides.{nat_tests}
use Rattle.std.proofs.lemmas.List.Elements.{All-weaker}
use Rattle.std.proofs.lemmas.List.Folds.{sum_by-replicate}
use Rattle.std.proofs.lemmas.List.Sums.{sum_by-le, sum_by-cons, sum_by-append, sum_by_push}
use Rattle.market.specs.declared.order.Order.{Order}
use Rattle.market.specs.declared.row.Row.{Row}
use Rattle.market.specs.declared.row.RowKind.{RowKind}
use Rattle.market.specs.declared.row.RowKind.TheVariants as kind
use Rattle.market.specs.Orders.{quantity_of}
use Rattle.market.specs.Rows.{blank}
use Rattle.market.specs.Turns.{Turn, trades, is_cancellation, names, counted, over, resting}

-- where every element counts for nothing, so does the sum
sum_by-nothing : {X : Type 0} (P : X → Type 0) (f : X → ℕ) → ((x : X) → P x → f x ≤ 0) → (xs : List X) → All P xs → sum_by f xs ≡ 0
sum_by-nothing P f h xs a = omega (arith, sum_by-le f 0 xs (All-weaker P (λ x. f x ≤ 0) h xs a))

pub counted-cons : (is : RowKind → Bool) (n : ℕ) (row : Row) (rows : List Row) → counted is n (row ∷ rows) ≡ cond (is row.kind && names n row) row.quantity 0 + counted is n rows
counted-cons is n row rows = sum_by-cons _ row rows

pub resting-cons : (n : ℕ) (o : Order) (os : List Order) → resting n (o ∷ os) ≡ cond (eqb o.number n) (quantity_of o) 0 + resting n os
resting-cons n o os = sum_by-cons _ o os

pub resting-push : (n : ℕ) (os : List Order) (o : Order) → resting n (os ++ o ∷ []) ≡ resting n os + cond (eqb o.number n) (quantity_of o) 0
resting-push n os o = sum_by_push _ os o

-- the rows of legs trade no order
pub trades_no_leg : (i : ℕ) → trades i kind.Leg ≡ false
trades_no_leg i = grind (arith, nat_tests)

-- an order is traded by contract trades or by combination trades
pub trades_one : (i : ℕ) → trades i kind.Combination ≡ true → trades i kind.Trade ≡ false
trades_one i h = grind (arith, nat_tests)

-- what rows take from the order n in the book i, traded or cancelled
abbrev pub gone : ℕ → ℕ → List Row → ℕ
gone i n rows = counted (trades i) n rows + counted is_cancellation n rows

pub gone-append : (i n : ℕ) (rows rows' : List Row) → gone i n (rows ++ rows') ≡ gone i n rows + gone i n rows'
gone-append i n rows rows' = omega (arith, sum_by-append {X = Row})

pub gone-blank : (i n k : ℕ) → gone i n (blank k) ≡ 0
gone-blank i n k = grind (arith, sum_by-replicate {X = Row}, nat_tests)

-- ---- the numbers that rows name

-- the order has a number that was given, where m is the next
abbrev pub Used : ℕ → Order → Type 0
Used m o = (1 ≤ o.number) × (o.number < m)

-- a row that cancels nothing
abbrev pub Plain : Row → Type 0
Plain row = is_cancellation row.kind ≡ false

-- trades cancel nothing
pub plain_cancels_none : (n : ℕ) (rows : List Row) → All Plain rows → counted is_cancellation n rows ≡ 0
plain_cancels_none n = sum_by-nothing Plain _ (λ row p. grind arith)

-- the numbers in the row are below m, as 0 is
abbrev pub NumbersBelow : ℕ → Row → Type 0
NumbersBelow m row = (row.buyer < m) × (row.seller < m)

-- orders whose numbers are all below n
pub resting_below : (m n : ℕ) → m ≤ n → (os : List Order) → All (λ o. o.number < m) os → resting n os ≡ 0
resting_below m n le = sum_by-nothing (λ o. o.number < m) _ (λ o b. grind (arith, nat_tests))

module _ (m n : ℕ) (le : m ≤ n) where
  -- rows whose numbers are all below n say nothing of n
  counted_below : (is : RowKind → Bool) (rows : List Row) → All (NumbersBelow m) rows → counted is n rows ≡ 0
  counted_below is = sum_by-nothing (NumbersBelow m) _ (λ row b. grind (arith, nat_tests))

  pub over_below : {Message : Type 0} (is : RowKind → Bool) (h : List (Turn Message)) → All (λ t. All (NumbersBelow m) t.rows) h → over is n h ≡ 0
  over_below is = sum_by-nothing (λ t. All (NumbersBelow m) t.rows) _ (λ t a. omega (arith, counted_below is t.rows a))
