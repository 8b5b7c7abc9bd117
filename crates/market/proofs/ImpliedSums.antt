-- Implied-in fills: what the legs' orders lose is what the contract trades say; what stays in the book stays what it was.
use Rattle.std.proofs.Common.{◌≡◌, ℕ, ◌+◌, ◌≤◌, Bool, true, false, cond, ◌&&◌, eqb, ℤ, List, ◌∷◌, None, Option, refl, arith}
use Rattle.std.specs.List.{All}
use Rattle.std.proofs.lemmas.List.Elements.{All-nil, All-cons, All-append, All-same}
use Rattle.std.proofs.lemmas.List.Sums.{sum_by-append}
use Rattle.rules.specs.Domain.{Laws}
use Rattle.market.specs.declared.book_id.BookId.{BookId}
use Rattle.market.specs.declared.leg.Leg.{Leg}
use Rattle.market.specs.declared.order.Order.{Order}
use Rattle.market.specs.declared.price.Price.{Price}
use Rattle.market.specs.declared.row.Row.{Row}
use Rattle.market.specs.declared.row.RowKind.{RowKind}
use Rattle.market.specs.declared.row.RowKind.TheVariants as kind
use Rattle.market.specs.declared.side.Side.{Side}
use Rattle.market.specs.Fills.{facing, divided}
use Rattle.market.specs.Implied.{Taken, Taken.taken_all, Taken.next_level, LegsTaken, LegsTaken.no_leg, LegsTaken.next_leg, ImpliedFill}
use Rattle.market.specs.Rows.{implied_row}
use Rattle.market.specs.Turns.{counted, resting}
use Rattle.market.proofs.Asking.{Bounded, bounded_thins}
use Rattle.market.proofs.Fills.{names_other, fill_plain}
use Rattle.market.proofs.LevelSums.{level_thins, level_other}
use Rattle.market.proofs.Sizes.{book_kind, TradedBy, traded_by_lasts}
use Rattle.market.proofs.Sums.{counted-cons, Plain}
use Rattle.market.proofs.Thinning.{Thins, thins_same, thins_then}

module _ (shares : List ℕ → ℕ → List ℕ) (f t : ℕ) where
  pub taken_thins : {b : BookId} {s : Side} {q : ℕ} {os os' : List Order} {rows : List Row} → Taken shares f t b s q os rows os' → Thins os os'
  taken_thins taken_all = thins_same _
  taken_thins {b} {s} {q} {os} (next_level p some best more) = thins_then (level_thins shares b s p os q) (taken_thins more)

  pub legs_thin : {s : Side} {u : ℕ} {legs : List Leg} {os os' : List Order} {rows : List Row} → LegsTaken shares f t s u legs os rows os' → Thins os os'
  legs_thin no_leg = thins_same _
  legs_thin (next_leg taken more) = thins_then (taken_thins taken) (legs_thin more)

  taken_plain : {b : BookId} {s : Side} {q : ℕ} {os os' : List Order} {rows : List Row} → Taken shares f t b s q os rows os' → All Plain rows
  taken_plain taken_all = All-nil Plain
  taken_plain {b} {s} {q} {os} (next_level p some best more) =
      All-append Plain _ _ (fill_plain f t None (facing b s p os) (divided shares b s p os q)) (taken_plain more)

  pub legs_plain : {s : Side} {u : ℕ} {legs : List Leg} {os os' : List Order} {rows : List Row} → LegsTaken shares f t s u legs os rows os' → All Plain rows
  legs_plain no_leg = All-nil Plain
  legs_plain (next_leg taken more) = All-append Plain _ _ (taken_plain taken) (legs_plain more)

  module _ (laws : Laws shares) (is : RowKind → Bool) (leg : is kind.Leg ≡ false) (n : ℕ) (ne : is kind.Trade ≡ true → n ≡ t → ⊥) where
    taken_other : {b : BookId} {s : Side} {q : ℕ} {os os' : List Order} {rows : List Row} → kind.Trade ≡ book_kind b → Taken shares f t b s q os rows os' →
        Bounded os → All (TradedBy is n) os → resting n os ≡ counted is n rows + resting n os'
    taken_other e taken_all bounded a = omega arith
    taken_other {b} {s} {q} {os} e (next_level {rows = rows} p some best more) bounded a =
        let thins = level_thins shares b s p os q in
        let here = level_other shares b s p os q laws bounded best is leg f t None n e ne a in
        let there = taken_other e more (bounded_thins thins bounded) (thins.keeps (TradedBy is n) (traded_by_lasts is n) a) in
        omega (arith, here, there, sum_by-append {X = Row})

    pub legs_other : {s : Side} {u : ℕ} {legs : List Leg} {os os' : List Order} {rows : List Row} → LegsTaken shares f t s u legs os rows os' →
        Bounded os → All (TradedBy is n) os → resting n os ≡ counted is n rows + resting n os'
    legs_other no_leg bounded a = omega arith
    legs_other (next_leg taken more) bounded a =
        let thins = taken_thins taken in
        let here = taken_other refl taken bounded a in
        let there = legs_other more (bounded_thins thins bounded) (thins.keeps (TradedBy is n) (traded_by_lasts is n) a) in
        omega (arith, here, there, sum_by-append {X = Row})

-- the row of the units names its order alone
pub units_counted : (is : RowKind → Bool) (n : ℕ) → 1 ≤ n → (f : ℕ) (o : Order) (u : ℕ) (z : ℤ) (rows : List Row) →
    counted is n (implied_row f o u z ∷ rows) ≡ cond (is kind.Combination && eqb o.number n) u 0 + counted is n rows
units_counted is n h f o u z rows = grind (arith, counted-cons is n (implied_row f o u z) rows, names_other o.side o.number 0 n (λ e. omega arith))

-- its rows cancel nothing
pub implied_plain : (shares : List ℕ → ℕ → List ℕ) (legs : List Leg) (o : Order) {level : Option Price} {f q u : ℕ} {os os' os'' : List Order} {rows : List Row} →
    ImpliedFill shares legs o level f q u os os' rows os'' → All Plain rows
implied_plain shares legs o {f = f} {u = u} i =
    All-same Plain _ _ i.reports (All-cons Plain (implied_row f o u i.net) i.taken refl (legs_plain shares f o.number i.takes))
