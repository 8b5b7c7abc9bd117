-- A fill comes to one end: the best price, a level's division, the longest run of units and what they take are each determined.
use Rattle.std.proofs.Common.{◌≡◌, ℕ, ◌+◌, ◌<◌, Bool, true, false, inl, inr, List, ℤ, Some, None, Option, refl, ap, arith}
use Rattle.std.specs.List.{All}
use Rattle.std.proofs.lemmas.Int.{ints}
use Rattle.market.specs.declared.book_id.BookId.{BookId}
use Rattle.market.specs.declared.leg.Leg.{Leg}
use Rattle.market.specs.declared.order.Order.{Order}
use Rattle.market.specs.declared.price.Price.{Price}
use Rattle.market.specs.declared.row.Row.{Row}
use Rattle.market.specs.declared.side.Side.{Side}
use Rattle.market.specs.declared.side.Side.TheVariants.{Buy, Sell}
use Rattle.market.specs.Fills.{BestLevel}
use Rattle.market.specs.Implied.{Taken, Taken.taken_all, Taken.next_level, LegsTaken, LegsTaken.no_leg, LegsTaken.next_leg, ImpliedFill}
use Rattle.market.specs.Ladders.{LongestRun}
use Rattle.market.specs.Levels.{Best, NoneWithin}
use Rattle.market.specs.Orders.{stands}
use Rattle.market.specs.Prices.{opposite, good}

-- ---- the best level

same_from_good : (s : Side) (p r : Price) → good s p r ≡ true → good s r p ≡ true → p ≡ r
same_from_good Buy p r h k = ap (λ z. record { 0 = z }) (grind (arith, ints))
same_from_good Sell p r h k = ap (λ z. record { 0 = z }) (grind (arith, ints))

module _ {b : BookId} {s : Side} {os : List Order} where
  best_good : {p r : Price} → Best b s os p → Best b s os r → good s p r ≡ true
  best_good {p} {r} best other =
      let w = other.there in
      let good_to = rw w.3 at (best.none_better w.0 w.1 w.2) in rw (← w.4.1) (good_to w.4.0)

  pub best_unique : {p r : Price} → Best b s os p → Best b s os r → p ≡ r
  best_unique {p} {r} best other = same_from_good s p r (best_good best other) (best_good other best)

  pub best_not_within : (limit : Price) {p : Price} → Best b s os p → good s p limit ≡ true → NoneWithin b s limit os → ⊥
  best_not_within limit {p} best g none =
      let w = best.there in
      let beyond = rw w.3 at (none w.0 w.1 w.2) in cc (g, w.4.1, beyond w.4.0)

  pub best_not_absent : {p : Price} → Best b s os p → All (λ o. stands b (opposite s) o ≡ false) os → ⊥
  best_not_absent best none =
      let w = best.there in
      let absent = rw w.3 at (none w.0 w.1 w.2) in cc (w.4.0, absent)

pub best_level_unique : (b : BookId) (s : Side) (os : List Order) (x y : Option Price) → BestLevel b s os x → BestLevel b s os y → x ≡ y
best_level_unique b s os None None best other = refl
best_level_unique b s os None (Some r) none other = absurd (best_not_absent other none)
best_level_unique b s os (Some p) None best none = absurd (best_not_absent best none)
best_level_unique b s os (Some p) (Some r) best other = ap Some (best_unique best other)

-- ---- the longest run

module _ (want : Option ℤ → Bool) (nets : ℕ → Option ℤ) (q u v : ℕ) where
  -- of two longest runs, none is shorter
  not_shorter : LongestRun want nets q u → LongestRun want nets q v → u < v → ⊥
  not_shorter run other short = elim run.ends [
    | inl e ↦ absurd (omega arith)
    | inr e ↦ let more = other.each (u + 1) (omega arith) (omega arith) in cc
  ]

pub longest_unique : {want : Option ℤ → Bool} {nets : ℕ → Option ℤ} {q u v : ℕ} → LongestRun want nets q u → LongestRun want nets q v → u ≡ v
longest_unique {want} {nets} {q} {u} {v} run other = omega (arith, not_shorter want nets q u v run other, not_shorter want nets q v u other run)

-- ---- what is taken

-- two ends of what is taken are the same
pub record SameTaken (rows rows' : List Row) (os os' : List Order) : Type 0 where
  pub rows_are : rows ≡ rows'
  pub book_is : os ≡ os'

module _ (shares : List ℕ → ℕ → List ℕ) (f n : ℕ) where
  pub taken_unique : {b : BookId} {s : Side} {q : ℕ} {os : List Order} {rows : List Row} {os' : List Order} → Taken shares f n b s q os rows os' →
      {rows₂ : List Row} {os₂ : List Order} → Taken shares f n b s q os rows₂ os₂ → SameTaken rows rows₂ os' os₂
  taken_unique taken_all taken_all = record { rows_are = refl; book_is = refl }
  taken_unique taken_all (next_level p pq best t) = absurd (omega arith)
  taken_unique (next_level p pq best t) taken_all = absurd (omega arith)
  taken_unique (next_level p pq best t) (next_level r pr other k) =
      let e : r ≡ p = best_unique other best in
      let same = taken_unique t (rw e at k) in
      record { rows_are = cc (e, same.rows_are); book_is = same.book_is }

  pub legs_taken_unique : {s : Side} {u : ℕ} {legs : List Leg} {os : List Order} {rows : List Row} {os' : List Order} → LegsTaken shares f n s u legs os rows os' →
      {rows₂ : List Row} {os₂ : List Order} → LegsTaken shares f n s u legs os rows₂ os₂ → SameTaken rows rows₂ os' os₂
  legs_taken_unique no_leg no_leg = record { rows_are = refl; book_is = refl }
  legs_taken_unique (next_leg t ts) (next_leg t' ts') =
      let same = taken_unique t t' in
      let more = legs_taken_unique ts (rw (← same.book_is) at ts') in
      record { rows_are = cc (same.rows_are, more.rows_are); book_is = more.book_is }

-- ---- an implied-in fill

-- two ends of an implied-in fill are the same
pub record SameImplied (u u' : ℕ) (rows rows' : List Row) (os os' : List Order) : Type 0 where
  pub units_are : u ≡ u'
  pub rows_are : rows ≡ rows'
  pub book_is : os ≡ os'

-- the book from which the legs are taken may depend on how many units there are
pub implied_unique : (shares : List ℕ → ℕ → List ℕ) (legs : List Leg) (o : Order) (level : Option Price) (f q : ℕ) (os : List Order) (from : ℕ → List Order) {u u' : ℕ} {rows rows' : List Row} {os' os₂ : List Order} →
    ImpliedFill shares legs o level f q u os (from u) rows os' → ImpliedFill shares legs o level f q u' os (from u') rows' os₂ → SameImplied u u' rows rows' os' os₂
implied_unique shares legs o level f q os from {u} {u'} fill other =
    let e : u ≡ u' = longest_unique fill.run other.run in
    let same = legs_taken_unique shares f o.number (rw e at fill.takes) other.takes in
    let net : fill.net ≡ other.net = cc (e, fill.summed, other.summed) in
    record { units_are = e; rows_are = cc (e, net, same.rows_are, fill.reports, other.reports); book_is = same.book_is }
