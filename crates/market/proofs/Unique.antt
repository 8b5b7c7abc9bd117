-- A match comes to one end.
use Rattle.std.proofs.Common.{◌≡◌, ℕ, Bool, true, false, ◌&&◌, not, List, ℤ, Some, None, Option, arith}
use Rattle.market.specs.declared.leg.Leg.{Leg}
use Rattle.market.specs.declared.order.Order.{Order}
use Rattle.market.specs.declared.price.Price.{Price}
use Rattle.market.specs.declared.row.Row.{Row}
use Rattle.market.specs.declared.side.Side.{Side}
use Rattle.market.specs.Fills.{BestLevel}
use Rattle.market.specs.Implied.{ImpliedFill}
use Rattle.market.specs.Ladders.{net_to, wanted}
use Rattle.market.specs.Levels.{Best}
use Rattle.market.specs.Matching.{level_first, Match, Match.filled, Match.no_more, Match.fill, Match.implied}
use Rattle.market.specs.Orders.{lot_book}
use Rattle.market.specs.Prices.{good, as_price}
use Rattle.market.proofs.UniqueFills.{best_unique, best_not_within, best_level_unique, implied_unique}

-- ---- units and levels exclude one another

-- where both hold, each does
both : (a b : Bool) → (a && b) ≡ true → (a ≡ true) × (b ≡ true)
both a b h = grind arith

-- a unit that is wanted where there is a level is wanted without it
wanted_alone : (s : Side) (limit : Price) (level : Option Price) (z : Option ℤ) → wanted s limit level z ≡ true → wanted s limit None z ≡ true
wanted_alone s limit level None h = h
wanted_alone s limit None (Some z) h = h
wanted_alone s limit (Some p) (Some z) h = (both (not (good s p (as_price z))) (good s (as_price z) limit) h).1

-- a level that is at least as good as a unit leaves that unit unwanted
level_or_unit : (s : Side) (limit p : Price) (z : Option ℤ) → wanted s limit (Some p) z ≡ true → level_first s p z ≡ true → ⊥
level_or_unit s limit p None h g = cc
level_or_unit s limit p (Some z) h g = let beats : not (good s p (as_price z)) ≡ true = (both (not (good s p (as_price z))) (good s (as_price z) limit) h).0 in cc (rw g at beats)

-- ---- the match

-- two ends of a match are the same
pub record Same (rows rows' : List Row) (f f' q q' : ℕ) (os os' : List Order) : Type 0 where
  pub rows_are : rows ≡ rows'
  pub fill_is : f ≡ f'
  pub left_is : q ≡ q'
  pub book_is : os ≡ os'

module _ (shares : List ℕ → ℕ → List ℕ) (legs : Option (List Leg)) (o : Order) where
  -- the first unit of an implied-in fill is wanted
  first_unit : {cs : List Leg} {level : Option Price} {f q u : ℕ} {os from os' : List Order} {rows : List Row} → legs ≡ Some cs →
      ImpliedFill shares cs o level f q u os from rows os' → wanted o.side o.price level (net_to o legs os 1) ≡ true
  first_unit is units = let some = units.some in rw is (units.run.each 1 (omega arith) (omega arith))

  -- no implied-in fill where unit 1 is not within the limit
  no_unit : {cs : List Leg} {level : Option Price} {f q u : ℕ} {os from os' : List Order} {rows : List Row} → wanted o.side o.price None (net_to o legs os 1) ≡ false →
      legs ≡ Some cs → ImpliedFill shares cs o level f q u os from rows os' → ⊥
  no_unit {level = level} {os = os} none is units = let first = wanted_alone o.side o.price level (net_to o legs os 1) (first_unit is units) in cc

  -- no implied-in fill where the best level is at least as good as unit 1
  not_both : {cs : List Leg} {p : Price} {level : Option Price} {f q u : ℕ} {os from os' : List Order} {rows : List Row} →
      Best (lot_book o.lot) o.side os p → level_first o.side p (net_to o legs os 1) ≡ true →
      legs ≡ Some cs → BestLevel (lot_book o.lot) o.side os level → ImpliedFill shares cs o level f q u os from rows os' → ⊥
  not_both {p = p} {level} {os = os} best first is other units =
      let e : level ≡ Some p = best_level_unique (lot_book o.lot) o.side os level (Some p) other best in
      level_or_unit o.side o.price p (net_to o legs os 1) (rw e at (first_unit is units)) first

  pub match_unique : {f q : ℕ} {os : List Order} {rows : List Row} {f' q' : ℕ} {os' : List Order} → Match shares legs o f q os rows f' q' os' →
      {rows₂ : List Row} {f₂ q₂ : ℕ} {os₂ : List Order} → Match shares legs o f q os rows₂ f₂ q₂ os₂ → Same rows rows₂ f' f₂ q' q₂ os' os₂
  match_unique filled filled = search
  match_unique filled (no_more none w) = search
  match_unique filled (fill p pq best g first m) = absurd (omega arith)
  match_unique filled (implied cs level is best units m) = absurd (omega arith)
  match_unique (no_more none w) filled = search
  match_unique (no_more none w) (no_more h' w') = search
  match_unique (no_more none w) (fill p pq best g first m) = absurd (best_not_within o.price best g none)
  match_unique (no_more none w) (implied cs level is best units m) = absurd (no_unit w is units)
  match_unique (fill p pq best g first m) filled = absurd (omega arith)
  match_unique (fill p pq best g first m) (no_more none w) = absurd (best_not_within o.price best g none)
  match_unique (fill p pq best g first m) (fill r pr other g' first' n) =
      let e : r ≡ p = best_unique other best in
      let s = match_unique m (rw e at n) in
      record { rows_are = cc (e, s.rows_are); fill_is = s.fill_is; left_is = s.left_is; book_is = s.book_is }
  match_unique (fill p pq best g first m) (implied cs level is other units n) = absurd (not_both best first is other units)
  match_unique (implied cs level is other units m) filled = absurd (omega arith)
  match_unique (implied cs level is other units m) (no_more none w) = absurd (no_unit w is units)
  match_unique (implied cs level is other units m) (fill p pq best g first n) = absurd (not_both best first is other units)
  match_unique {f} {q} {os} (implied cs level is best units m) (implied cs' level' is' other units' n) =
      let e : cs' ≡ cs = cc in
      let l : level' ≡ level = best_level_unique (lot_book o.lot) o.side os level' level other best in
      let u = implied_unique shares cs o level f q os (λ _. os) units (rw (e, l) at units') in
      let s = match_unique m (rw (← u.units_are, ← u.book_is) at n) in
      record { rows_are = cc (u.rows_are, s.rows_are); fill_is = s.fill_is; left_is = s.left_is; book_is = s.book_is }
