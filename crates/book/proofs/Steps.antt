-- The steps of a match.
use Rattle.std.proofs.Common.{◌≡◌, ℕ, zero, suc, ◌<◌, ◌≤◌, Bool, true, false, cond, not, ◌&&◌, List, [], ◌∷◌, length, Some, None, Option, refl, subst, arith}
use Rattle.std.specs.Prelude.{ℤ}
use Rattle.std.proofs.lemmas.Bool.{both_ways}
use Rattle.std.proofs.lemmas.Bool.Decides.{nat_tests}
use Rattle.std.proofs.lemmas.Int.{ints}
use Rattle.std.proofs.lemmas.List.Elements.{All-nil, All-cons}
use Rattle.market.specs.declared.book_id.BookId.{BookId}
use Rattle.market.specs.declared.book_id.BookId.TheVariants.{Instrument}
use Rattle.market.specs.declared.leg.Leg.{Leg}
use Rattle.market.specs.declared.order.Order.{Order}
use Rattle.market.specs.declared.price.Price.{Price}
use Rattle.market.specs.declared.side.Side.{Side}
use Rattle.market.specs.declared.side.Side.TheVariants.{Buy, Sell}
use Rattle.market.specs.Fills.{facing, given, divided, filled_book, BestLevel}
use Rattle.market.specs.Ladders.{ladder, ladders, leg_side, contracts_for, plus, leg_net, net, unit_net, net_to, wanted, LongestRun, amount}
use Rattle.market.specs.Levels.{Best}
use Rattle.market.specs.Matching.{level_first}
use Rattle.market.specs.Matching.Match.{fill, implied}
use Rattle.market.specs.Orders.{lot_book}
use Rattle.market.specs.Prices.{opposite, good, as_price}
use Rattle.market.specs.Rows.{fill_rows, implied_row}
use Rattle.market.proofs.Places.{good_trans, good_total}
use Rattle.book.specs.declared.told.Told.{Told}
use Rattle.book.specs.declared.wanted.Wanted.{Wanted}
use Rattle.book.specs.Bounds.{Positive}
use Rattle.book.specs.Matched.{AtLevel, FromLegs, NoMore, Traded}
use Rattle.book.specs.Reports.{Tells}
use Rattle.book.specs.Runs.{AllOffered}
use Rattle.book.specs.Taken.{Implied}
use Rattle.book.proofs.Bounds.{level_open}

-- ---- when a match is over

-- what is no better than a price beyond the limit is beyond it too
beyond : (s : Side) (p q r : Price) → good s p q ≡ true → good s p r ≡ false → good s q r ≡ false
beyond Buy p q r h k = grind (arith, ints)
beyond Sell p q r h k = grind (arith, ints)

-- unit 1 is not wanted though it would beat a level that is beyond the limit, so it is beyond the limit too
unit_beyond : (s : Side) (limit p : Price) (net : Option ℤ) → good s p limit ≡ false → wanted s limit (Some p) net ≡ false → wanted s limit None net ≡ false
unit_beyond s limit p None far refused = refl
unit_beyond s limit p (Some z) far refused = go (good s p (as_price z)) (good s (as_price z) limit) refl refl refused
  where
    go : (t u : Bool) → good s p (as_price z) ≡ t → good s (as_price z) limit ≡ u → not t && u ≡ false → u ≡ false
    go true u e e' h = subst (λ v. v ≡ false) e' (beyond s p (as_price z) limit e far)
    go false u e e' h = h

-- where unit 1 is better than a level within the limit, it is wanted
unit_better : (s : Side) (limit p : Price) (net : Option ℤ) → good s p limit ≡ true → level_first s p net ≡ false → wanted s limit (Some p) net ≡ true
unit_better s limit p None near worse = absurd (both_ways _ worse refl)
unit_better s limit p (Some z) near worse =
    let better : good s (as_price z) p ≡ true = good_total s p (as_price z) worse in
    let within : good s (as_price z) limit ≡ true = good_trans s (as_price z) p limit better near in
    rw (worse, within) refl

module _ (o : Order) (legs : Option (List Leg)) (os : List Order) where
  abbrev first : Option ℤ
  first = net_to o legs os 1

  pub over_alone : BestLevel (lot_book o.lot) o.side os None → wanted o.side o.price None first ≡ false → NoMore o legs os
  over_alone alone refused = record { none = λ i x at y. absurd (both_ways _ (alone i x at) y); no_unit = refused }

  pub over_far : (p : Price) → Best (lot_book o.lot) o.side os p → good o.side p o.price ≡ false → wanted o.side o.price (Some p) first ≡ false → NoMore o legs os
  over_far p best far refused = record {
    none = λ i x at y. beyond o.side p _ o.price (best.none_better i x at y) far;
    no_unit = unit_beyond o.side o.price p first far refused;
  }

  pub over_not : (p : Price) → good o.side p o.price ≡ true → level_first o.side p first ≡ false → wanted o.side o.price (Some p) first ≡ false → NoMore o legs os
  over_not p near worse refused = absurd (both_ways _ refused (unit_better o.side o.price p first near worse))

-- ---- what units ask of the ladders

-- the rest of a net exists where the net does
rest_net : (x y : Option ℤ) (z : ℤ) → plus x y ≡ Some z → (w : ℤ) × (y ≡ Some w)
rest_net None y z h = absurd (cc)
rest_net (Some x) None z h = absurd (cc)
rest_net (Some x) (Some w) z h = (w, refl)

module _ (s : Side) (os : List Order) (u : ℕ) where
  -- a leg's part of a net exists where its contracts do
  part_enough : (leg : Leg) (zs : List ℤ) (y : Option ℤ) (z : ℤ) → plus (leg_net leg zs u) y ≡ Some z → contracts_for leg u ≤ length zs
  part_enough leg zs y z h = grind (arith, nat_tests)

  net_enough : (legs : List Leg) (z : ℤ) → net (ladders s legs os) u ≡ Some z → AllOffered s u legs os
  net_enough [] z h = All-nil (λ l. contracts_for l u ≤ length (ladder (Instrument l.instrument) (leg_side s l) os))
  net_enough (l ∷ legs) z h =
      let rest = rest_net (leg_net l (ladder (Instrument l.instrument) (leg_side s l) os) u) (net (ladders s legs os) u) z h in
      All-cons (λ l. contracts_for l u ≤ length (ladder (Instrument l.instrument) (leg_side s l) os)) l legs
      (part_enough l (ladder (Instrument l.instrument) (leg_side s l) os) (net (ladders s legs os) u) z h) (net_enough legs rest.0 rest.1)

-- where units have a sum of nets, the legs have their contracts
pub sum_enough : (o : Order) (legs : List Leg) (os : List Order) (u : ℕ) (z : ℤ) → 0 < u → amount (net_to o (Some legs) os) u ≡ Some z → AllOffered o.side u legs os
sum_enough o legs os zero z some h = absurd (omega arith)
sum_enough o legs os (suc u) z some h = go o.quote (rest_net (amount (net_to o (Some legs) os) u) (net_to o (Some legs) os (suc u)) z h)
  where
    go : (quote : Bool) → (w : ℤ) × (unit_net (cond quote None (Some legs)) o.side os (suc u) ≡ Some w) → AllOffered o.side (suc u) legs os
    go true h = absurd (let e : None ≡ Some h.0 = h.1 in cc)
    go false h = net_enough o.side os (suc u) legs h.0 h.1

-- ---- what has traded

module _ (shares : List ℕ → ℕ → List ℕ) (legs : Option (List Leg)) (o : Order) (f q : ℕ) (os : List Order) (t : Told) where
  abbrev here : BookId
  here = lot_book o.lot

  pub level_traded : (p : Price) (t' : Told) → 0 < q → Positive os → AtLevel o legs os p
      → Tells t (fill_rows f o.number legs (facing here o.side p os) (divided shares here o.side p os q)) t'
      → Traded shares legs o f q os t (given here o.side p os q) (filled_book shares here o.side p os q) t'
  level_traded p t' some positive at more =
      let open_there = level_open here (opposite o.side) p os positive at.best.there in
      record {
        some = omega arith;
        within = omega arith;
        rows = fill_rows f o.number legs (facing here o.side p os) (divided shares here o.side p os q);
        goes = λ new f' q' os'' m. fill p some at.best at.within at.first m;
        more = more;
      }

  pub units_traded : (w : Wanted) (os' : List Order) (t' : Told) → FromLegs o legs q os w → Implied shares f o w os t os' t' → Traded shares legs o f q os t w.run.units.0 os' t'
  units_traded w os' t' from filled =
      let is = from.wanted.of in
      record {
        some = from.wanted.some;
        within = from.wanted.run.upto;
        rows = implied_row f o w.run.units.0 w.run.net.0 ∷ filled.rows;
        goes = λ new f' q' os'' m. implied w.legs.now from.level is from.best
            (record {
              some = from.wanted.some;
              run = subst (λ (l : Option (List Leg)). LongestRun (wanted o.side o.price from.level) (net_to o l os) q w.run.units.0) is from.wanted.run;
              net = w.run.net.0;
              summed = subst (λ (l : Option (List Leg)). amount (net_to o l os) w.run.units.0 ≡ Some w.run.net.0) is from.wanted.summed;
              taken = filled.rows;
              takes = filled.takes;
              reports = refl;
            }) m;
        more = filled.more;
      }

  -- the legs of what an order takes have its contracts
  pub wanted_enough : (w : Wanted) → FromLegs o legs q os w → AllOffered o.side w.run.units.0 w.legs.now os
  wanted_enough w from = sum_enough o w.legs.now os w.run.units.0 w.run.net.0 from.wanted.some (subst (λ (l : Option (List Leg)). amount (net_to o l os) w.run.units.0 ≡ Some w.run.net.0) from.wanted.of from.wanted.summed)
