-- Units taken leg by leg: what the rows of each leg lay out, and that the nets read off them are those of the ladders.
use Rattle.std.proofs.Common.{◌≡◌, ℕ, ◌+◌, ◌-◌, ◌*◌, ◌<◌, ◌≤◌, true, false, eqb, leb, List, [], ◌∷◌, ◌++◌, length, take, drop, refl, sym, ap, ◌∙◌, inl, arith}
use Rattle.std.specs.Prelude.{ℤ, unsigned_abs}
use Rattle.std.specs.List.{All, Any, sum_by}
use Rattle.std.proofs.Math.Nat.{mul-le-mul_left, mul-add}
use Rattle.std.proofs.lemmas.Bool.{eq-eqb, ne_eqb}
use Rattle.std.proofs.lemmas.Bool.Decides.{nat_tests}
use Rattle.std.proofs.lemmas.List.{append-nil, length-take, take-take, drop-take}
use Rattle.std.proofs.lemmas.List.Elements.{All-nil, All-cons, All-head, All-tail, All-append, All-weaker, filter-append}
use Rattle.rules.specs.Domain.{Laws}
use Rattle.market.specs.declared.book_id.BookId.{BookId}
use Rattle.market.specs.declared.book_id.BookId.TheVariants.{Instrument}
use Rattle.market.specs.declared.leg.Leg.{Leg}
use Rattle.market.specs.declared.order.Order.{Order}
use Rattle.market.specs.declared.row.Row.{Row}
use Rattle.market.specs.declared.row.RowKind.TheVariants.{Trade}
use Rattle.market.specs.declared.side.Side.{Side}
use Rattle.market.specs.Combinations.{Rising}
use Rattle.market.specs.Implied.{Taken, LegsTaken}
use Rattle.market.specs.Implied.LegsTaken.{no_leg, next_leg}
use Rattle.market.specs.Ladders.{leg_side, contracts_for, ladder, ladders, unit_contracts, leg_net, net}
use Rattle.market.specs.FairTrades.{of_leg, InLegs, prices_of, laid_out, on_side}
use Rattle.market.proofs.Asking.{Bounded}
use Rattle.market.proofs.LegRows.{rising_tail, rising_above}
use Rattle.market.proofs.Lists.{any_first, any_behind}
use Rattle.market.proofs.RankedLadders.{filter_all, filter_none}
use Rattle.market.proofs.TakenLadders.{Elsewhere, Trades, taken_bounded, taken_ladder, taken_elsewhere, taken_rows, taken_quantity}

-- ---- rows of one leg

of_leg_append : (leg : Leg) (xs ys : List Row) → of_leg leg (xs ++ ys) ≡ of_leg leg xs ++ of_leg leg ys
of_leg_append leg xs ys = filter-append (λ row. eqb row.book leg.instrument) xs ys

of_leg_own : (leg : Leg) (rows : List Row) → All (λ row. row.book ≡ leg.instrument) rows → of_leg leg rows ≡ rows
of_leg_own leg rows a =
    filter_all (λ row. eqb row.book leg.instrument) rows
    (All-weaker (λ (row : Row). row.book ≡ leg.instrument) (λ row. eqb row.book leg.instrument ≡ true) (λ row e. eq-eqb row.book leg.instrument e) rows a)

of_leg_none : (leg : Leg) (rows : List Row) → All (λ row. row.book ≡ leg.instrument → ⊥) rows → of_leg leg rows ≡ []
of_leg_none leg rows a =
    filter_none (λ row. eqb row.book leg.instrument) rows
    (All-weaker (λ (row : Row). row.book ≡ leg.instrument → ⊥) (λ row. eqb row.book leg.instrument ≡ false) (λ row e. ne_eqb row.book leg.instrument e) rows a)

-- a row trades contracts of some leg for the order n, on the side that it takes there, in the fill f
pub record TradesLeg (f n : ℕ) (s : Side) (legs : List Leg) (row : Row) : Type 0 where
  pub trade : row.kind ≡ Trade
  pub fill : row.fill ≡ f
  pub leg : Any (λ l. (row.book ≡ l.instrument) × (on_side (leg_side s l) row ≡ n)) legs

-- what taking u units comes to in one leg: its rows lay out the front of its ladder, and the book keeps the rest
pub record LegTaken (n : ℕ) (s : Side) (u : ℕ) (os : List Order) (rows : List Row) (os' : List Order) (leg : Leg) : Type 0 where
  pub enough : contracts_for leg u ≤ length (ladder (Instrument leg.instrument) (leg_side s leg) os)
  pub prices : prices_of (of_leg leg rows) ≡ take (contracts_for leg u) (ladder (Instrument leg.instrument) (leg_side s leg) os)
  pub left : ladder (Instrument leg.instrument) (leg_side s leg) os' ≡ drop (contracts_for leg u) (ladder (Instrument leg.instrument) (leg_side s leg) os)
  pub quantity : sum_by (λ row. row.quantity) (of_leg leg rows) ≡ contracts_for leg u
  pub named : All (λ row. on_side (leg_side s leg) row ≡ n) (of_leg leg rows)

other_instrument : (i : ℕ) (leg : Leg) → (i ≡ leg.instrument → ⊥) → (s s' : Side) → Elsewhere (Instrument i) s (Instrument leg.instrument) s'
other_instrument i leg ne s s' = inl (ne_eqb i leg.instrument ne)

module _ (shares : List ℕ → ℕ → List ℕ) (laws : Laws shares) (f n : ℕ) (s : Side) (u : ℕ) where
  -- a ladder of none of the legs is as it was
  pub legs_elsewhere : {legs : List Leg} {os os' : List Order} {rows : List Row} (b' : BookId) (s' : Side) →
      All (λ l. Elsewhere (Instrument l.instrument) (leg_side s l) b' s') legs → LegsTaken shares f n s u legs os rows os' → ladder b' s' os' ≡ ladder b' s' os
  legs_elsewhere b' s' a no_leg = refl
  legs_elsewhere b' s' a (next_leg {leg} {legs} t more) =
      legs_elsewhere b' s' (All-tail (λ l. Elsewhere (Instrument l.instrument) (leg_side s l) b' s') leg legs a) more
      ∙ taken_elsewhere shares laws f n (Instrument leg.instrument) (leg_side s leg) b' s' (All-head (λ l. Elsewhere (Instrument l.instrument) (leg_side s l) b' s') leg legs a) t

  -- all rows trade contracts of the legs
  pub legs_rows : {legs : List Leg} {os os' : List Order} {rows : List Row} → LegsTaken shares f n s u legs os rows os' → All (TradesLeg f n s legs) rows
  legs_rows no_leg = All-nil (TradesLeg f n s [])
  legs_rows (next_leg {leg} {legs} {rows = rows} {rows' = rows'} t more) =
      All-append (TradesLeg f n s (leg ∷ legs)) rows rows'
      (All-weaker (Trades f n (Instrument leg.instrument) (leg_side s leg)) (TradesLeg f n s (leg ∷ legs))
      (λ row h. record { trade = h.trade; fill = h.fill; leg = any_first (λ l. (row.book ≡ l.instrument) × (on_side (leg_side s l) row ≡ n)) leg legs (h.book, h.named) })
      rows (taken_rows shares laws f n (Instrument leg.instrument) (leg_side s leg) t))
      (All-weaker (TradesLeg f n s legs) (TradesLeg f n s (leg ∷ legs))
      (λ row h. record { trade = h.trade; fill = h.fill; leg = any_behind (λ l. (row.book ≡ l.instrument) × (on_side (leg_side s l) row ≡ n)) leg legs h.leg })
      rows' (legs_rows more))

  -- no row of the legs after one is a row of that one
  legs_above : (i : ℕ) {legs : List Leg} {os os' : List Order} {rows : List Row} → All (λ l. i < l.instrument) legs → LegsTaken shares f n s u legs os rows os' → All (λ row. i < row.book) rows
  legs_above i a no_leg = All-nil (λ (row : Row). i < row.book)
  legs_above i a (next_leg {leg} {legs} {rows = rows} {rows' = rows'} t more) =
      let above : i < leg.instrument = All-head (λ (l : Leg). i < l.instrument) leg legs a in
      All-append (λ (row : Row). i < row.book) rows rows'
      (All-weaker (Trades f n (Instrument leg.instrument) (leg_side s leg)) (λ row. i < row.book) (λ row h. omega (arith, h.book)) rows (taken_rows shares laws f n (Instrument leg.instrument) (leg_side s leg) t))
      (legs_above i (All-tail (λ (l : Leg). i < l.instrument) leg legs a) more)

  -- the first leg's rows are those that taking from its book gave
  first_leg_taken : {leg : Leg} {legs : List Leg} {os os' os'' : List Order} {rows rows' : List Row} →
      Taken shares f n (Instrument leg.instrument) (leg_side s leg) (contracts_for leg u) os rows os' → LegsTaken shares f n s u legs os' rows' os'' →
      All (λ l. leg.instrument < l.instrument) legs → Bounded os → LegTaken n s u os (rows ++ rows') os'' leg
  first_leg_taken {leg} {legs} {os} {os'} {os''} {rows} {rows'} t more above bounded =
      let b : BookId = Instrument leg.instrument in
      let side : Side = leg_side s leg in
      let trades = taken_rows shares laws f n b side t in
      let own : of_leg leg rows ≡ rows = of_leg_own leg rows (All-weaker (Trades f n b side) (λ row. row.book ≡ leg.instrument) (λ row h. h.book) rows trades) in
      let others : of_leg leg rows' ≡ [] = of_leg_none leg rows' (All-weaker (λ (row : Row). leg.instrument < row.book) (λ row. row.book ≡ leg.instrument → ⊥) (λ row h e. absurd (omega arith)) rows' (legs_above leg.instrument above more)) in
      let all : of_leg leg (rows ++ rows') ≡ rows = of_leg_append leg rows rows' ∙ rw (own, others) (append-nil rows) in
      let h = taken_ladder shares laws f n b side t bounded in
      let later = legs_elsewhere b side
      (All-weaker (λ (l : Leg). leg.instrument < l.instrument) (λ l. Elsewhere (Instrument l.instrument) (leg_side s l) b side) (λ l k. other_instrument l.instrument leg (λ e. absurd (omega arith)) (leg_side s l) side) legs above) more in
      record {
        enough = h.enough;
        prices = ap prices_of all ∙ h.prices;
        left = later ∙ h.left;
        quantity = rw all (taken_quantity shares laws f n b side t bounded);
        named = rw all (All-weaker (Trades f n b side) (λ row. on_side side row ≡ n) (λ row k. k.named) rows trades);
      }

  -- the rows of a later leg are those that the legs after the first gave
  later_leg_taken : (leg later : Leg) {os os' os'' : List Order} {rows rows' : List Row} →
      Taken shares f n (Instrument leg.instrument) (leg_side s leg) (contracts_for leg u) os rows os' →
      leg.instrument < later.instrument → LegTaken n s u os' rows' os'' later → LegTaken n s u os (rows ++ rows') os'' later
  later_leg_taken leg later {os} {os'} {os''} {rows} {rows'} t lt h =
      let b : BookId = Instrument leg.instrument in
      let side : Side = leg_side s leg in
      let others : of_leg later rows ≡ [] =
      of_leg_none later rows (All-weaker (Trades f n b side) (λ row. row.book ≡ later.instrument → ⊥) (λ row k e. absurd (omega (arith, k.book))) rows (taken_rows shares laws f n b side t)) in
      let all : of_leg later (rows ++ rows') ≡ of_leg later rows' = of_leg_append later rows rows' ∙ rw others refl in
      let same = taken_elsewhere shares laws f n b side (Instrument later.instrument) (leg_side s later) (other_instrument leg.instrument later (λ e. absurd (omega arith)) side (leg_side s later)) t in
      record {
        enough = rw same at h.enough;
        prices = ap prices_of all ∙ h.prices ∙ rw same refl;
        left = h.left ∙ rw same refl;
        quantity = rw all h.quantity;
        named = rw all h.named;
      }

  -- each leg's rows lay out the front of its ladder
  pub legs_taken : {legs : List Leg} {os os' : List Order} {rows : List Row} → LegsTaken shares f n s u legs os rows os' → Rising legs → Bounded os → All (LegTaken n s u os rows os') legs
  legs_taken {os = os} no_leg rising bounded = All-nil (LegTaken n s u os [] os)
  legs_taken (next_leg {leg} {legs} {os} {os'} {os''} {rows} {rows'} t more) rising bounded =
      let above = rising_above leg legs rising in
      let bounded' = taken_bounded shares laws f n (Instrument leg.instrument) (leg_side s leg) t bounded in
      All-cons (LegTaken n s u os (rows ++ rows') os'') leg legs
      (first_leg_taken t more above bounded)
      (All-weaker (λ l. (leg.instrument < l.instrument) × LegTaken n s u os' rows' os'' l) (LegTaken n s u os (rows ++ rows') os'') (λ l h. later_leg_taken leg l t h.0 h.1) legs
      (λ k d h. (above k d h, legs_taken more (rising_tail leg legs rising) bounded' k d h)))

-- ---- nets

-- so many contracts of a leg: more for more units
contracts_more : (leg : Leg) (v u : ℕ) → v ≤ u → contracts_for leg v ≤ contracts_for leg u
contracts_more leg v u h = mul-le-mul_left {m = v} {n = u} (unsigned_abs leg.ratio) h

-- and one unit's on top of those before it
contracts_step : (leg : Leg) (v : ℕ) → 1 ≤ v → contracts_for leg (v - 1) + contracts_for leg 1 ≡ contracts_for leg v
contracts_step leg v h = let e : v ≡ (v - 1) + 1 = omega arith in omega (arith, ap (λ k. unsigned_abs leg.ratio * k) e, mul-add (unsigned_abs leg.ratio) (v - 1) 1)

module _ (leg : Leg) (zs : List ℤ) (u v : ℕ) (some : 1 ≤ v) (upto : v ≤ u) where
  as_long : leb (contracts_for leg v) (length (take (contracts_for leg u) zs)) ≡ leb (contracts_for leg v) (length zs)
  as_long = let more = contracts_more leg v u upto in rw (length-take (contracts_for leg u) zs) (grind (arith, nat_tests))

  same_unit : unit_contracts leg v (take (contracts_for leg u) zs) ≡ unit_contracts leg v zs
  same_unit =
      let before : ℕ = contracts_for leg (v - 1) in
      let after : ℕ = contracts_for leg u - before in
      let step = contracts_step leg v some in
      let more = contracts_more leg v u upto in
      let sum : before + after ≡ contracts_for leg u = omega arith in
      ap (λ k. take (contracts_for leg 1) (drop before (take k zs))) (sym sum)
      ∙ ap (take (contracts_for leg 1)) (drop-take before after zs)
      ∙ take-take (contracts_for leg 1) after (drop before zs) (omega arith)

  -- the first u units are read off the contracts of u units
  leg_net_front : leg_net leg (take (contracts_for leg u) zs) v ≡ leg_net leg zs v
  leg_net_front = rw (as_long, same_unit) refl

-- the nets of the units taken, read off the rows, are those read off the ladders
pub net_laid_out : (n : ℕ) (s : Side) (u v : ℕ) (os : List Order) (rows : List Row) (os' : List Order) (legs : List Leg) → 1 ≤ v → v ≤ u →
    All (LegTaken n s u os rows os') legs → net (laid_out legs rows) v ≡ net (ladders s legs os) v
net_laid_out n s u v os rows os' [] some upto a = refl
net_laid_out n s u v os rows os' (leg ∷ legs) some upto a =
    let h = All-head (LegTaken n s u os rows os') leg legs a in
    let front = leg_net_front leg (ladder (Instrument leg.instrument) (leg_side s leg) os) u v some upto in
    let first : leg_net leg (prices_of (of_leg leg rows)) v ≡ leg_net leg (ladder (Instrument leg.instrument) (leg_side s leg) os) v =
    ap (λ zs. leg_net leg zs v) h.prices ∙ front in
    rw (first, net_laid_out n s u v os rows os' legs some upto (All-tail (LegTaken n s u os rows os') leg legs a)) refl

-- ---- an implied-in fill, laid out

-- the rows trade contracts in the fill f
pub legs_trades : (f n : ℕ) (s : Side) (legs : List Leg) (rows : List Row) → All (TradesLeg f n s legs) rows → All (λ row. (row.kind ≡ Trade) × (row.fill ≡ f)) rows
legs_trades f n s legs rows a = All-weaker (TradesLeg f n s legs) (λ row. (row.kind ≡ Trade) × (row.fill ≡ f)) (λ row h. (h.trade, h.fill)) rows a

pub legs_only : (f n : ℕ) (s : Side) (legs : List Leg) (rows : List Row) → All (TradesLeg f n s legs) rows → All (InLegs legs) rows
legs_only f n s legs rows a = All-weaker (TradesLeg f n s legs) (InLegs legs) (λ row h. let l = h.leg in (l.0, l.1, l.2, l.3, l.4.0)) rows a

-- the first units that the rows lay out have the nets that the ladders have
pub legs_nets : (shares : List ℕ → ℕ → List ℕ) (laws : Laws shares) (f n : ℕ) (s : Side) (u : ℕ) (legs : List Leg) (os os' : List Order) (rows : List Row) →
    Rising legs → Bounded os → LegsTaken shares f n s u legs os rows os' →
    (v : ℕ) → 1 ≤ v → v ≤ u → net (laid_out legs rows) v ≡ net (ladders s legs os) v
legs_nets shares laws f n s u legs os os' rows rising bounded t v some upto =
    net_laid_out n s u v os rows os' legs some upto (legs_taken shares laws f n s u t rising bounded)
