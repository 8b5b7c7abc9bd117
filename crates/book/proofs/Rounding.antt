-- The fills of a round.
use Rattle.std.proofs.Common.{◌≡◌, ℕ, ◌+◌, ◌≤◌, false, List, [], ◌∷◌, ◌++◌, length, get_or, take, drop, Some, None, Option, sym, refl, ap, ◌∙◌, subst, arith}
use Rattle.std.specs.List.{All}
use Rattle.std.proofs.lemmas.List.{append_assoc, append-nil}
use Rattle.std.proofs.lemmas.List.Elements.{All-weaker}
use Rattle.market.specs.declared.book_id.BookId.TheVariants.{Instrument}
use Rattle.market.specs.declared.leg.Leg.{Leg}
use Rattle.market.specs.declared.order.Order.{Order}
use Rattle.market.specs.declared.row.Row.{Row}
use Rattle.market.specs.declared.side.Side.{Side}
use Rattle.market.specs.Implied.{LegsTaken}
use Rattle.market.specs.Ladders.{ladder, leg_side, contracts_for, net_to, wanted, LongestRun, amount}
use Rattle.market.specs.Orders.{lot_book, quantity_of}
use Rattle.market.specs.Round.{legs_of, eligible, FirstEligible, left_of, Round}
use Rattle.market.specs.Round.Round.{over, takes}
use Rattle.market.specs.Rows.{implied_row}
use Rattle.market.proofs.Asides.{no_instrument, ladder_left}
use Rattle.book.specs.declared.told.Told.{Told}
use Rattle.book.specs.declared.wanted.Wanted.{Wanted}
use Rattle.book.specs.Reports.{Tells}
use Rattle.book.specs.Rounds.{FirstAt, RoundFilled, Rounded}
use Rattle.book.specs.Runs.{AllOffered, RunWanted}
use Rattle.book.specs.Taken.{Implied}
use Rattle.book.proofs.Reports.{tells_none, tells_then}
use Rattle.book.proofs.Steps.{sum_enough}
use Rattle.book.proofs.Totals.{open_in, open_traded, open_legs_taken}

-- ---- what an order of a combination trades leaves the ladders of instruments as they are

module _ (cs : List (List Leg)) (legs : List Leg) (ahead : List Order) (o : Order) (behind : List Order) (k : ℕ) (of : legs_of cs (lot_book o.lot) ≡ Some legs) where
  pub offered_aside : (s : Side) (u : ℕ) (ls : List Leg) → AllOffered s u ls (ahead ++ (o ∷ behind)) → AllOffered s u ls (ahead ++ left_of o k ++ behind)
  offered_aside s u ls h =
      All-weaker (λ l. contracts_for l u ≤ length (ladder (Instrument l.instrument) (leg_side s l) (ahead ++ (o ∷ behind)))) (λ l. contracts_for l u ≤ length (ladder (Instrument l.instrument) (leg_side s l) (ahead ++ left_of o k ++ behind)))
      (λ l enough. subst (λ zs. contracts_for l u ≤ length zs) (sym (ladder_left ahead o behind k (no_instrument cs (lot_book o.lot) legs of) l.instrument (leg_side s l))) enough) ls h

-- ---- one fill

module _ (cs : List (List Leg)) (os : List Order) (i : ℕ) (d o : Order) (is : o ≡ get_or os i d) (at : FirstAt cs os i) (legs : Option (List Leg)) (of : legs ≡ legs_of cs (lot_book o.lot)) (w : Wanted) (run : RunWanted o legs None (quantity_of o) os w) where
  abbrev ahead : List Order
  ahead = take i os

  abbrev behind : List Order
  behind = drop (i + 1) os

  first : FirstEligible cs os ahead o behind
  first = subst (λ x. FirstEligible cs os ahead x behind) (sym is) (at.first d)

  has : legs_of cs (lot_book o.lot) ≡ Some w.legs.now
  has = sym of ∙ run.of

  summed : amount (net_to o (Some w.legs.now) os) w.run.units.0 ≡ Some w.run.net.0
  summed = subst (λ (l : Option (List Leg)). amount (net_to o l os) w.run.units.0 ≡ Some w.run.net.0) run.of run.summed

  -- the legs still have its contracts once the order itself has traded
  pub round_enough : (os₁ : List Order) → os₁ ≡ ahead ++ left_of o w.run.units.0 ++ behind → AllOffered o.side w.run.units.0 w.legs.now os₁
  round_enough os₁ traded =
      subst (AllOffered o.side w.run.units.0 w.legs.now) (sym traded)
      (offered_aside cs w.legs.now ahead o behind w.run.units.0 has o.side w.run.units.0 w.legs.now
      (subst (AllOffered o.side w.run.units.0 w.legs.now) first.stands (sum_enough o w.legs.now os w.run.units.0 w.run.net.0 run.some summed)))

  pub round_filled : (shares : List ℕ → ℕ → List ℕ) (f : ℕ) (t : Told) (os₁ os' : List Order) (t' : Told) → os₁ ≡ ahead ++ left_of o w.run.units.0 ++ behind → Implied shares f o w os₁ t os' t' → RoundFilled shares cs f os t os' t'
  round_filled shares f t os₁ os' t' traded filled =
      let legs_taken : LegsTaken shares f o.number o.side w.run.units.0 w.legs.now (ahead ++ left_of o w.run.units.0 ++ behind) filled.rows os' =
      subst (λ (xs : List Order). LegsTaken shares f o.number o.side w.run.units.0 w.legs.now xs filled.rows os') traded filled.takes in
      record {
        rows = implied_row f o w.run.units.0 w.run.net.0 ∷ filled.rows;
        goes = λ new f' os'' m. takes ahead o behind w.legs.now first has
            (record {
              some = run.some;
              run = subst (λ (l : Option (List Leg)). LongestRun (wanted o.side o.price None) (net_to o l os) (quantity_of o) w.run.units.0) run.of run.run;
              net = w.run.net.0;
              summed = summed;
              taken = filled.rows;
              takes = legs_taken;
              reports = refl;
            }) m;
        more = filled.more;
        fewer = omega (arith, open_legs_taken shares f o.number o.side w.run.units.0 legs_taken, open_traded ahead o behind w.run.units.0 run.run.upto, ap open_in first.stands, run.some);
      }

-- ---- the fills of a round so far

module _ (shares : List ℕ → ℕ → List ℕ) (cs : List (List Leg)) (f₀ : ℕ) (os₀ : List Order) (t₀ : Told) where
  pub record Rounding (f : ℕ) (os : List Order) (t : Told) : Type 0 where
    pub told : List Row
    pub more : Tells t₀ told t
    pub goes : (new : List Row) (f' : ℕ) (os' : List Order) → Round shares cs f os new f' os' → Round shares cs f₀ os₀ (told ++ new) f' os'
    pub fills : f + open_in os ≤ 2580001

  pub rounding_start : f₀ + open_in os₀ ≤ 2580001 → Rounding f₀ os₀ t₀
  rounding_start few = record { told = []; more = tells_none t₀; goes = λ new f' os' m. m; fills = few }

  pub rounding_on : (f : ℕ) (os : List Order) (t : Told) (os' : List Order) (t' : Told) → Rounding f os t → RoundFilled shares cs f os t os' t' → Rounding (f + 1) os' t'
  rounding_on f os t os' t' g h = record {
    told = g.told ++ h.rows;
    more = tells_then t₀ t t' g.told h.rows g.more h.more;
    goes = λ newer f' os'' m. subst (λ (xs : List Row). Round shares cs f₀ os₀ xs f' os'') (sym (append_assoc g.told h.rows newer)) (g.goes (h.rows ++ newer) f' os'' (h.goes newer f' os'' m));
    fills = omega (arith, g.fills, h.fewer);
  }

  pub rounding_end : (f : ℕ) (os : List Order) (t : Told) → Rounding f os t → All (λ o. eligible cs os o ≡ false) os → Rounded shares cs f₀ os₀ t₀ os t
  rounding_end f os t g none = record {
    rows = g.told;
    next_fill = f;
    run = subst (λ (xs : List Row). Round shares cs f₀ os₀ xs f os) (append-nil g.told) (g.goes [] f os (over none));
    more = g.more;
  }
