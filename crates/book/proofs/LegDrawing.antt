-- Units taken leg by leg: whatever is taken from the legs left, the whole is taken from the start.
use Rattle.std.proofs.Common.{◌≡◌, ℕ, ◌+◌, ◌<◌, ◌≤◌, false, List, [], ◌∷◌, ◌++◌, length, get_or, drop, inl, sym, subst, arith}
use Rattle.std.specs.List.{All}
use Rattle.std.proofs.lemmas.Bool.Decides.{nat_tests}
use Rattle.std.proofs.lemmas.List.{append_assoc, append-nil, drop_more, drop_all}
use Rattle.std.proofs.lemmas.List.Elements.{All-nil, All-cons, All-head, All-tail}
use Rattle.rules.specs.Domain.{Laws}
use Rattle.market.specs.declared.book_id.BookId.TheVariants.{Instrument}
use Rattle.market.specs.declared.leg.Leg.{Leg}
use Rattle.market.specs.declared.order.Order.{Order}
use Rattle.market.specs.declared.row.Row.{Row}
use Rattle.market.specs.declared.side.Side.{Side}
use Rattle.market.specs.Combinations.{Rising}
use Rattle.market.specs.Implied.{Taken, LegsTaken}
use Rattle.market.specs.Implied.LegsTaken.{no_leg, next_leg}
use Rattle.market.specs.Ladders.{ladder, leg_side, contracts_for}
use Rattle.market.specs.Orders.{same_book}
use Rattle.market.proofs.LegRows.{rising_tail, rising_above}
use Rattle.market.proofs.TakenLadders.{taken_elsewhere}
use Rattle.book.specs.declared.taker.Taker.{Taker}
use Rattle.book.specs.declared.told.Told.{Told}
use Rattle.book.specs.Reports.{Tells}
use Rattle.book.specs.Runs.{AllOffered}
use Rattle.book.specs.Taken.{ContractsTaken, UnitsTaken}
use Rattle.book.proofs.Reports.{tells_none, tells_then}

-- what is taken from one leg leaves what the legs behind it offer
module _ (shares : List ℕ → ℕ → List ℕ) (laws : Laws shares) (f n : ℕ) (s t : Side) (u q : ℕ) (leg : Leg) (os os' : List Order) (rows : List Row) (h : Taken shares f n (Instrument leg.instrument) t q os rows os') where
  other : (l : Leg) → leg.instrument < l.instrument → same_book (Instrument leg.instrument) (Instrument l.instrument) ≡ false
  other l lt = grind (arith, nat_tests)

  pub still_offered : (legs : List Leg) → All (λ l. leg.instrument < l.instrument) legs → AllOffered s u legs os → AllOffered s u legs os'
  still_offered [] above offered = All-nil (λ l. contracts_for l u ≤ length (ladder (Instrument l.instrument) (leg_side s l) os'))
  still_offered (l ∷ legs) above offered =
      let kept : ladder (Instrument l.instrument) (leg_side s l) os' ≡ ladder (Instrument l.instrument) (leg_side s l) os =
      taken_elsewhere shares laws f n (Instrument leg.instrument) t (Instrument l.instrument) (leg_side s l) (inl (other l (All-head (λ x. leg.instrument < x.instrument) l legs above))) h in
      All-cons (λ x. contracts_for x u ≤ length (ladder (Instrument x.instrument) (leg_side s x) os')) l legs
      (subst (λ zs. contracts_for l u ≤ length zs) (sym kept) (All-head (λ x. contracts_for x u ≤ length (ladder (Instrument x.instrument) (leg_side s x) os)) l legs offered))
      (still_offered legs (All-tail (λ x. leg.instrument < x.instrument) l legs above) (All-tail (λ x. contracts_for x u ≤ length (ladder (Instrument x.instrument) (leg_side s x) os)) l legs offered))

module _ (shares : List ℕ → ℕ → List ℕ) (taker : Taker) (legs : List Leg) (u : ℕ) (os₀ : List Order) (t₀ : Told) where
  abbrev Takes : List Leg → List Order → List Row → List Order → Type 0
  Takes ls os rows os' = LegsTaken shares taker.fill taker.number taker.side u ls os rows os'

  -- the legs from the place i on are left
  pub record LegDrawing (i : ℕ) (os : List Order) (t : Told) : Type 0 where
    pub told : List Row
    pub more : Tells t₀ told t
    pub goes : (new : List Row) (os' : List Order) → Takes (drop i legs) os new os' → Takes legs os₀ (told ++ new) os'
    pub rising : Rising (drop i legs)
    pub enough : AllOffered taker.side u (drop i legs) os

  pub legs_start : Rising legs → AllOffered taker.side u legs os₀ → LegDrawing 0 os₀ t₀
  legs_start rising enough = record { told = []; more = tells_none t₀; goes = λ new os' h. h; rising = rising; enough = enough }

  module _ (i : ℕ) (os : List Order) (t : Told) (d : Leg) (lt : i < length legs) (g : LegDrawing i os t) where
    abbrev leg : Leg
    leg = get_or legs i d

    parts : drop i legs ≡ leg ∷ drop (i + 1) legs
    parts = drop_more legs i d lt

    offered_all : AllOffered taker.side u (leg ∷ drop (i + 1) legs) os
    offered_all = subst (λ (ls : List Leg). AllOffered taker.side u ls os) parts g.enough

    rising_all : Rising (leg ∷ drop (i + 1) legs)
    rising_all = subst Rising parts g.rising

    -- the leg at i has what is taken from it
    pub leg_enough : (n : ℕ) (s : Side) → n ≡ contracts_for leg u → s ≡ leg_side taker.side leg → n ≤ length (ladder (Instrument leg.instrument) s os)
    leg_enough n s many side = rw (many, side) (All-head (λ x. contracts_for x u ≤ length (ladder (Instrument x.instrument) (leg_side taker.side x) os)) leg (drop (i + 1) legs) offered_all)

    next : Laws shares → (os' : List Order) (t' : Told)
        → ContractsTaken shares (record { fill = taker.fill; number = taker.number; side = leg_side taker.side leg }) leg.instrument (contracts_for leg u) os t os' t' → LegDrawing (i + 1) os' t'
    next laws os' t' h = record {
      told = g.told ++ h.rows;
      more = tells_then t₀ t t' g.told h.rows g.more h.more;
      goes = λ newer os'' k. subst (λ (xs : List Row). Takes legs os₀ xs os'') (sym (append_assoc g.told h.rows newer))
          (g.goes (h.rows ++ newer) os'' (subst (λ (ls : List Leg). Takes ls os (h.rows ++ newer) os'') (sym parts) (next_leg h.takes k)));
      rising = rising_tail leg (drop (i + 1) legs) rising_all;
      enough = still_offered shares laws taker.fill taker.number taker.side (leg_side taker.side leg) u (contracts_for leg u) leg os os' h.rows h.takes (drop (i + 1) legs) (rising_above leg (drop (i + 1) legs) rising_all)
          (All-tail (λ x. contracts_for x u ≤ length (ladder (Instrument x.instrument) (leg_side taker.side x) os)) leg (drop (i + 1) legs) offered_all);
    }

    pub legs_next : Laws shares → (os' : List Order) (t' : Told) (n : ℕ) (s : Side) → n ≡ contracts_for leg u → s ≡ leg_side taker.side leg
        → ContractsTaken shares (record { fill = taker.fill; number = taker.number; side = s }) leg.instrument n os t os' t' → LegDrawing (i + 1) os' t'
    legs_next laws os' t' n s many side h =
        next laws os' t'
        (subst (λ m. ContractsTaken shares (record { fill = taker.fill; number = taker.number; side = leg_side taker.side leg }) leg.instrument m os t os' t') many
        (subst (λ (x : Side). ContractsTaken shares (record { fill = taker.fill; number = taker.number; side = x }) leg.instrument n os t os' t') side h))

  pub legs_end : (i : ℕ) (os : List Order) (t : Told) → LegDrawing i os t → length legs ≤ i → UnitsTaken shares taker legs u os₀ t₀ os t
  legs_end i os t g past = record {
    rows = g.told;
    takes = subst (λ (xs : List Row). Takes legs os₀ xs os) (append-nil g.told) (g.goes [] os (subst (λ (ls : List Leg). Takes ls os [] os) (sym (drop_all i legs past)) no_leg));
    more = g.more;
  }
