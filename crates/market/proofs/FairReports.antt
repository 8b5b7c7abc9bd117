-- Reports of which every combination trade is fair, and how they are put together.
use Rattle.std.proofs.Common.{◌≡◌, ℕ, ◌<◌, ◌≤◌, true, false, ◌⊎◌, List, [], ◌∷◌, ◌++◌, ℤ, Some, Result, length, get_or, drop, refl, sym, ap, subst, arith, inl, inr}
use Rattle.std.specs.List.{All}
use Rattle.std.proofs.lemmas.Bool.{both_ways}
use Rattle.std.proofs.lemmas.List.{append-nil}
use Rattle.std.proofs.lemmas.List.Elements.{All-nil, All-head, All-tail, All-append, All-weaker}
use Rattle.market.specs.declared.call.Call.{Call}
use Rattle.market.specs.declared.leg.Leg.{Leg}
use Rattle.market.specs.declared.refusal.Refusal.{Refusal}
use Rattle.market.specs.declared.row.Row.{Row}
use Rattle.market.specs.declared.side.Side.{Side}
use Rattle.market.specs.declared.side.Side.TheVariants.{Buy, Sell}
use Rattle.market.specs.Combinations.{made}
use Rattle.market.specs.Turns.{Turn, is_combination}
use Rattle.market.specs.Entries.{Entry, Entered}
use Rattle.market.specs.FairTrades.{Limited, is_leg, leg_rows, WithinAll, UnitsWithin, UnitsWithin.at_level, UnitsWithin.from_legs, Fair, FairReport, EachFair}
use Rattle.market.proofs.LegRows.{NoLegRow, leg_rows_glue}

-- a row that trades neither a leg nor units
abbrev pub Silent : Row → Type 0
Silent row = (is_leg row.kind ≡ false) × (is_combination row.kind ≡ false)

-- silent, or of a fill from f on and before g
abbrev pub Placed : ℕ → ℕ → Row → Type 0
Placed f g row = Silent row ⊎ ((f ≤ row.fill) × (row.fill < g))

placed_wider : (f g f' g' : ℕ) (row : Row) → f' ≤ f → g ≤ g' → Placed f g row → Placed f' g' row
placed_wider f g f' g' row low high (inl s) = inl s
placed_wider f g f' g' row low high (inr k) = inr (omega (arith, k.0), omega (arith, k.1))

placed_leg : (f g : ℕ) (row : Row) → Placed f g row → is_leg row.kind ≡ true → (f ≤ row.fill) × (row.fill < g)
placed_leg f g row (inl s) e = absurd (both_ways (is_leg row.kind) s.0 e)
placed_leg f g row (inr k) e = k

placed_combination : (f g : ℕ) (row : Row) → Placed f g row → is_combination row.kind ≡ true → (f ≤ row.fill) × (row.fill < g)
placed_combination f g row (inl s) e = absurd (both_ways (is_combination row.kind) s.1 e)
placed_combination f g row (inr k) e = k

module _ {Message : Type 0} (reading : Message → Result Call Refusal) where
  -- where the row trades units in this fill, the net z is within the limits of its orders
  abbrev pub Meets : List (Turn Message) → ℕ → ℤ → Row → Type 0
  Meets h fill z t = is_combination t.kind ≡ true → t.fill ≡ fill → Limited reading h Buy t.book t.buyer z × Limited reading h Sell t.book t.seller z

  -- every combination trade among the rows is fair, in a report of all these
  abbrev pub FairIn : List (Turn Message) → List (List Leg) → List Row → List Row → Type 0
  FairIn h cs all rows = (ahead : List Row) (t : Row) (behind : List Row) → rows ≡ ahead ++ (t ∷ behind) → is_combination t.kind ≡ true → Fair reading h cs all t behind

  module _ (h : List (Turn Message)) (cs : List (List Leg)) (all : List Row) where
    pub fair_nil : FairIn h cs all []
    fair_nil [] t behind e c = absurd (omega (arith, ap length e))
    fair_nil (a ∷ ahead) t behind e c = absurd (omega (arith, ap length e))

    pub fair_cons : (row : Row) (rows : List Row) → (is_combination row.kind ≡ true → Fair reading h cs all row rows) → FairIn h cs all rows → FairIn h cs all (row ∷ rows)
    fair_cons row rows one more [] t behind e c =
        let same : row ≡ t = ap (λ l. get_or l 0 t) e in
        let rest : rows ≡ behind = ap (drop 1) e in
        subst (λ x. Fair reading h cs all x behind) same (subst (Fair reading h cs all row) rest (one (subst (λ x. is_combination x.kind ≡ true) (sym same) c)))
    fair_cons row rows one more (a ∷ ahead) t behind e c = more ahead t behind (ap (drop 1) e) c

    fair_tail : (row : Row) (rows : List Row) → FairIn h cs all (row ∷ rows) → FairIn h cs all rows
    fair_tail row rows fair ahead t behind e c = fair (row ∷ ahead) t behind (ap (λ l. row ∷ l) e) c

    -- rows that trade no units, ahead of others
    pub fair_past : (rows more : List Row) → All (λ row. is_combination row.kind ≡ false) rows → FairIn h cs all more → FairIn h cs all (rows ++ more)
    fair_past [] more a fair = fair
    fair_past (row ∷ rows) more a fair =
        fair_cons row (rows ++ more) (λ c. absurd (both_ways (is_combination row.kind) (All-head (λ row. is_combination row.kind ≡ false) row rows a) c))
        (fair_past rows more (All-tail (λ row. is_combination row.kind ≡ false) row rows a) fair)

    pub fair_plain : (rows : List Row) → All (λ row. is_combination row.kind ≡ false) rows → FairIn h cs all rows
    fair_plain rows a = subst (FairIn h cs all) (append-nil rows) (fair_past rows [] a fair_nil)

  -- ---- a trade that is fair in one report is fair in another

  module _ (h h' : List (Turn Message)) (cs cs' : List (List Leg)) (all all' : List Row) (t : Row) where
    -- with the same leg rows, where its combination still exists and what is within all limits there is so here
    fair_moved : (behind behind' : List Row) → ((legs : List Leg) → made cs t.book ≡ Some legs → made cs' t.book ≡ Some legs) →
        ((z : ℤ) → WithinAll reading h all t.fill z → WithinAll reading h' all' t.fill z) → leg_rows t.fill behind' ≡ leg_rows t.fill behind →
        Fair reading h cs all t behind → Fair reading h' cs' all' t behind'
    fair_moved behind behind' exists within same k = record {
      legs = k.legs;
      exists = exists k.legs k.exists;
      traded = rw same k.traded;
      in_legs = rw same k.in_legs;
      agreed = rw same (moved (leg_rows t.fill behind) k.agreed);
    }
      where
        moved : {legs : List Leg} (rows : List Row) → UnitsWithin reading h all legs t rows → UnitsWithin reading h' all' legs t rows
        moved rows (at_level z buyer seller some price a) = at_level z buyer seller some price (within z a)
        moved rows (from_legs one some trades each) = from_legs one some trades (λ u low high. let k = each u low high in (k.0, k.1, within k.0 k.2))

  -- so the trades among rows, with more rows behind
  fair_each : (h : List (Turn Message)) (cs : List (List Leg)) (all all' : List Row) (P : Row → Type 0) (rows more : List Row) →
      ((t : Row) (behind : List Row) → P t → is_combination t.kind ≡ true → Fair reading h cs all t behind → Fair reading h cs all' t (behind ++ more)) →
      All P rows → FairIn h cs all rows → FairIn h cs all' more → FairIn h cs all' (rows ++ more)
  fair_each h cs all all' P [] more step a fair after = after
  fair_each h cs all all' P (row ∷ rows) more step a fair after =
      fair_cons h cs all' row (rows ++ more) (λ c. step row rows (All-head P row rows a) c (fair [] row rows refl c))
      (fair_each h cs all all' P rows more step (All-tail P row rows a) (fair_tail h cs all row rows fair) after)

  -- ---- reports, from one fill to another

  -- rows of the fills from f on and before g, with all that is silent, are a fair report
  pub record FairFrom (h : List (Turn Message)) (cs : List (List Leg)) (f g : ℕ) (rows : List Row) : Type 0 where
    pub forward : f ≤ g
    pub placed : All (Placed f g) rows
    pub fair : FairReport reading h cs rows

  module _ (h : List (Turn Message)) (cs : List (List Leg)) where
    pub fair_none : (f : ℕ) → FairFrom h cs f f []
    fair_none f = record { forward = omega arith; placed = All-nil (Placed f f); fair = fair_nil h cs [] }

    pub fair_silent : (f : ℕ) (rows : List Row) → All Silent rows → FairFrom h cs f f rows
    fair_silent f rows a = record {
      forward = omega arith;
      placed = All-weaker Silent (Placed f f) (λ row s. inl s) rows a;
      fair = fair_plain h cs rows rows (All-weaker Silent (λ row. is_combination row.kind ≡ false) (λ row s. s.1) rows a);
    }

    -- rows that say nothing of trades may follow
    pub fair_padded : (rows more : List Row) → All Silent more → FairReport reading h cs rows → FairReport reading h cs (rows ++ more)
    fair_padded rows more a fair =
        fair_each h cs rows (rows ++ more) (λ row. Unit {0}) rows more
        (λ t behind k c. fair_moved h h cs cs rows (rows ++ more) t behind (behind ++ more) (λ legs e. e)
        (λ z within. All-append (Meets h t.fill z) rows more within (All-weaker Silent (Meets h t.fill z) (λ row s c e. absurd (both_ways (is_combination row.kind) s.1 c)) more a))
        (leg_rows_glue t.fill behind more (All-weaker Silent (NoLegRow t.fill) (λ row s leg e. both_ways (is_leg row.kind) s.0 leg) more a)))
        (λ i row at. tt) fair
        (fair_plain h cs (rows ++ more) more (All-weaker Silent (λ row. is_combination row.kind ≡ false) (λ row s. s.1) more a))

    -- one report after another
    module _ (f g f' : ℕ) (rows more : List Row) (p : All (Placed f g) rows) (q : All (Placed g f') more) where
      before : (fill : ℕ) (z : ℤ) → fill < g → WithinAll reading h rows fill z → WithinAll reading h (rows ++ more) fill z
      before fill z less a =
          All-append (Meets h fill z) rows more a
          (All-weaker (Placed g f') (Meets h fill z) (λ t k c e. let range = placed_combination g f' t k c in absurd (omega (arith, range.0))) more q)

      after : (fill : ℕ) (z : ℤ) → g ≤ fill → WithinAll reading h more fill z → WithinAll reading h (rows ++ more) fill z
      after fill z least a =
          All-append (Meets h fill z) rows more
          (All-weaker (Placed f g) (Meets h fill z) (λ t k c e. let range = placed_combination f g t k c in absurd (omega (arith, range.1))) rows p) a

      no_more : (fill : ℕ) → fill < g → All (NoLegRow fill) more
      no_more fill less = All-weaker (Placed g f') (NoLegRow fill) (λ row k leg e. let range = placed_leg g f' row k leg in omega (arith, range.0)) more q

      fair_append : FairReport reading h cs rows → FairReport reading h cs more → FairReport reading h cs (rows ++ more)
      fair_append a b =
          fair_each h cs rows (rows ++ more) (Placed f g) rows more
          (λ t behind k c. let less = (placed_combination f g t k c).1 in
          fair_moved h h cs cs rows (rows ++ more) t behind (behind ++ more) (λ legs e. e) (λ z. before t.fill z less) (leg_rows_glue t.fill behind more (no_more t.fill less)))
          p a
          (subst (FairIn h cs (rows ++ more)) (append-nil more)
          (fair_each h cs more (rows ++ more) (Placed g f') more []
          (λ t behind k c. let least = (placed_combination g f' t k c).0 in
          fair_moved h h cs cs more (rows ++ more) t behind (behind ++ []) (λ legs e. e) (λ z. after t.fill z least) (leg_rows_glue t.fill behind [] (All-nil (NoLegRow t.fill))))
          q b (fair_nil h cs (rows ++ more))))

    pub fair_then : {f g f' : ℕ} {rows more : List Row} → FairFrom h cs f g rows → FairFrom h cs g f' more → FairFrom h cs f f' (rows ++ more)
    fair_then {f} {g} {f'} {rows} {more} a b = record {
      forward = omega (arith, a.forward, b.forward);
      placed = All-append (Placed f f') rows more
          (All-weaker (Placed f g) (Placed f f') (λ row. placed_wider f g f f' row (omega arith) b.forward) rows a.placed)
          (All-weaker (Placed g f') (Placed f f') (λ row. placed_wider g f' f f' row a.forward (omega arith)) more b.placed);
      fair = fair_append f g f' rows more a.placed b.placed a.fair b.fair;
    }

  -- what holds of a report still does after more turns and with more combinations
  pub fair_later : (h h' : List (Turn Message)) (cs cs' : List (List Leg)) (rows : List Row) → ((e : Entry) → Entered reading h e → Entered reading h' e) →
      ((c : ℕ) (legs : List Leg) → made cs c ≡ Some legs → made cs' c ≡ Some legs) → FairReport reading h cs rows → FairReport reading h' cs' rows
  fair_later h h' cs cs' rows more exists a ahead t behind e c =
      fair_moved h h' cs cs' rows rows t behind behind (exists t.book) (λ z. All-weaker (Meets h t.fill z) (Meets h' t.fill z) (λ x k comb same. let l = k comb same in (limited_later Buy x.book x.buyer z l.0, limited_later Sell x.book x.seller z l.1)) rows) refl (a ahead t behind e c)
    where
      limited_later : (s : Side) (c n : ℕ) (z : ℤ) → Limited reading h s c n z → Limited reading h' s c n z
      limited_later s c n z (inl none) = inl none
      limited_later s c n z (inr l) = inr (l.0, more l.0 l.1, l.2, l.3, l.4, l.5)

  -- the reports of earlier turns, after one turn more
  pub fair_turns : (cs cs' : List (List Leg)) → ((c : ℕ) (legs : List Leg) → made cs c ≡ Some legs → made cs' c ≡ Some legs) →
      (h : List (Turn Message)) → EachFair reading cs h → EachFair reading cs' h
  fair_turns cs cs' grows [] fair = tt
  fair_turns cs cs' grows (t ∷ h) fair = (fair_later (t ∷ h) (t ∷ h) cs cs' t.rows (λ e x. x) grows fair.0, fair_turns cs cs' grows h fair.1)
