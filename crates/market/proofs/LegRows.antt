-- The leg rows of a combination trade, among the rows of its report.
use Rattle.std.proofs.Common.{◌≡◌, ℕ, ◌<◌, true, false, eqb, ◌&&◌, List, [], ◌∷◌, ◌++◌, map, get_or, refl, sym, ap, arith, inl, inr}
use Rattle.std.specs.List.{All}
use Rattle.std.proofs.lemmas.Bool.{cases_Bool, and_parts, eqb-true, eq-eqb, ne_eqb}
use Rattle.std.proofs.lemmas.List.Elements.{All-nil, All-cons, All-head, All-tail, All-weaker}
use Rattle.market.specs.declared.leg.Leg.{Leg}
use Rattle.market.specs.declared.row.Row.{Row}
use Rattle.market.specs.declared.row.RowKind.{RowKind}
use Rattle.market.specs.declared.row.RowKind.TheVariants as kind
use Rattle.market.specs.Combinations.{neighbours, Rising}
use Rattle.market.specs.Turns.{is_combination}
use Rattle.market.specs.FairTrades.{is_leg, leg_rows, of_leg}

-- ---- among the rows behind a combination trade

-- a row that trades a leg in the fill f
pub record LegRow (f : ℕ) (row : Row) : Type 0 where
  pub leg : is_leg row.kind ≡ true
  pub filled : row.fill ≡ f

-- no row that trades a leg in the fill f
abbrev pub NoLegRow : ℕ → Row → Type 0
NoLegRow f row = is_leg row.kind ≡ true → row.fill ≡ f → ⊥

pub leg_is_no_combination : (k : RowKind) → is_leg k ≡ true → is_combination k ≡ false
leg_is_no_combination kind.Blank e = refl
leg_is_no_combination kind.Trade e = refl
leg_is_no_combination kind.Leg e = refl
leg_is_no_combination kind.Combination e = sym e
leg_is_no_combination kind.Cancellation e = refl

-- its own rows, where the rows behind them begin with no other of its fill
pub leg_rows_own : (f : ℕ) (rows more : List Row) → All (LegRow f) rows → leg_rows f more ≡ [] → leg_rows f (rows ++ more) ≡ rows
leg_rows_own f [] more a e = e
leg_rows_own f (row ∷ rows) more a e =
    let own : LegRow f row = All-head (LegRow f) row rows a in
    rw (leg_is_no_combination row.kind own.leg, own.leg, eq-eqb row.fill f own.filled)
    (ap (λ l. row ∷ l) (leg_rows_own f rows more (All-tail (LegRow f) row rows a) e))

no_leg_row : (f : ℕ) (row : Row) → NoLegRow f row → (is_leg row.kind && eqb row.fill f) ≡ false
no_leg_row f row h = elim (cases_Bool (is_leg row.kind && eqb row.fill f)) [
  | inl e ↦ let both = and_parts (is_leg row.kind) (eqb row.fill f) e in absurd (h both.0 (eqb-true row.fill f both.1))
  | inr e ↦ e
]

-- rows without any of the fill change nothing
pub leg_rows_glue : (f : ℕ) (rows more : List Row) → All (NoLegRow f) more → leg_rows f (rows ++ more) ≡ leg_rows f rows
leg_rows_glue f [] [] a = refl
leg_rows_glue f [] (row ∷ more) a = elim (cases_Bool (is_combination row.kind)) [
  | inl e ↦ rw e refl
  | inr e ↦ rw (e, no_leg_row f row (All-head (NoLegRow f) row more a)) (leg_rows_glue f [] more (All-tail (NoLegRow f) row more a))
]
leg_rows_glue f (row ∷ rows) more a = elim (cases_Bool (is_combination row.kind)) [
  | inl e ↦ rw e refl
  | inr e ↦ elim (cases_Bool (is_leg row.kind && eqb row.fill f)) [
    | inl t ↦ rw (e, t) (ap (λ l. row ∷ l) (leg_rows_glue f rows more a))
    | inr t ↦ rw (e, t) (leg_rows_glue f rows more a)
  ]
]

-- ---- of one leg

-- the second leg of two has the higher instrument
abbrev Rises : Leg × Leg → Type 0
Rises (l, m) = l.instrument < m.instrument

pub rising_tail : (leg : Leg) (legs : List Leg) → Rising (leg ∷ legs) → Rising legs
rising_tail leg [] r = All-nil Rises
rising_tail leg (l ∷ legs) r = All-tail Rises (leg, l) (neighbours (l ∷ legs)) r

-- each leg behind it has a higher instrument
pub rising_above : (leg : Leg) (legs : List Leg) → Rising (leg ∷ legs) → All (λ l. leg.instrument < l.instrument) legs
rising_above leg [] r = All-nil _
rising_above leg (l ∷ legs) r =
    let next : leg.instrument < l.instrument = All-head Rises (leg, l) (neighbours (l ∷ legs)) r in
    All-cons (λ l. leg.instrument < l.instrument) l legs next
    (All-weaker (λ m. l.instrument < m.instrument) (λ m. leg.instrument < m.instrument) (λ m h. omega arith) legs (rising_above l legs (rising_tail leg (l ∷ legs) r)))

-- a row of another leg
of_leg_other : (leg : Leg) (row : Row) (rows : List Row) → (row.book ≡ leg.instrument → ⊥) → of_leg leg (row ∷ rows) ≡ of_leg leg rows
of_leg_other leg row rows ne = rw (ne_eqb row.book leg.instrument ne) refl

module _ (g : Leg → Row) (booked : (leg : Leg) → (g leg).book ≡ leg.instrument) where
  of_leg_none : (leg : Leg) (legs : List Leg) → All (λ l. leg.instrument < l.instrument) legs → of_leg leg (map g legs) ≡ []
  of_leg_none leg [] a = refl
  of_leg_none leg (l ∷ legs) a =
      let above : leg.instrument < l.instrument = All-head (λ l. leg.instrument < l.instrument) l legs a in
      rw (of_leg_other leg (g l) (map g legs) (λ e. omega (arith, booked l)))
      (of_leg_none leg legs (All-tail (λ l. leg.instrument < l.instrument) l legs a))

  -- of rows one for each leg, each leg has its own
  pub of_leg_one : (legs : List Leg) → Rising legs → All (λ leg. of_leg leg (map g legs) ≡ g leg ∷ []) legs
  of_leg_one [] r = All-nil _
  of_leg_one (leg ∷ legs) r =
      let above : All (λ l. leg.instrument < l.instrument) legs = rising_above leg legs r in
      let later : All (λ l. of_leg l (map g legs) ≡ g l ∷ []) legs = of_leg_one legs (rising_tail leg legs r) in
      All-cons (λ l. of_leg l (g leg ∷ map g legs) ≡ g l ∷ []) leg legs
      (rw (eq-eqb (g leg).book leg.instrument (booked leg)) (ap (λ l. g leg ∷ l) (of_leg_none leg legs above)))
      (λ i l at. rw (of_leg_other (get_or legs i l) (g leg) (map g legs) (λ e. omega (arith, booked leg, above i l at))) (later i l at))
