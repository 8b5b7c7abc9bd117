-- Combination trades as they are reported: their legs, and the nets of their units.
use Rattle.std.specs.Prelude.{◌≡◌, ℕ, ◌<◌, ◌≤◌, Bool, true, false, cond, ◌&&◌, ◌⊎◌, List, [], ◌∷◌, ◌++◌, map, replicate, filter, ℤ, pos, ◌*ℤ◌, Some, Result, ◌==◌}
use Rattle.std.specs.List.{All, Any, sum_by}
use Rattle.market.specs.declared.call.Call.{Call}
use Rattle.market.specs.declared.leg.Leg.{Leg}
use Rattle.market.specs.declared.refusal.Refusal.{Refusal}
use Rattle.market.specs.declared.row.Row.{Row}
use Rattle.market.specs.declared.row.RowKind.{RowKind}
use Rattle.market.specs.declared.row.RowKind.TheVariants as kind
use Rattle.market.specs.declared.side.Side.{Side}
use Rattle.market.specs.declared.side.Side.TheVariants.{Buy, Sell}
use Rattle.market.specs.Combinations.{made}
use Rattle.market.specs.Ladders.{leg_side, contracts_for, net}
use Rattle.market.specs.Prices.{good, as_price}
use Rattle.market.specs.Turns.{Turn, is_trade, is_combination}
use Rattle.market.specs.Entries.{Entry, Entered}

-- of the rows behind a combination trade, those up to the next one
abbrev pub until_next : List Row → List Row
until_next [] = []
until_next (row ∷ rows) = cond (is_combination row.kind) [] (row ∷ until_next rows)

-- rows that trade a leg: contract trades, and legs of a trade between combinations
abbrev pub is_leg : RowKind → Bool
is_leg kind.Blank = false
is_leg kind.Trade = true
is_leg kind.Leg = true
is_leg kind.Combination = false
is_leg kind.Cancellation = false

-- the leg rows of a combination trade, among the rows behind it: those of its fill up to the next combination trade
abbrev pub leg_rows : ℕ → List Row → List Row
leg_rows fill behind = filter (λ row. is_leg row.kind && row.fill == fill) (until_next behind)

-- those of one leg
abbrev pub of_leg : Leg → List Row → List Row
of_leg leg rows = filter (λ row. row.book == leg.instrument) rows

-- a row is of one of the legs
abbrev pub InLegs : List Leg → Row → Type 0
InLegs legs row = Any (λ leg. row.book ≡ leg.instrument) legs

-- the prices of what rows trade, contract by contract in row order
abbrev pub prices_of : List Row → List ℤ
prices_of [] = []
prices_of (row ∷ rows) = replicate row.quantity row.price.0 ++ prices_of rows

-- each leg with what its rows trade
abbrev pub laid_out : List Leg → List Row → List (Leg × List ℤ)
laid_out legs rows = map (λ leg. (leg, prices_of (of_leg leg rows))) legs

-- the order that a row names on a side
abbrev pub on_side : Side → Row → ℕ
on_side Buy row = row.buyer
on_side Sell row = row.seller

-- the row names the order n on side s; n is 0 where there is none
abbrev pub Names : Side → ℕ → Row → Type 0
Names s n row = (n ≡ 0) ⊎ (on_side s row ≡ n)

-- the rows trade the leg at its ratio times the units of the combination trade t, and each names t's orders on the side that they take in the leg
pub record LegTraded (leg : Leg) (t : Row) (rows : List Row) : Type 0 where
  pub quantity : sum_by (λ row. row.quantity) rows ≡ contracts_for leg t.quantity
  pub named : All (λ row. Names (leg_side Buy leg) t.buyer row × Names (leg_side Sell leg) t.seller row) rows

-- messages of any kind, by how they are read
module _ {Message : Type 0} (reading : Message → Result Call Refusal) where
  -- the net z is within the limit of the order n, which was entered on side s of the combination c; n is 0 where there is none
  abbrev pub Limited : List (Turn Message) → Side → ℕ → ℕ → ℤ → Type 0
  Limited h s c n z = (n ≡ 0) ⊎ ((e : Entry) × Entered reading h e × (e.number ≡ n) × (e.book ≡ c) × (e.side ≡ s) × (good s (as_price z) e.limit ≡ true))

  -- the net z is within the limit of every combination order in a fill, that is of every one named by a combination trade of it
  abbrev pub WithinAll : List (Turn Message) → List Row → ℕ → ℤ → Type 0
  WithinAll h rows fill z = All (λ t. is_combination t.kind ≡ true → t.fill ≡ fill → Limited h Buy t.book t.buyer z × Limited h Sell t.book t.seller z) rows

  -- the net of each unit of a combination trade t, whose leg rows are these, is within the limit of every combination order in its fill
  pub data UnitsWithin (h : List (Turn Message)) (rows : List Row) (legs : List Leg) (t : Row) (leg_rows : List Row) : Type 0 where
    -- it names two orders: the net is the level's price
    at_level : (z : ℤ) → 0 < t.buyer → 0 < t.seller → 0 < t.quantity → t.price.0 ≡ z *ℤ pos t.quantity → WithinAll h rows t.fill z → UnitsWithin h rows legs t leg_rows
    -- it names one: its leg rows are contract trades, and the nets are read off these
    from_legs : (0 < t.buyer) × (t.seller ≡ 0) ⊎ (t.buyer ≡ 0) × (0 < t.seller) → 0 < t.quantity → All (λ row. is_trade row.kind ≡ true) leg_rows →
        ((u : ℕ) → 1 ≤ u → u ≤ t.quantity → (z : ℤ) × (net (laid_out legs leg_rows) u ≡ Some z) × WithinAll h rows t.fill z) → UnitsWithin h rows legs t leg_rows

  -- a combination trade t of a report: its combination exists, its leg rows trade every leg and nothing else, and the net of each of its units is within all limits
  pub record Fair (h : List (Turn Message)) (cs : List (List Leg)) (rows : List Row) (t : Row) (behind : List Row) : Type 0 where
    pub legs : List Leg
    pub exists : made cs t.book ≡ Some legs
    pub traded : All (λ leg. LegTraded leg t (of_leg leg (leg_rows t.fill behind))) legs
    pub in_legs : All (InLegs legs) (leg_rows t.fill behind)
    pub agreed : UnitsWithin h rows legs t (leg_rows t.fill behind)

  -- every combination trade of a report is fair, with the rows behind it
  abbrev pub FairReport : List (Turn Message) → List (List Leg) → List Row → Type 0
  FairReport h cs rows = (ahead : List Row) (t : Row) (behind : List Row) → rows ≡ ahead ++ (t ∷ behind) → is_combination t.kind ≡ true → Fair h cs rows t behind

  -- every report is fair by what was entered up to its own turn
  abbrev pub EachFair : List (List Leg) → List (Turn Message) → Type 0
  EachFair cs [] = Unit {0}
  EachFair cs (t ∷ h) = FairReport (t ∷ h) cs t.rows × EachFair cs h
