-- Implied-in fills: an order in a combination takes units out of the books of its legs.
use Rattle.std.specs.Prelude.{◌≡◌, ℕ, ◌-◌, ◌<◌, List, [], ◌∷◌, ◌++◌, ℤ, Some, None, Option}
use Rattle.market.specs.declared.book_id.BookId.{BookId}
use Rattle.market.specs.declared.book_id.BookId.TheVariants.{Instrument}
use Rattle.market.specs.declared.leg.Leg.{Leg}
use Rattle.market.specs.declared.order.Order.{Order}
use Rattle.market.specs.declared.price.Price.{Price}
use Rattle.market.specs.declared.row.Row.{Row}
use Rattle.market.specs.declared.side.Side.{Side}
use Rattle.market.specs.Fills.{facing, given, divided, filled_book}
use Rattle.market.specs.Ladders.{leg_side, contracts_for, net_to, wanted, LongestRun, amount}
use Rattle.market.specs.Levels.{Best}
use Rattle.market.specs.Rows.{implied_row, fill_rows}

module _ (shares : List ℕ → ℕ → List ℕ) where
  -- Taken f n b s q os rows os': in the fill f the order n takes q contracts on side s out of the book b, level after level, best first, each level divided once by the rule
  pub data Taken (f n : ℕ) (b : BookId) (s : Side) : ℕ → List Order → List Row → List Order → Type 0 where
    -- nothing is left to take
    taken_all : {os : List Order} → Taken f n b s 0 os [] os
    -- from the best level what it has, and on
    next_level : {q : ℕ} {os os' : List Order} {rows : List Row} (p : Price) → 0 < q → Best b s os p →
        Taken f n b s (q - given b s p os q) (filled_book shares b s p os q) rows os' →
        Taken f n b s q os (fill_rows f n None (facing b s p os) (divided shares b s p os q) ++ rows) os'

  -- LegsTaken f n s u legs os rows os': the order n, on side s of a combination, takes u units, leg by leg
  pub data LegsTaken (f n : ℕ) (s : Side) (u : ℕ) : List Leg → List Order → List Row → List Order → Type 0 where
    -- no leg is left
    no_leg : {os : List Order} → LegsTaken f n s u [] os [] os
    -- the first leg's contracts, and on
    next_leg : {leg : Leg} {legs : List Leg} {os os' os'' : List Order} {rows rows' : List Row} →
        Taken f n (Instrument leg.instrument) (leg_side s leg) (contracts_for leg u) os rows os' →
        LegsTaken f n s u legs os' rows' os'' →
        LegsTaken f n s u (leg ∷ legs) os (rows ++ rows') os''

  -- an implied-in fill: of the units that an order wants, at most q, it takes the longest run, as they stand in the book os; os' is the book from which the legs are taken
  pub record ImpliedFill (legs : List Leg) (o : Order) (level : Option Price) (f q u : ℕ) (os os' : List Order) (rows : List Row) (os'' : List Order) : Type 0 where
    pub some : 0 < u
    pub run : LongestRun (wanted o.side o.price level) (net_to o (Some legs) os) q u
    pub net : ℤ
    pub summed : amount (net_to o (Some legs) os) u ≡ Some net
    pub taken : List Row
    pub takes : LegsTaken f o.number o.side u legs os' taken os''
    pub reports : rows ≡ implied_row f o u net ∷ taken
