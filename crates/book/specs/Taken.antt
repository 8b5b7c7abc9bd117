-- Contracts taken out of the books of legs, and told.
use Rattle.std.specs.Prelude.{ℕ, List, ◌∷◌}
use Rattle.market.specs.declared.book_id.BookId.TheVariants.{Instrument}
use Rattle.market.specs.declared.leg.Leg.{Leg}
use Rattle.market.specs.declared.order.Order.{Order}
use Rattle.market.specs.declared.row.Row.{Row}
use Rattle.market.specs.Implied.{Taken, LegsTaken}
use Rattle.market.specs.Rows.{implied_row}
use Rattle.book.specs.declared.taker.Taker.{Taker}
use Rattle.book.specs.declared.told.Told.{Told}
use Rattle.book.specs.declared.wanted.Wanted.{Wanted}
use Rattle.book.specs.Reports.{Tells}

module _ (shares : List ℕ → ℕ → List ℕ) where
  -- q contracts of an instrument are taken, and their rows are told
  pub record ContractsTaken (taker : Taker) (instrument q : ℕ) (os : List Order) (t : Told) (os' : List Order) (t' : Told) : Type 0 where
    pub rows : List Row
    pub takes : Taken shares taker.fill taker.number (Instrument instrument) taker.side q os rows os'
    pub more : Tells t rows t'

  -- u units are taken, leg by leg, and their rows are told
  pub record UnitsTaken (taker : Taker) (legs : List Leg) (u : ℕ) (os : List Order) (t : Told) (os' : List Order) (t' : Told) : Type 0 where
    pub rows : List Row
    pub takes : LegsTaken shares taker.fill taker.number taker.side u legs os rows os'
    pub more : Tells t rows t'

  -- an order takes units from its legs: its trade is told, then those of the legs
  pub record Implied (f : ℕ) (o : Order) (w : Wanted) (os : List Order) (t : Told) (os' : List Order) (t' : Told) : Type 0 where
    pub rows : List Row
    pub takes : LegsTaken shares f o.number o.side w.run.units.0 w.legs.now os rows os'
    pub more : Tells t (implied_row f o w.run.units.0 w.run.net.0 ∷ rows) t'
