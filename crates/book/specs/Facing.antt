-- A fill at a level: the orders that it trades with, its rows, and what it comes to.
use Rattle.std.specs.Prelude.{◌≡◌, ℕ, Bool, List}
use Rattle.market.specs.declared.order.Order.{Order}
use Rattle.market.specs.declared.row.Row.{Row}
use Rattle.market.specs.Fills.{facing, given, divided, filled_book}
use Rattle.market.specs.Levels.{in_level}
use Rattle.market.specs.Prices.{opposite}
use Rattle.market.specs.Rows.{fill_rows}
use Rattle.book.specs.declared.fill.Fill.{Fill}
use Rattle.book.specs.declared.told.Told.{Told}
use Rattle.book.specs.Reports.{Tells}
use Rattle.book.specs.Table.{lent}

-- a resting order stands in the level of the fill
abbrev pub faces : Fill → Order → Bool
faces fill o = in_level fill.book (opposite fill.side) fill.price o

-- the level of the fill
abbrev pub faced : Fill → List Order → List Order
faced fill os = facing fill.book fill.side fill.price os

-- the rows of the fill, for these shares of its level
abbrev pub rows_of : Fill → List Order → List ℕ → List Row
rows_of fill os ks = fill_rows fill.number fill.taker (lent fill.legs) (faced fill os) ks

-- of q, k has traded at the level, divided once by the rule, and the rows are told
pub record LevelFilled (shares : List ℕ → ℕ → List ℕ) (fill : Fill) (q : ℕ) (os : List Order) (t : Told) (k : ℕ) (os' : List Order) (t' : Told) : Type 0 where
  pub traded : k ≡ given fill.book fill.side fill.price os q
  pub left : os' ≡ filled_book shares fill.book fill.side fill.price os q
  pub more : Tells t (rows_of fill os (divided shares fill.book fill.side fill.price os q)) t'
