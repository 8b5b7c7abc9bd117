-- The rows of a report.
use Rattle.std.specs.Prelude.{ℕ, cond, List, [], ◌∷◌, ◌++◌, map, replicate, ℤ, pos, ◌*ℤ◌, Some, None, Option, ◌==◌}
use Rattle.market.specs.declared.leg.Leg.{Leg}
use Rattle.market.specs.declared.order.Order.{Order}
use Rattle.market.specs.declared.row.Row.{Row}
use Rattle.market.specs.declared.row.RowKind.{RowKind}
use Rattle.market.specs.declared.row.RowKind.TheVariants as kind
use Rattle.market.specs.declared.side.Side.{Side}
use Rattle.market.specs.declared.side.Side.TheVariants.{Buy, Sell}
use Rattle.market.specs.Ladders.{leg_side, contracts_for}
use Rattle.market.specs.Orders.{quantity_of, lot_book, book_number}
use Rattle.market.specs.Prices.{opposite}

-- the number and the letter of each kind of row
abbrev pub kind_code : RowKind → ℕ × ℕ
-- a row of zeros, '-'
kind_code kind.Blank = (0, 45)
-- a contract trade, T
kind_code kind.Trade = (1, 84)
-- a leg of a trade between combinations, U
kind_code kind.Leg = (2, 85)
-- a combination trade, N
kind_code kind.Combination = (3, 78)
-- a cancellation, X
kind_code kind.Cancellation = (4, 88)

-- the number of a kind
abbrev pub kind_number : RowKind → ℕ
kind_number k = (kind_code k).0

-- the letter of a kind
abbrev pub kind_letter : RowKind → ℕ
kind_letter k = (kind_code k).1

-- seven zeros
abbrev pub blank_row : Row
blank_row = record { kind = kind.Blank; fill = 0; book = 0; quantity = 0; price = record { 0 = pos 0 }; buyer = 0; seller = 0 }

-- so many rows of zeros
abbrev pub blank : ℕ → List Row
blank n = replicate n blank_row

-- of two orders, the one that buys: the first is on this side
abbrev pub buyer_of : Side → ℕ → ℕ → ℕ
buyer_of Buy n other = n
buyer_of Sell n other = other

-- so much of the order o, at this price: its number stands on its own side, another's on the other
abbrev pub order_row : RowKind → ℕ → Order → ℕ → ℤ → ℕ → Row
order_row what fill o k price other = record { kind = what; fill = fill; book = book_number (lot_book o.lot); quantity = k; price = record { 0 = price }; buyer = buyer_of o.side o.number other; seller = buyer_of (opposite o.side) o.number other }

-- k contracts of a resting order trade with the order of the number n, at the resting order's price
abbrev pub trade_row : ℕ → ℕ → Order → ℕ → Row
trade_row fill n o k = order_row kind.Trade fill o k o.price.0 n

-- k units of a resting order trade with the order of the number n: the amount is the resting order's price, times k
abbrev pub combination_row : ℕ → ℕ → Order → ℕ → Row
combination_row fill n o k = order_row kind.Combination fill o k (o.price.0 *ℤ pos k) n

-- a leg of that trade, without a price: whoever buys the leg is its buyer
abbrev pub leg_row : ℕ → ℕ → Order → ℕ → Leg → Row
leg_row fill n o k leg = record { kind = kind.Leg; fill = fill; book = leg.instrument; quantity = contracts_for leg k; price = record { 0 = pos 0 }; buyer = buyer_of (leg_side o.side leg) o.number n; seller = buyer_of (opposite (leg_side o.side leg)) o.number n }

-- u units of an order trade with the legs' own books, for this amount
abbrev pub implied_row : ℕ → Order → ℕ → ℤ → Row
implied_row fill o u z = order_row kind.Combination fill o u z 0

-- the rows of one share: of an instrument a contract trade, of a combination its trade and a row for each of its legs
abbrev pub share_rows : ℕ → ℕ → Option (List Leg) → Order → ℕ → List Row
share_rows fill n None o k = trade_row fill n o k ∷ []
share_rows fill n (Some legs) o k = combination_row fill n o k ∷ map (leg_row fill n o k) legs

-- a quantity of 0 makes no row
abbrev pub some_rows : ℕ → List Row → List Row
some_rows k rows = cond (k == 0) [] rows

-- the rows of one fill: the shares of a level's orders, one for each, in book order
abbrev pub fill_rows : ℕ → ℕ → Option (List Leg) → List Order → List ℕ → List Row
fill_rows fill n legs [] ks = []
fill_rows fill n legs (o ∷ os) [] = []
fill_rows fill n legs (o ∷ os) (k ∷ ks) = some_rows k (share_rows fill n legs o k) ++ fill_rows fill n legs os ks

-- what an order has open is cancelled
abbrev pub cancel_row : Order → Row
cancel_row o = order_row kind.Cancellation 0 o (quantity_of o) (pos 0) 0
