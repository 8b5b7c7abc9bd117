-- Sides, and prices as a side sees them.
use Rattle.std.specs.Prelude.{Bool, true, false, ◌&&◌, ℤ, int_le}
use Rattle.market.specs.declared.price.Price.{Price}
use Rattle.market.specs.declared.side.Side.{Side}
use Rattle.market.specs.declared.side.Side.TheVariants.{Buy, Sell}

-- the side that a side trades with
abbrev pub opposite : Side → Side
opposite Buy = Sell
opposite Sell = Buy

-- one and the same side
abbrev pub same_side : Side → Side → Bool
same_side Buy Buy = true
same_side Buy Sell = false
same_side Sell Buy = false
same_side Sell Sell = true

-- to one who trades on this side, the first price is at least as good as the second: to a buyer the lower, to a seller the higher
abbrev pub good : Side → Price → Price → Bool
good Buy p q = int_le p.0 q.0
good Sell p q = int_le q.0 p.0

-- one and the same price: each is at most the other
abbrev pub same_price : Price → Price → Bool
same_price p q = int_le p.0 q.0 && int_le q.0 p.0

-- a net, to be compared with prices
abbrev pub as_price : ℤ → Price
as_price z = record { 0 = z }
