-- Orders, and the book that each rests in.
use Rattle.std.specs.Prelude.{ℕ, ◌-◌, Bool, true, false, cond, not, ◌&&◌, List, [], ◌∷◌, Some, None, Option, ◌==◌, nat_lt}
use Rattle.market.specs.declared.arrival.Arrival.{Arrival}
use Rattle.market.specs.declared.book_id.BookId.{BookId}
use Rattle.market.specs.declared.book_id.BookId.TheVariants.{Instrument, Combination}
use Rattle.market.specs.declared.call.Duration.TheVariants.{Day}
use Rattle.market.specs.declared.order.Lot.{Lot}
use Rattle.market.specs.declared.order.Lot.TheVariants.{Outright, Combined}
use Rattle.market.specs.declared.order.Order.{Order}
use Rattle.market.specs.declared.price.Price.{Price}
use Rattle.market.specs.declared.quote.QuoteSide.{QuoteSide}
use Rattle.market.specs.declared.side.Side.{Side}
use Rattle.market.specs.Prices.{same_side}

-- the instrument or combination of a lot
abbrev pub lot_book : Lot → BookId
lot_book (Outright i q) = Instrument i
lot_book (Combined c q) = Combination c

-- how many contracts or units a lot has
abbrev pub lot_size : Lot → ℕ
lot_size (Outright i q) = q.0
lot_size (Combined c q) = q.0

-- the number is one for an instrument: combinations are numbered from 1001
abbrev pub is_instrument : ℕ → Bool
is_instrument i = nat_lt i 1001

-- so many contracts of an instrument, or units of a combination
abbrev pub lot_of : ℕ → ℕ → Lot
lot_of i q = cond (is_instrument i) (Outright i (record { 0 = q })) (Combined i (record { 0 = q }))

-- the lot with another size
abbrev pub sized_lot : Lot → ℕ → Lot
sized_lot (Outright i q) k = Outright i (record { 0 = k })
sized_lot (Combined c q) k = Combined c (record { 0 = k })

-- what an order has open
abbrev pub quantity_of : Order → ℕ
quantity_of o = lot_size o.lot

-- the order with another quantity
abbrev pub sized : Order → ℕ → Order
sized o k = record { number = o.number; participant = o.participant; side = o.side; price = o.price; lot = sized_lot o.lot k; quote = o.quote }

-- the order after k has traded
abbrev pub less : Order → ℕ → Order
less o k = sized o (quantity_of o - k)

-- one and the same instrument or combination
abbrev pub same_book : BookId → BookId → Bool
same_book (Instrument i) (Instrument j) = i == j
same_book (Instrument i) (Combination j) = false
same_book (Combination i) (Instrument j) = false
same_book (Combination i) (Combination j) = i == j

-- the number by which a row names an instrument or a combination
abbrev pub book_number : BookId → ℕ
book_number (Instrument i) = i
book_number (Combination c) = c

-- the order rests in this book, on this side
abbrev pub stands : BookId → Side → Order → Bool
stands b s o = same_book (lot_book o.lot) b && same_side o.side s

-- the participant's own order of that number, quotes apart
abbrev pub own : ℕ → ℕ → Order → Bool
own p n o = o.number == n && (o.participant == p && not o.quote)

-- the first order that is the participant's own of that number
abbrev pub own_order : ℕ → ℕ → List Order → Option Order
own_order p n [] = None
own_order p n (o ∷ os) = cond (own p n o) (Some o) (own_order p n os)

-- the participant's quote in this book, on this side
abbrev pub quotes : ℕ → BookId → Side → Order → Bool
quotes p b s o = o.quote && (o.participant == p && stands b s o)

-- an arriving order under the number that it is given
abbrev pub arriving : Arrival → ℕ → Order
arriving a n = record { number = n; participant = a.participant; side = a.side; price = a.price; lot = a.lot; quote = a.quote }

-- a side of a quote arrives as a day order that is marked as quote
abbrev pub quote_side : ℕ → Side → QuoteSide → Arrival
quote_side p s q = record { participant = p; side = s; lot = q.lot; price = q.price; duration = Day; quote = true }

-- a resting order arrives anew as a day order, with this quantity and price
abbrev pub anew : Order → ℕ → Price → Arrival
anew o q r = record { participant = o.participant; side = o.side; lot = sized_lot o.lot q; price = r; duration = Day; quote = o.quote }
