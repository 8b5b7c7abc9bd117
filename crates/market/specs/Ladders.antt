-- Ladders: the contracts that the legs of a combination may take, and the units that they make up.
use Rattle.std.specs.Prelude.{◌≡◌, ℕ, zero, suc, ◌+◌, ◌-◌, ◌*◌, ◌≤◌, Bool, true, false, cond, not, ◌&&◌, ◌⊎◌, List, [], ◌∷◌, ◌++◌, map, length, take, drop, replicate, filter, ℤ, pos, ◌+ℤ◌, neg_ℤ, Some, None, Option, nat_le}
use Rattle.market.specs.declared.book_id.BookId.{BookId}
use Rattle.market.specs.declared.book_id.BookId.TheVariants.{Instrument}
use Rattle.market.specs.declared.leg.Leg.{Leg}
use Rattle.market.specs.declared.order.Order.{Order}
use Rattle.market.specs.declared.price.Price.{Price}
use Rattle.market.specs.declared.side.Side.{Side}
use Rattle.market.specs.Combinations.{size, is_minus}
use Rattle.market.specs.Orders.{stands, quantity_of}
use Rattle.market.specs.Prices.{opposite, good, as_price}

-- ---- legs

-- the side on which one who trades the combination on side s trades the leg: a plus leg on the same side, a minus leg on the other
abbrev pub leg_side : Side → Leg → Side
leg_side s leg = cond (is_minus leg) (opposite s) s

-- units meet contracts here and nowhere else: so many contracts of the leg, its ratio without sign for each unit
abbrev pub contracts_for : Leg → ℕ → ℕ
contracts_for leg units = size leg * units

-- a sum of the leg's prices, with the sign of its ratio
abbrev pub signed : Leg → ℤ → ℤ
signed leg z = cond (is_minus leg) (neg_ℤ z) z

-- ---- ladders

-- one more order among those ranked: before the first that is no better to one who trades on side s
abbrev pub placed : Side → Order → List Order → List Order
placed s o [] = o ∷ []
placed s o (x ∷ xs) = cond (good s o.price x.price) (o ∷ x ∷ xs) (x ∷ placed s o xs)

-- orders by price, the best to one who trades on side s first, in book order inside a price
abbrev pub ranked : Side → List Order → List Order
ranked s [] = []
ranked s (o ∷ os) = placed s o (ranked s os)

-- the prices of their contracts, one by one
abbrev pub contracts : List Order → List ℤ
contracts [] = []
contracts (o ∷ os) = replicate (quantity_of o) o.price.0 ++ contracts os

-- the ladder to one who trades on side s: all contracts of the other side, one by one, the best level first
abbrev pub ladder : BookId → Side → List Order → List ℤ
ladder b s os = contracts (ranked s (filter (stands b (opposite s)) os))

-- each leg with its ladder, to one who trades the combination on side s
abbrev pub ladders : Side → List Leg → List Order → List (Leg × List ℤ)
ladders s legs os = map (λ leg. (leg, ladder (Instrument leg.instrument) (leg_side s leg) os)) legs

-- ---- units

-- prices added up
abbrev pub sum_of : List ℤ → ℤ
sum_of [] = pos 0
sum_of (z ∷ zs) = z +ℤ sum_of zs

-- of a leg's contracts, those of unit u: number (u - 1) × ratio + 1 to u × ratio
abbrev pub unit_contracts : Leg → ℕ → List ℤ → List ℤ
unit_contracts leg u zs = take (contracts_for leg 1) (drop (contracts_for leg (u - 1)) zs)

-- a leg's part of the net of unit u, if all those contracts exist
abbrev pub leg_net : Leg → List ℤ → ℕ → Option ℤ
leg_net leg zs u = cond (nat_le (contracts_for leg u) (length zs)) (Some (signed leg (sum_of (unit_contracts leg u zs)))) None

-- two parts added, if both exist
abbrev pub plus : Option ℤ → Option ℤ → Option ℤ
plus None y = None
plus (Some x) None = None
plus (Some x) (Some y) = Some (x +ℤ y)

-- the net of unit u, the signed sum of its contracts' prices, if all of them exist
abbrev pub net : List (Leg × List ℤ) → ℕ → Option ℤ
net [] u = Some (pos 0)
net (l ∷ ls) u = plus (leg_net l.0 l.1 u) (net ls u)

-- the net of unit u to one who trades on side s; an instrument has no legs, and so no units
abbrev pub unit_net : Option (List Leg) → Side → List Order → ℕ → Option ℤ
unit_net None s os u = None
unit_net (Some legs) s os u = net (ladders s legs os) u

-- the legs from which an order may take: a quote takes from none
abbrev pub reach : Order → Option (List Leg) → Option (List Leg)
reach o legs = cond o.quote None legs

-- the net of unit u to an order, by the legs of its combination
abbrev pub net_to : Order → Option (List Leg) → List Order → ℕ → Option ℤ
net_to o legs os u = unit_net (reach o legs) o.side os u

-- ---- the run of units

-- a net is strictly better than the price of a level, where there is a level
abbrev pub beats : Side → Option Price → ℤ → Bool
beats s None z = true
beats s (Some p) z = not (good s p (as_price z))

-- a unit that one on side s would take: it exists, beats the level if there is one, and its net is within the limit
abbrev pub wanted : Side → Price → Option Price → Option ℤ → Bool
wanted s limit level None = false
wanted s limit level (Some z) = beats s level z && good s (as_price z) limit

-- the longest run of units, from unit 1 and up to q of them: each is wanted, and the next is not or would be one too many
pub record LongestRun (want : Option ℤ → Bool) (nets : ℕ → Option ℤ) (q u : ℕ) : Type 0 where
  pub upto : u ≤ q
  pub each : (v : ℕ) → 1 ≤ v → v ≤ u → want (nets v) ≡ true
  pub ends : (u ≡ q) ⊎ (want (nets (u + 1)) ≡ false)

-- the nets of the first u units, added up
abbrev pub amount : (ℕ → Option ℤ) → ℕ → Option ℤ
amount nets zero = Some (pos 0)
amount nets (suc u) = plus (amount nets u) (nets (suc u))
