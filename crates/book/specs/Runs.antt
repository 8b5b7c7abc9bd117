-- The units that an order would take from the books of its legs.
use Rattle.std.specs.Prelude.{◌≡◌, ℕ, ◌<◌, ◌≤◌, false, List, length, Some, None, Option}
use Rattle.std.specs.List.{All}
use Rattle.market.specs.declared.book_id.BookId.TheVariants.{Instrument}
use Rattle.market.specs.declared.leg.Leg.{Leg}
use Rattle.market.specs.declared.order.Order.{Order}
use Rattle.market.specs.declared.price.Price.{Price}
use Rattle.market.specs.declared.side.Side.{Side}
use Rattle.market.specs.Ladders.{leg_side, contracts_for, ladder, net_to, wanted, LongestRun, amount}
use Rattle.book.specs.declared.wanted.Wanted.{Wanted}

-- the longest run of units, at most q, that an order takes from these legs: it is not empty, and its net is summed
pub record RunWanted (o : Order) (legs : Option (List Leg)) (level : Option Price) (q : ℕ) (os : List Order) (w : Wanted) : Type 0 where
  pub of : legs ≡ Some w.legs.now
  pub some : 0 < w.run.units.0
  pub run : LongestRun (wanted o.side o.price level) (net_to o legs os) q w.run.units.0
  pub summed : amount (net_to o legs os) w.run.units.0 ≡ Some w.run.net.0

-- such a run, or none where the order would not take unit 1
abbrev pub RunFound : Order → Option (List Leg) → Option Price → ℕ → List Order → Option Wanted → Type 0
RunFound o legs level q os None = wanted o.side o.price level (net_to o legs os 1) ≡ false
RunFound o legs level q os (Some w) = RunWanted o legs level q os w

-- the ladder of each leg has the contracts of u units, to one who trades the combination on side s
abbrev pub AllOffered : Side → ℕ → List Leg → List Order → Type 0
AllOffered s u legs os = All (λ leg. contracts_for leg u ≤ length (ladder (Instrument leg.instrument) (leg_side s leg) os)) legs
