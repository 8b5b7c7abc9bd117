-- What always holds of resting orders, and of the legs of a combination.
use Rattle.std.specs.Prelude.{◌<◌, ◌≤◌, List, length, Some, None, Option}
use Rattle.std.specs.List.{All}
use Rattle.market.specs.declared.leg.Leg.{Leg}
use Rattle.market.specs.declared.order.Order.{Order}
use Rattle.market.specs.Combinations.{Rising, size}
use Rattle.market.specs.Orders.{quantity_of}

-- no order has more than 10,000 open
abbrev pub Small : List Order → Type 0
Small os = All (λ o. quantity_of o ≤ 10000) os

-- every order has something open
abbrev pub Positive : List Order → Type 0
Positive os = All (λ o. 0 < quantity_of o) os

-- legs that are few, in rising instruments, and whose ratios are small
pub record SmallLegs (legs : List Leg) : Type 0 where
  pub few : length legs ≤ 10
  pub small : All (λ leg. size leg ≤ 10) legs
  pub rising : Rising legs

-- the legs, if there are any, are such
abbrev pub LegsFit : Option (List Leg) → Type 0
LegsFit None = Unit {0}
LegsFit (Some legs) = SmallLegs legs
