-- The combinations that a book is lent.
use Rattle.std.specs.Prelude.{List, map, Option, option_map}
use Rattle.std.specs.Borrow.{Bor}
use Rattle.market.specs.declared.combination.Combination.{Combination}
use Rattle.market.specs.declared.leg.Leg.{Leg}

-- the legs of each, in the order in which they were made
abbrev pub table : List Combination → List (List Leg)
table cs = map (λ c. c.legs.items) cs

-- the legs of one of them, if any are lent
abbrev pub lent : Option (Bor (List Leg)) → Option (List Leg)
lent legs = option_map (λ l. l.now) legs
