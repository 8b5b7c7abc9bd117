-- The legs that a call names.
use Rattle.std.specs.Prelude.{◌-◌, List, ◌++◌, length, take, replicate, pos}
use Rattle.market.specs.declared.leg.Leg.{Leg}
use Rattle.market.specs.declared.legs.Legs.{Legs}

-- the legs that are named: the first of the places, as many as are counted
abbrev pub listed : Legs → List Leg
listed l = take l.count l.places

-- the leg of a place that names none
abbrev pub blank_leg : Leg
blank_leg = record { instrument = 0; ratio = pos 0 }

-- these legs in their places, the first ten where there are more, with the other places blank
abbrev pub legs_named : List Leg → Legs
legs_named ls = record { count = length (take 10 ls); places = take 10 ls ++ replicate (10 - length ls) blank_leg }
