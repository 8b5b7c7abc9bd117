-- Units as they are read: each leg's contracts of one unit after those of another.
use Rattle.std.specs.Prelude.{◌≡◌, ◌*◌, ℕ, List, [], ◌∷◌, length, map, drop, ℤ, Some, None, Option}
use Rattle.market.specs.declared.book_id.BookId.TheVariants.{Instrument}
use Rattle.market.specs.declared.leg.Leg.{Leg}
use Rattle.market.specs.declared.order.Order.{Order}
use Rattle.market.specs.declared.price.Amount.{Amount}
use Rattle.market.specs.declared.side.Side.{Side}
use Rattle.market.specs.Ladders.{leg_side, contracts_for, leg_net, net}
use Rattle.book.specs.declared.rung.Rung.{Rung}
use Rattle.book.specs.Reading.{to_come, Bounded}

-- what is still to come of a leg's ladder, to one who trades the combination on side s, where the rung says how far it has been read
abbrev pub leg_to_come : Side → List Order → Leg → Option Rung → List ℤ
leg_to_come s os leg r = to_come (Instrument leg.instrument) (leg_side s leg) os r

-- each leg with what is still to come of its ladder, by a rung for each
abbrev pub all_to_come : Side → List Order → List Leg → List (Option Rung) → List (Leg × List ℤ)
all_to_come s os [] rungs = []
all_to_come s os (leg ∷ legs) [] = []
all_to_come s os (leg ∷ legs) (r ∷ rungs) = (leg, leg_to_come s os leg r) ∷ all_to_come s os legs rungs

-- a leg with what is to come after its contracts of u units
abbrev pub after_units : ℕ → Leg × List ℤ → Leg × List ℤ
after_units u l = (l.0, drop (contracts_for l.0 u) l.1)

-- the leg's part of the next unit, and what is to come after it; or none where too few contracts are to come
abbrev pub NextPart : Leg → List ℤ → Option Amount → List ℤ → Type 0
NextPart leg zs None after = leg_net leg zs 1 ≡ None
NextPart leg zs (Some a) after = (leg_net leg zs 1 ≡ Some a.0) × (after ≡ drop (contracts_for leg 1) zs) × Bounded 10 a.0

-- the net of the next unit, and what is to come of each leg after it; or none where some leg has too few contracts to come
abbrev pub NextUnit : List (Leg × List ℤ) → Option Amount → List (Leg × List ℤ) → Type 0
NextUnit ls None after = net ls 1 ≡ None
NextUnit ls (Some a) after = (net ls 1 ≡ Some a.0) × (after ≡ map (after_units 1) ls) × Bounded (10 * length ls) a.0
