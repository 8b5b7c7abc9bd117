-- What the combinations of a venue hold, and what a request for one is answered.
use Rattle.std.specs.Prelude.{◌≡◌, ℕ, ◌+◌, ◌<◌, ◌≤◌, List, [], ◌∷◌, ◌++◌, length, Some, None, Ok, Err, Option, Result, vec_items}
use Rattle.market.specs.declared.combination.Combination.{Combination}
use Rattle.market.specs.declared.leg.Leg.{Leg}
use Rattle.market.specs.declared.product.Product.{Product}
use Rattle.market.specs.Combinations.{divisor, normal, broken_leg, NoneMade, FirstMade}
use Rattle.market.specs.declared.refusal.Refusal.{Refusal}
use Rattle.market.specs.Venues.{View, request_fault}
use Rattle.book.specs.Table.{table}
use Rattle.gate.specs.declared.combinations.Combinations.{Combinations}

-- the legs of each combination, in the order of making
abbrev pub all_legs : Combinations → List (List Leg)
all_legs cs = table (vec_items cs.made)

-- the greatest common divisor of legs that are not at fault, or the field at fault
abbrev pub Divided : Product → List Leg → Result ℕ ℕ → Type 0
Divided product legs (Ok d) = (broken_leg product legs ≡ None) × (d ≡ divisor legs)
Divided product legs (Err p) = broken_leg product legs ≡ Some p

-- a combination of the normal form of legs that are not at fault, or the field at fault
abbrev pub Combines : Product → List Leg → Result Combination ℕ → Type 0
Combines product legs (Ok c) = (broken_leg product legs ≡ None) × (c.legs.items ≡ normal legs)
Combines product legs (Err p) = broken_leg product legs ≡ Some p

-- the number of a combination with these legs: the first that has them, or a new one, which stands as the last; none where it would be new and 32 exist
pub data Numbers (cs : List (List Leg)) (legs : List Leg) : Option ℕ → List (List Leg) → Type 0 where
  found : (c : ℕ) → FirstMade cs legs c → Numbers cs legs (Some c) cs
  new : NoneMade cs legs → length cs < 32 → Numbers cs legs (Some (1001 + length cs)) (cs ++ legs ∷ [])
  spent : NoneMade cs legs → 32 ≤ length cs → Numbers cs legs None cs

-- a combination of the normal form of the legs of a request, or the refusal of the request
abbrev pub Requests : View → ℕ → List Leg → Result Combination Refusal → Type 0
Requests v p legs (Ok c) = (request_fault v p legs ≡ None) × (c.legs.items ≡ normal legs)
Requests v p legs (Err e) = request_fault v p legs ≡ Some e
