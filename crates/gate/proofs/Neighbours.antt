-- Legs with no step between them.
use Rattle.std.proofs.Common.{◌≡◌, ◌≤◌, List, [], ◌∷◌, length, refl, arith}
use Rattle.market.specs.declared.leg.Leg.{Leg}
use Rattle.market.specs.Combinations.{neighbours}

pub neighbours_short : (legs : List Leg) → length legs ≤ 1 → neighbours legs ≡ []
neighbours_short [] h = refl
neighbours_short (l ∷ []) h = refl
neighbours_short (l ∷ m ∷ legs) h = absurd (omega arith)
