-- The two rules on lists of any length.
use Rattle.std.specs.Prelude.{◌≡◌, ℕ, min, List, length}
use Rattle.rules.specs.Domain.{total, Below}
use Rattle.rules.specs.PriceTime.{price_time}
use Rattle.rules.specs.ProRata.{pro_rata}

-- one share for each quantity, none above it, and all together the smaller of what is to give and of what there is
pub record FairDivision (qs : List ℕ) (give : ℕ) (shares : List ℕ) : Type 0 where
  pub count : length shares ≡ length qs
  pub within : Below shares qs
  pub sum : total shares ≡ min give (total qs)

-- both rules divide so, whatever the quantities and however many
abbrev pub AtAnyLength : Type 0
AtAnyLength = (qs : List ℕ) (give : ℕ) → FairDivision qs give (price_time qs give) × FairDivision qs give (pro_rata qs give)
