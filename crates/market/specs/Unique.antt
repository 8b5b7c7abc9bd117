-- The rules allow a message at most one ending.
use Rattle.std.specs.Prelude.{◌≡◌, ℕ, List, Result}
use Rattle.market.specs.declared.call.Call.{Call}
use Rattle.market.specs.declared.refusal.Refusal.{Refusal}
use Rattle.market.specs.Endings.{Ending}
use Rattle.market.specs.Venues.{View, Takes}

-- whatever rule divides, the rules allow a message, as it was read, at most one ending from one venue
abbrev pub RulesDetermine : Type 0
RulesDetermine = (shares : List ℕ → ℕ → List ℕ) (v : View) (r : Result Call Refusal) (e e' : Ending View) → Takes shares v r e → Takes shares v r e' → e ≡ e'
