-- The law over sessions, as one statement.
use Rattle.std.specs.Prelude.{ℕ, List, Result}
use Rattle.rules.specs.Domain.{Laws}
use Rattle.market.specs.declared.call.Call.{Call}
use Rattle.market.specs.declared.refusal.Refusal.{Refusal}
use Rattle.market.specs.Turns.{Turn}
use Rattle.market.specs.Sessions.{Reached, Sound}
use Rattle.market.specs.Venues.{View}

-- however lines are read, and whatever lawful rule divides, the law holds of every session
abbrev pub EverySession : Type 0
EverySession = (reading : List ℕ → Result Call Refusal) (shares : List ℕ → ℕ → List ℕ) → Laws shares →
    (h : List (Turn (List ℕ))) (v : View) → Reached reading shares h v → Sound reading h v
