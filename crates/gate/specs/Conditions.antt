-- What a condition answers, and a turn of the phase with what it withdraws.
use Rattle.std.specs.Prelude.{◌≡◌, Some, None, Ok, Err, Option, Result}
use Rattle.std.specs.Option.{option_map}
use Rattle.market.specs.declared.phase.Event.{Event}
use Rattle.market.specs.declared.phase.Phase.{Phase}
use Rattle.market.specs.declared.phase.Withdrawal.{Withdrawal}
use Rattle.market.specs.Venues.{next_phase, withdraws}

-- passed where nothing is at fault, and else refused with the fault
abbrev pub Judges : {E : Type 0} → Option E → Result (Unit {0}) E → Type 0
Judges fault (Ok u) = fault ≡ None
Judges fault (Err e) = fault ≡ Some e

-- the next phase and what the event withdraws
abbrev pub turned : Phase → Event → Option (Phase × Withdrawal)
turned phase event = option_map (λ next. (next, withdraws event)) (next_phase phase event)
