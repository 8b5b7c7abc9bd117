-- What passes over a wire.
use Rattle.std.specs.Prelude.{◌≡◌, ℕ, List, [], ◌∷◌, ◌++◌, take, None, Some}
use Rattle.std.specs.declared.option.Option.{Option}

-- bytes were read, or a text was written
pub data Event : Type 0 where
  Took : List ℕ → Event
  Gave : List ℕ → Event

-- all bytes that were read, where the last event comes first
abbrev pub taken : List Event → List ℕ
taken [] = []
taken (Took bytes ∷ events) = taken events ++ bytes
taken (Gave text ∷ events) = taken events

-- all text that was written
abbrev pub given : List Event → List ℕ
given [] = []
given (Took bytes ∷ events) = given events
given (Gave text ∷ events) = given events ++ text

-- of a text no more than its first bytes were written, however many
pub record PartGiven (log : List Event → Type 0) (text : List ℕ) (events : List Event) : Type 0 where
  pub count : ℕ
  pub logged : log (Gave (take count text) ∷ events)

-- what is held is known, and ends with this text
abbrev pub Written : Option (List ℕ) → List ℕ → Type 0
Written None text = ⊥
Written (Some held) text = (before : List ℕ) × (held ≡ before ++ text)
