-- A session of several calls.
use Rattle.std.specs.Prelude.{◌≡◌, ℕ, List, map, reverse, Some, None, Ok, Err, Result}
use Rattle.std.specs.Borrow.{Bor}
use Rattle.std.specs.List.{All}
use Rattle.market.specs.Turns.{Turn}
use Rattle.market.specs.Sessions.{Reached, Sound}
use Rattle.market.specs.Venues.{View}
use Rattle.gate.specs.declared.build_error.BuildError.{BuildError}
use Rattle.gate.specs.declared.build_error.BuildError.TheVariants.{Refused, OutOfMemory}
use Rattle.line.specs.declared.gateway.Gateway.{Gateway}
use Rattle.line.specs.Gateways.{gateway_view, gateway_rule, build_refusal, Opened}
use Rattle.line.specs.Verdicts.{line_call, build_line}

-- the bytes of lines that are lent
abbrev pub bytes : List (Bor (List ℕ)) → List (List ℕ)
bytes lines = map (λ line. line.now) lines

-- the build line opens a venue under this rule, and this one has its product and its bands
pub record BuiltAs (shares : List ℕ → ℕ → List ℕ) (build : List ℕ) (v : View) : Type 0 where
  pub answer : ℕ × ℕ
  pub start : View
  pub opened : Opened shares build answer start
  pub product : v.product ≡ start.product
  pub bands : v.bands ≡ start.bands

-- a session in which these lines were called, the last one last, each with a report of so many rows, leads from a venue just built, by this build line, to this one, under this rule, and the law over sessions holds of it
pub record Session (shares : List ℕ → ℕ → List ℕ) (build : List ℕ) (lines : List (List ℕ)) (room : ℕ) (v : View) : Type 0 where
  pub built : BuiltAs shares build v
  pub turns : List (Turn (List ℕ))
  pub calls : map (λ t. t.message) turns ≡ reverse lines
  pub rooms : All (λ t. t.room ≡ room) turns
  pub reached : Reached line_call shares turns v
  pub sound : Sound line_call turns v

-- such a session leads to the venue of this gateway, which has the rule that was given; or the build line is refused, or there is no memory though it is not refused
abbrev pub Serves : {R : Type 0} → (R → List ℕ → ℕ → List ℕ) → R → List ℕ → List (List ℕ) → ℕ → Result (Gateway R) BuildError → Type 0
Serves shares rule build lines room (Ok g) = Session (shares rule) build lines room (gateway_view g) × (gateway_rule g ≡ rule)
Serves shares rule build lines room (Err (Refused e)) = build_refusal (build_line build) ≡ Some e
Serves shares rule build lines room (Err OutOfMemory) = build_refusal (build_line build) ≡ None
