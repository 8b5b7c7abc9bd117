-- What a gateway promises of the line that builds a venue, and of every line after it.
use Rattle.std.specs.Prelude.{◌≡◌, ℕ, ◌≤◌, Bool, false, ◌&&◌, List, [], ◌∷◌, length, Some, None, Ok, Err, Option, Result, nat_le}
use Rattle.market.specs.declared.acceptance.Acceptance.TheVariants.{Built}
use Rattle.market.specs.declared.call.Call.TheVariants.{Define}
use Rattle.market.specs.declared.legs.Legs.{Legs}
use Rattle.market.specs.declared.product.Band.{Band}
use Rattle.market.specs.declared.refusal.Refusal.{Refusal}
use Rattle.market.specs.declared.row.Row.{Row}
use Rattle.market.specs.Acceptances.{acceptance_numbers}
use Rattle.market.specs.Bands.{build_fault, BandsJudged}
use Rattle.market.specs.Legs.{listed}
use Rattle.market.specs.Refusals.{refusal_code}
use Rattle.market.specs.Turns.{Turn}
use Rattle.market.specs.Sessions.{Reached, Sound}
use Rattle.market.specs.Venues.{View, fresh}
use Rattle.gate.specs.declared.build_error.BuildError.{BuildError}
use Rattle.gate.specs.declared.build_error.BuildError.TheVariants.{Refused, OutOfMemory}
use Rattle.gate.specs.Views.{view, rule_of}
use Rattle.line.specs.declared.bands.BuildLine.{BuildLine}
use Rattle.line.specs.declared.gateway.Gateway.{Gateway}
use Rattle.line.specs.declared.gateway.Opening.{Opening}
use Rattle.line.specs.Bytes.{fields_of}
use Rattle.line.specs.Kinds.{field_at}
use Rattle.line.specs.Numbers.{decimal}
use Rattle.line.specs.Verdicts.{line_call, build_line}

-- the venue that a gateway holds
abbrev pub gateway_view : {R : Type 0} → Gateway R → View
gateway_view g = view g.venue

-- the rule by which it divides
abbrev pub gateway_rule : {R : Type 0} → Gateway R → R
gateway_rule g = rule_of g.venue

-- ---- building

-- the bands that a build line gives, one for each instrument
abbrev pub bands_given : BuildLine → List Band
bands_given b = b.bands.items

-- why a build line is refused: by the line layer, or since a band is broken
abbrev pub build_refusal : Result BuildLine Refusal → Option Refusal
build_refusal (Ok b) = build_fault (bands_given b)
build_refusal (Err e) = Some e

-- the verdict on the bands that a build line gives is what the rule says of them: which band is broken and how, or that all are sound
abbrev pub JudgesBands : List ℕ → Type 0
JudgesBands line = (b : BuildLine) → build_line line ≡ Ok b → BandsJudged (bands_given b) (build_fault (bands_given b))

-- a build line that can be read gives as many bands as its second field says, from one to 64
abbrev pub CountsBands : List ℕ → Type 0
CountsBands line = (b : BuildLine) → build_line line ≡ Ok b → (length (bands_given b) ≡ decimal (field_at 1 (fields_of line))) × (1 ≤ length (bands_given b)) × (length (bands_given b) ≤ 64)

-- a venue is built as the fields of a build line say, under the rule that is given, or a band is broken, or there is no memory though no band is broken
abbrev pub OpensAs : {R : Type 0} → R → BuildLine → Result (Opening R) BuildError → Type 0
OpensAs rule b (Ok o) = (build_fault (bands_given b) ≡ None) × (gateway_view o.gateway ≡ fresh b.product (bands_given b)) × (o.answer ≡ acceptance_numbers (Built (length (bands_given b)))) × (gateway_rule o.gateway ≡ rule)
OpensAs rule b (Err (Refused e)) = build_fault (bands_given b) ≡ Some e
OpensAs rule b (Err OutOfMemory) = build_fault (bands_given b) ≡ None

-- a venue is just built as the line says; its answer has the number of instruments, as the second field says it, and its session begins here
pub record Opened (shares : List ℕ → ℕ → List ℕ) (line : List ℕ) (answer : ℕ × ℕ) (v : View) : Type 0 where
  pub request : BuildLine
  pub says : build_line line ≡ Ok request
  pub stands : v ≡ fresh request.product (bands_given request)
  pub answers : answer ≡ acceptance_numbers (Built (length (bands_given request)))
  pub counted : length (bands_given request) ≡ decimal (field_at 1 (fields_of line))
  pub reached : Reached line_call shares [] v
  pub sound : Sound line_call [] v

-- a build line opens a venue under the rule that it is given, or is refused, or there is no memory though it is not refused
abbrev pub Opens : {R : Type 0} → (R → List ℕ → ℕ → List ℕ) → R → List ℕ → Result (Opening R) BuildError → Type 0
Opens shares rule line (Ok o) = (build_refusal (build_line line) ≡ None) × Opened (shares rule) line o.answer (gateway_view o.gateway) × (gateway_rule o.gateway ≡ rule)
Opens shares rule line (Err (Refused e)) = build_refusal (build_line line) ≡ Some e
Opens shares rule line (Err OutOfMemory) = build_refusal (build_line line) ≡ None

-- ---- calls

-- a define line that can be read counts as many legs as its third field says, from two to ten, and lists so many
abbrev pub CountsLegs : List ℕ → Type 0
CountsLegs line = (p : ℕ) (legs : Legs) → line_call line ≡ Ok (Define p legs) → (legs.count ≡ decimal (field_at 2 (fields_of line))) × (2 ≤ legs.count) × (legs.count ≤ 10) × (length (listed legs) ≡ legs.count)

-- the answer is a refusal by the line layer: number 1 or 2
abbrev pub by_line : Result (ℕ × ℕ) Refusal → Bool
by_line (Ok numbers) = false
by_line (Err e) = nat_le 1 (refusal_code e).number && nat_le (refusal_code e).number 2

-- ---- sessions

-- one line: its bytes, how many rows its report has, the answer and all rows
abbrev pub turn_of : List ℕ → ℕ → Result (ℕ × ℕ) Refusal → List Row → Turn (List ℕ)
turn_of line room answer rows = record { message = line; room = room; answer = answer; rows = rows }

-- for every history of lines that leads from a venue just built to the venue before, this turn leads on to the venue after, as the rules say, and there the law over sessions holds
pub record GoesOn (shares : List ℕ → ℕ → List ℕ) (before : View) (t : Turn (List ℕ)) (after : View) : Type 0 where
  pub goes : (h : List (Turn (List ℕ))) → Reached line_call shares h before → Reached line_call shares (t ∷ h) after × Sound line_call (t ∷ h) after
