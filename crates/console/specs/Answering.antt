-- A line and the text of its answer.
use Rattle.std.specs.Prelude.{◌≡◌, ℕ, List, ◌++◌, Some, None, Ok, Err, Option, Result}
use Rattle.market.specs.declared.refusal.Refusal.{Refusal}
use Rattle.market.specs.declared.row.Row.{Row}
use Rattle.market.specs.Endings.{Follows}
use Rattle.market.specs.Venues.{View, Takes}
use Rattle.gate.specs.declared.build_error.BuildError.{BuildError}
use Rattle.gate.specs.declared.build_error.BuildError.TheVariants.{Refused}
use Rattle.line.specs.declared.gateway.Gateway.{Gateway}
use Rattle.line.specs.declared.gateway.Opening.{Opening}
use Rattle.line.specs.Gateways.{Opens}
use Rattle.line.specs.Verdicts.{line_call}
use Rattle.console.specs.Cuts.{start}
use Rattle.console.specs.Text.{answer_text, report_text}

-- every line of which these are the first 1,201 bytes was answered as the market's rules say, and the text of the answer and of the rows stands behind what was there
pub record Answered (shares : List ℕ → ℕ → List ℕ) (before : View) (head : List ℕ) (room : ℕ) (text text' : List ℕ) (after : View) : Type 0 where
  pub answer : Result (ℕ × ℕ) Refusal
  pub rows : List Row
  pub follows : (line : List ℕ) → head ≡ start line → Follows (Takes shares before (line_call line)) before room answer rows after
  pub written : text' ≡ text ++ (answer_text answer ++ report_text rows)

-- what came of building, where there was memory
abbrev pub as_built : {R : Type 0} → Result (Opening R) Refusal → Result (Opening R) BuildError
as_built (Ok o) = Ok o
as_built (Err e) = Err (Refused e)

-- the answer to a build line
abbrev pub build_answer : {R : Type 0} → Result (Opening R) Refusal → Result (ℕ × ℕ) Refusal
build_answer (Ok o) = Ok o.answer
build_answer (Err e) = Err e

-- the venue that a build line opened, if any
abbrev pub opened_gateway : {R : Type 0} → Result (Opening R) Refusal → Option (Gateway R)
opened_gateway (Ok o) = Some o.gateway
opened_gateway (Err e) = None

-- a build line opened a venue or was refused as the rules say, and the text of the answer stands behind what was there
pub record BuildAnswered {R : Type 0} (shares : R → List ℕ → ℕ → List ℕ) (rule : R) (line : List ℕ) (text text' : List ℕ) (g : Option (Gateway R)) : Type 0 where
  pub built : Result (Opening R) Refusal
  pub opens : Opens shares rule line (as_built built)
  pub written : text' ≡ text ++ answer_text (build_answer built)
  pub gateway : g ≡ opened_gateway built
