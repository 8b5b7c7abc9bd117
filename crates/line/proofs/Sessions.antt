-- From what the gate does to what a line does.
use Rattle.std.proofs.Common.{◌≡◌, ℕ, List, length, Ok, Err, Result, sym, refl, ap, ◌∙◌, subst}
use Rattle.rules.specs.Domain.{Laws}
use Rattle.market.specs.declared.acceptance.Acceptance.TheVariants.{Built}
use Rattle.market.specs.declared.call.Call.{Call}
use Rattle.market.specs.declared.refusal.Refusal.{Refusal}
use Rattle.market.specs.declared.row.Row.{Row}
use Rattle.market.specs.Acceptances.{acceptance_numbers}
use Rattle.market.specs.Endings.{Follows, refused}
use Rattle.market.specs.Rows.{blank}
use Rattle.market.specs.Venues.{View, fresh, Does, Takes, unread, read}
use Rattle.market.proofs.Sessions.{begins, goes_on}
use Rattle.gate.specs.declared.build_error.BuildError.{BuildError}
use Rattle.gate.specs.declared.build_error.BuildError.TheVariants.{Refused, OutOfMemory}
use Rattle.gate.specs.Views.{view}
use Rattle.line.specs.declared.bands.BuildLine.{BuildLine}
use Rattle.line.specs.declared.gateway.Opening.{Opening}
use Rattle.line.specs.Gateways.{bands_given, build_refusal, Opened, OpensAs, Opens, GoesOn, turn_of}
use Rattle.line.specs.Verdicts.{line_call, build_line}
use Rattle.line.proofs.Counts.{count_few}

module _ {shares : List ℕ → ℕ → List ℕ} {v : View} {room : ℕ} {asked : Result Call Refusal} {answer : Result (ℕ × ℕ) Refusal} {rows : List Row} where
  -- a line that cannot be read
  pub follows_unread : {e : Refusal} → asked ≡ Err e → answer ≡ Err e → rows ≡ blank room → Follows (Takes shares v asked) v room answer rows v
  follows_unread {e = e} is said wiped = record { ending = refused e; allowed = subst (λ (r : Result Call Refusal). Takes shares v r (refused e)) (sym is) (unread e); answered = said; reported = wiped; left = refl }

  -- a line that makes a call
  pub follows_read : {c : Call} {w : View} → asked ≡ Ok c → Follows (Does shares v c) v room answer rows w → Follows (Takes shares v asked) v room answer rows w
  follows_read {c = c} is f = record { ending = f.ending; allowed = subst (λ (r : Result Call Refusal). Takes shares v r f.ending) (sym is) (read c f.ending f.allowed); answered = f.answered; reported = f.reported; left = f.left }

-- a line goes on with every session
pub goes : {shares : List ℕ → ℕ → List ℕ} {v w : View} {room : ℕ} {line : List ℕ} {answer : Result (ℕ × ℕ) Refusal} {rows : List Row} → Laws shares → Follows (Takes shares v (line_call line)) v room answer rows w → GoesOn shares v (turn_of line room answer rows) w
goes {shares = shares} {v = v} {w = w} {room = room} {line = line} {answer = answer} {rows = rows} laws f = record { goes = λ h r. goes_on line_call shares laws (turn_of line room answer rows) h v w r f }

-- a venue is open, and its session begins
pub opened : (shares : List ℕ → ℕ → List ℕ) → Laws shares → (line : List ℕ) (b : BuildLine) (answer : ℕ × ℕ) (v : View) → build_line line ≡ Ok b → v ≡ fresh b.product (bands_given b) → answer ≡ acceptance_numbers (Built (length (bands_given b))) → Opened shares line answer v
opened shares laws line b answer v says stands answers =
    let new : v ≡ fresh v.product v.bands = stands ∙ sym (ap (λ (u : View). fresh u.product u.bands) stands) in
    let both = begins line_call shares laws v new in
    record { request = b; says = says; stands = stands; answers = answers; counted = (count_few line b says).0; reached = both.0; sound = both.1 }

pub opens_from : {R : Type 0} (shares : R → List ℕ → ℕ → List ℕ) (rule : R) → Laws (shares rule) → (line : List ℕ) (b : BuildLine) → build_line line ≡ Ok b → (r : Result (Opening R) BuildError) → OpensAs rule b r → Opens shares rule line r
opens_from shares rule laws line b says (Ok o) h = (ap build_refusal says ∙ h.0, opened (shares rule) laws line b o.answer (view o.gateway.venue) says h.1 h.2, h.3)
opens_from shares rule laws line b says (Err (Refused e)) h = ap build_refusal says ∙ h
opens_from shares rule laws line b says (Err OutOfMemory) h = ap build_refusal says ∙ h
