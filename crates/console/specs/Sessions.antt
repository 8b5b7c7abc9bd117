-- What a session writes on the lines of its input.
use Rattle.std.specs.Prelude.{◌≡◌, ℕ, List, [], ◌∷◌, ◌++◌, Some, None, Ok, Err, Result}
use Rattle.rules.specs.PriceTime.{price_time}
use Rattle.rules.specs.ProRata.{pro_rata}
use Rattle.market.specs.declared.product.Product.{Product}
use Rattle.market.specs.declared.product.Product.TheVariants.{Futures, Options}
use Rattle.market.specs.declared.refusal.Refusal.{Refusal}
use Rattle.market.specs.declared.row.Row.{Row}
use Rattle.market.specs.Endings.{Follows}
use Rattle.market.specs.Venues.{View, Takes}
use Rattle.line.specs.Gateways.{build_refusal, Opened}
use Rattle.line.specs.Verdicts.{line_call, build_line}
use Rattle.console.specs.Lines.{closed_lines}
use Rattle.console.specs.Text.{answer_text, report_text}
use Rattle.console.specs.Wires.{Event, Took, Gave, taken, given}

-- how many rows a report has
abbrev pub rows_offered : ℕ
rows_offered = 1024

-- futures trade under price/time, options under pro-rata
abbrev pub rule_for : Product → List ℕ → ℕ → List ℕ
rule_for Futures = price_time
rule_for Options = pro_rata

-- lines given to a venue one after the other, and the text of all answers and reports
pub data Answers (shares : List ℕ → ℕ → List ℕ) : View → List (List ℕ) → List ℕ → View → Type 0 where
  none : (v : View) → Answers shares v [] [] v
  next : (v u w : View) (line : List ℕ) (answer : Result (ℕ × ℕ) Refusal) (rows : List Row) (lines : List (List ℕ)) (text : List ℕ) → Follows (Takes shares v (line_call line)) v rows_offered answer rows u → Answers shares u lines text w → Answers shares v (line ∷ lines) ((answer_text answer ++ report_text rows) ++ text) w

-- the reply to the lines of an input, where each product has its rule
pub data Reply (rules : Product → List ℕ → ℕ → List ℕ) : List (List ℕ) → List ℕ → Type 0 where
  -- nothing, where no line is closed
  no_line : Reply rules [] []
  -- the refusal of the first line, where it builds no venue, and nothing on the others
  not_built : (line : List ℕ) (lines : List (List ℕ)) (e : Refusal) → build_refusal (build_line line) ≡ Some e → Reply rules (line ∷ lines) (answer_text (Err e))
  -- the answer to the first line, which builds the venue, and the answers to all others
  built : (line : List ℕ) (lines : List (List ℕ)) (answer : ℕ × ℕ) (v w : View) (text : List ℕ) → build_refusal (build_line line) ≡ None → Opened (rules v.product) line answer v → Answers (rules v.product) v lines text w → Reply rules (line ∷ lines) (answer_text (Ok answer) ++ text)

-- a session ends with its input, or after a first line that builds no venue
pub data Ends (over : Type 0) : List (List ℕ) → Type 0 where
  input_over : (lines : List (List ℕ)) → over → Ends over lines
  build_refused : (line : List ℕ) (lines : List (List ℕ)) (e : Refusal) → build_refusal (build_line line) ≡ Some e → Ends over (line ∷ lines)

-- the first line, if one is closed, builds a venue
abbrev pub Unrefused : List (List ℕ) → Type 0
Unrefused [] = Unit {0}
Unrefused (line ∷ lines) = build_refusal (build_line line) ≡ None

-- a session may read on: the text is the reply to all closed lines, and the first of them was not refused
pub record Ready (rules : Product → List ℕ → ℕ → List ℕ) (lines : List (List ℕ)) (text : List ℕ) : Type 0 where
  pub reply : Reply rules lines text
  pub unrefused : Unrefused lines

-- whenever bytes were read, the reply to all lines closed before had been written, and a venue was not refused
abbrev pub Prompt : (Product → List ℕ → ℕ → List ℕ) → List Event → Type 0
Prompt rules [] = Unit {0}
Prompt rules (Took bytes ∷ events) = Ready rules (closed_lines (taken events)) (given events) × Prompt rules events
Prompt rules (Gave text ∷ events) = Prompt rules events

-- a whole session over a wire: what was written is the reply to the closed lines of what was read
pub record Served (rules : Product → List ℕ → ℕ → List ℕ) (log : List Event → Type 0) (over : Type 0) : Type 0 where
  pub events : List Event
  pub logged : log events
  pub replied : Reply rules (closed_lines (taken events)) (given events)
  pub ends : Ends over (closed_lines (taken events))
  pub prompt : Prompt rules events

-- a session that was broken off: what was written is the beginning of the reply to the first of the closed lines
pub record BrokenOff (rules : Product → List ℕ → ℕ → List ℕ) (log : List Event → Type 0) : Type 0 where
  pub events : List Event
  pub logged : log events
  pub lines : List (List ℕ)
  pub others : List (List ℕ)
  pub closed : closed_lines (taken events) ≡ lines ++ others
  pub rest : List ℕ
  pub replied : Reply rules lines (given events ++ rest)
  pub prompt : Prompt rules events
