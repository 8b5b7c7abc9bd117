-- How far a session has come, between its first line and its end.
use Rattle.std.specs.Prelude.{◌≡◌, ℕ, List, [], ◌∷◌, ◌++◌, Some, vec_items}
use Rattle.market.specs.declared.product.Product.{Product}
use Rattle.market.specs.Venues.{View}
use Rattle.line.specs.Verdicts.{build_line, product_named}
use Rattle.console.specs.declared.session.Session.{Session}
use Rattle.console.specs.Cuts.{start, kept, pending}
use Rattle.console.specs.Lines.{closed_lines}
use Rattle.console.specs.Reading.{unread, Stands, AtEnd}
use Rattle.console.specs.Sessions.{Answers, Ready}
use Rattle.console.specs.Wires.{Event}

-- how far a session stands: its wire, its reader and the text that waits
abbrev pub SessionStands : {W : Type 0} → (Product → List ℕ → ℕ → List ℕ) → (W → List Event → Type 0) → Session W → List ℕ → List ℕ → Type 0
SessionStands rules log s used text = Stands rules log s.reader s.wire used text

-- the shares are those of the rule for the product that a build line names
abbrev pub Suits : (Product → List ℕ → ℕ → List ℕ) → (List ℕ → ℕ → List ℕ) → List ℕ → Type 0
Suits rules shares line = (p : Product) → product_named (build_line line) ≡ Some p → rules p ≡ shares

-- with the answers to more lines, the session may read on
abbrev pub RepliesOn : (Product → List ℕ → ℕ → List ℕ) → (List ℕ → ℕ → List ℕ) → View → List ℕ → List ℕ → Type 0
RepliesOn rules shares v used text = (lines : List (List ℕ)) (more : List ℕ) (w : View) → Answers shares v lines more w → Ready rules (closed_lines used ++ lines) (text ++ more)

-- of a session that has read nothing and said nothing
abbrev pub FromStart : {W : Type 0} → (W → List Event → Type 0) → Session W → Type 0 → Type 0
FromStart log s Q = unread s.reader ≡ [] → pending s.reader.cutter ≡ [] → vec_items s.wire.text ≡ [] → log s.wire.wire.now [] → Q

-- of a session of which one line is closed and at hand, with nothing said yet, under a rule that suits the line
abbrev pub FromFirst : {W : Type 0} → (W → List Event → Type 0) → (List ℕ → ℕ → List ℕ) → Session W → ((Product → List ℕ → ℕ → List ℕ) → Type 0) → Type 0
FromFirst log shares s Q = (rules : Product → List ℕ → ℕ → List ℕ) (used line : List ℕ) → Suits rules shares line → SessionStands rules log s used [] → closed_lines used ≡ line ∷ [] → kept s.reader.cutter ≡ start line → Q rules

-- of a session that may read on with the answers of a venue
abbrev pub FromAnswers : {W : Type 0} → (W → List Event → Type 0) → (List ℕ → ℕ → List ℕ) → View → Session W → ((Product → List ℕ → ℕ → List ℕ) → List ℕ → List ℕ → Type 0) → Type 0
FromAnswers log shares v s Q = (rules : Product → List ℕ → ℕ → List ℕ) (used text : List ℕ) → RepliesOn rules shares v used text → SessionStands rules log s used text → Q rules used text

-- more lines are closed, and each is answered by the venue
pub record AnsweredOn {W : Type 0} (rules : Product → List ℕ → ℕ → List ℕ) (shares : List ℕ → ℕ → List ℕ) (v : View) (log : W → List Event → Type 0) (s : Session W) (used text : List ℕ) (w : View) : Type 0 where
  pub used' : List ℕ
  pub lines : List (List ℕ)
  pub more : List ℕ
  pub stands : SessionStands rules log s used' (text ++ more)
  pub closes : closed_lines used' ≡ closed_lines used ++ lines
  pub answers : Answers shares v lines more w

-- every line up to the end of the input is answered
pub record AllAnswered {W : Type 0} (rules : Product → List ℕ → ℕ → List ℕ) (shares : List ℕ → ℕ → List ℕ) (v : View) (log : W → List Event → Type 0) (over : W → Type 0) (s : Session W) (used text : List ℕ) : Type 0 where
  pub w : View
  pub answered : AnsweredOn rules shares v log s used text w
  pub at_end : AtEnd over s.reader s.wire
