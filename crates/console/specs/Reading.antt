-- What a reader has read and not cut yet, and how far a session stands.
use Rattle.std.specs.Prelude.{◌≡◌, ℕ, ◌-◌, true, List, [], ◌∷◌, ◌++◌, take, drop, Some, None, Option, is_some, vec_items}
use denote.Ref.{Bor}
use Rattle.console.specs.declared.buffered.BufferedWire.{BufferedWire}
use Rattle.console.specs.declared.reader.LineReader.{LineReader}
use Rattle.console.specs.Cuts.{start, kept, pending}
use Rattle.market.specs.declared.product.Product.{Product}
use Rattle.console.specs.Lines.{closed_lines, open_line}
use Rattle.console.specs.Sessions.{Ready, Prompt, BrokenOff}
use Rattle.console.specs.Wires.{Event, taken, given}

-- the bytes of the last block that are still to be cut
abbrev pub unread : LineReader → List ℕ
unread r = take (r.end - r.at) (drop r.at (vec_items r.block))

-- of what the wire has read, `used` is cut and the rest is unread; what it has written and what waits to be written are the text; each read so far was prompt
pub record Stands {W : Type 0} (rules : Product → List ℕ → ℕ → List ℕ) (log : W → List Event → Type 0) (r : LineReader) (w : BufferedWire W) (used text : List ℕ) : Type 0 where
  pub events : List Event
  pub logged : log w.wire.now events
  pub cut : taken events ≡ used ++ unread r
  pub holds : pending r.cutter ≡ start (open_line used)
  pub buffered : text ≡ given events ++ vec_items w.text
  pub prompt : Prompt rules events

-- a step from one reader and wire to the next cuts nothing and adds no text, where the text is the reply to all lines closed so far
abbrev pub Keeps : {W : Type 0} → (W → List Event → Type 0) → LineReader → BufferedWire W → LineReader → BufferedWire W → Type 0
Keeps log r w r' w' = (rules : Product → List ℕ → ℕ → List ℕ) (used text : List ℕ) → Ready rules (closed_lines used) text → Stands rules log r w used text → Stands rules log r' w' used text

-- a step that fails breaks the session off
abbrev pub Breaks : {W : Type 0} → (W → List Event → Type 0) → LineReader → BufferedWire W → BufferedWire W → Type 0
Breaks log r w w' = (rules : Product → List ℕ → ℕ → List ℕ) (used text : List ℕ) → Ready rules (closed_lines used) text → Stands rules log r w used text → BrokenOff rules (log w'.wire.now)

-- the input is over, all of it is cut, and nothing waits to be written
pub record AtEnd {W : Type 0} (over : W → Type 0) (r : LineReader) (w : BufferedWire W) : Type 0 where
  pub ended : over w.wire.now
  pub nothing : unread r ≡ []
  pub empty : vec_items w.text ≡ []

-- one more line is closed, and its start is at hand
pub record OneMore {W : Type 0} (rules : Product → List ℕ → ℕ → List ℕ) (log : W → List Event → Type 0) (r : LineReader) (w : BufferedWire W) (used text : List ℕ) : Type 0 where
  pub used' : List ℕ
  pub line : List ℕ
  pub stands : Stands rules log r w used' text
  pub lines : closed_lines used' ≡ closed_lines used ++ (line ∷ [])
  pub head : kept r.cutter ≡ start line

-- no more line is closed
pub record Still {W : Type 0} (rules : Product → List ℕ → ℕ → List ℕ) (log : W → List Event → Type 0) (r : LineReader) (w : BufferedWire W) (used text : List ℕ) : Type 0 where
  pub used' : List ℕ
  pub stands : Stands rules log r w used' text
  pub lines : closed_lines used' ≡ closed_lines used

-- one more line is found and lent, or none up to the end of the input
abbrev pub Next : {W : Type 0} → Option (Bor (List ℕ)) → (Product → List ℕ → ℕ → List ℕ) → (W → List Event → Type 0) → (W → Type 0) → LineReader → BufferedWire W → List ℕ → List ℕ → Type 0
Next (Some line) rules log over r w used text = OneMore rules log r w used text × (line.now ≡ kept r.cutter)
Next None rules log over r w used text = Still rules log r w used text × AtEnd over r w

-- a line that is lent is whole: its newline is cut
abbrev pub Whole : Option (Bor (List ℕ)) → LineReader → Type 0
Whole line r = is_some line ≡ true → r.cutter.complete ≡ true

-- a step from one reader and wire to the next lends only a whole line, and finds the next one, where the text is the reply to all lines closed so far
abbrev pub Finds : {W : Type 0} → (W → List Event → Type 0) → (W → Type 0) → LineReader → BufferedWire W → Option (Bor (List ℕ)) → LineReader → BufferedWire W → Type 0
Finds log over r w line r' w' = Whole line r' × ((rules : Product → List ℕ → ℕ → List ℕ) (used text : List ℕ) → Ready rules (closed_lines used) text → Stands rules log r w used text → Next line rules log over r' w' used text)
