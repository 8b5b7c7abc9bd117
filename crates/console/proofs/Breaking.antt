-- A session that is broken off has written no wrong byte.
use Rattle.std.proofs.Common.{◌≡◌, ℕ, List, [], ◌∷◌, ◌++◌, take, drop, IfErr, Ok, Err, Result, vec_items, sym, refl, ap, ◌∙◌, subst}
use Rattle.std.proofs.lemmas.List.{append_assoc, append-nil, take-append-drop}
use Rattle.market.specs.declared.product.Product.{Product}
use Rattle.console.specs.declared.buffered.BufferedWire.{BufferedWire}
use Rattle.console.specs.declared.reader.LineReader.{LineReader}
use Rattle.console.specs.Lines.{closed_lines, closed_after, open_line}
use Rattle.console.specs.Reading.{unread, Stands}
use Rattle.console.specs.Sessions.{Reply, no_line, BrokenOff}
use Rattle.console.specs.Wires.{Event, Gave, PartGiven, given}
use Rattle.console.proofs.Newlines.{closed_on}

-- whatever the error is
pub refused_any : {X Y : Type 0} (r : Result X Y) (Q : Type 0) → Q → IfErr r (λ _. Q)
refused_any (Ok x) Q q = tt
refused_any (Err y) Q q = q

module _ {W : Type 0} {rules : Product → List ℕ → ℕ → List ℕ} {log : W → List Event → Type 0} {r : LineReader} {w : BufferedWire W} (used text : List ℕ) (lines others : List (List ℕ)) (e : closed_lines used ≡ lines ++ others) (reply : Reply rules lines text) (s : Stands rules log r w used text) where
  closed_so : closed_lines (used ++ unread r) ≡ lines ++ (others ++ closed_after (open_line used) (unread r))
  closed_so = closed_on [] used (unread r) ∙ ap (λ ls. ls ++ closed_after (open_line used) (unread r)) e ∙ append_assoc lines others (closed_after (open_line used) (unread r))

  -- what waits is not written
  pub broken_off : (log' : List Event → Type 0) → log' s.events → BrokenOff rules log'
  broken_off log' l =
      record {
        events = s.events;
        logged = l;
        lines = lines;
        others = others ++ closed_after (open_line used) (unread r);
        closed = ap closed_lines s.cut ∙ closed_so;
        rest = vec_items w.text;
        replied = subst (Reply rules lines) s.buffered reply;
        prompt = s.prompt;
      }

  -- a part of what waits is written
  pub broken_part : (log' : List Event → Type 0) → PartGiven log' (vec_items w.text) s.events → BrokenOff rules log'
  broken_part log' p =
      record {
        events = Gave (take p.count (vec_items w.text)) ∷ s.events;
        logged = p.logged;
        lines = lines;
        others = others ++ closed_after (open_line used) (unread r);
        closed = ap closed_lines s.cut ∙ closed_so;
        rest = drop p.count (vec_items w.text);
        replied = subst (Reply rules lines) (s.buffered ∙ ap (λ t. given s.events ++ t) (sym (take-append-drop p.count (vec_items w.text))) ∙ sym (append_assoc (given s.events) (take p.count (vec_items w.text)) (drop p.count (vec_items w.text)))) reply;
        prompt = s.prompt;
      }

-- all lines that are closed have their reply
pub broken_after : {W : Type 0} {rules : Product → List ℕ → ℕ → List ℕ} {log : W → List Event → Type 0} {r : LineReader} {w : BufferedWire W} (used text : List ℕ) → Reply rules (closed_lines used) text → Stands rules log r w used text → BrokenOff rules (log w.wire.now)
broken_after {log = log} {w = w} used text reply s = broken_off used text (closed_lines used) [] (sym (append-nil (closed_lines used))) reply s (log w.wire.now) s.logged

-- a part of what waits is written, where all lines that are closed have their reply
pub broken_writing : {W : Type 0} {rules : Product → List ℕ → ℕ → List ℕ} {log : W → List Event → Type 0} {r : LineReader} {w : BufferedWire W} (used text : List ℕ) → Reply rules (closed_lines used) text → Stands rules log r w used text → (log' : List Event → Type 0) → ((events : List Event) → log w.wire.now events → PartGiven log' (vec_items w.text) events) → BrokenOff rules log'
broken_writing used text reply s log' failed = broken_part used text (closed_lines used) [] (sym (append-nil (closed_lines used))) reply s log' (failed s.events s.logged)

-- nothing was read or written
pub broken_first : {rules : Product → List ℕ → ℕ → List ℕ} (log : List Event → Type 0) → log [] → BrokenOff rules log
broken_first log l = record { events = []; logged = l; lines = []; others = []; closed = refl; rest = []; replied = no_line; prompt = tt }

-- one line is closed, and nothing is written
pub broken_unanswered : {W : Type 0} {rules : Product → List ℕ → ℕ → List ℕ} {log : W → List Event → Type 0} {r : LineReader} {w : BufferedWire W} (used line : List ℕ) → closed_lines used ≡ line ∷ [] → Stands rules log r w used [] → BrokenOff rules (log w.wire.now)
broken_unanswered {log = log} {w = w} used line only s = broken_off used [] [] (line ∷ []) only no_line s (log w.wire.now) s.logged
