-- How the answers to one line after the other make up a session.
use Rattle.std.proofs.Common.{◌≡◌, ℕ, List, [], ◌∷◌, ◌++◌, Some, None, Ok, Option, IfOk, Result, Vec, Global, vec_items, sym, ap, ◌∙◌, subst}
use mathlib.Core.Path.{transport}
use Rattle.std.proofs.lemmas.List.{append_assoc, append-nil}
use Rattle.market.specs.declared.product.Product.{Product}
use Rattle.market.specs.declared.refusal.Refusal.{Refusal}
use Rattle.market.specs.declared.row.Row.{Row}
use Rattle.market.specs.Endings.{Follows}
use Rattle.market.specs.Venues.{View, Takes}
use Rattle.line.specs.Verdicts.{line_call}
use Rattle.console.specs.declared.buffered.BufferedWire.{BufferedWire}
use Rattle.console.specs.declared.reader.LineReader.{LineReader}
use Rattle.console.specs.declared.session.Session.{Session}
use denote.Ref.{Bor}
use Rattle.console.specs.Answering.{Answered}
use Rattle.console.specs.Cuts.{kept}
use Rattle.console.specs.Lines.{closed_lines}
use Rattle.console.specs.Reading.{Stands, Next, Finds}
use Rattle.console.specs.Serving.{SessionStands, RepliesOn, AnsweredOn, AllAnswered}
use Rattle.console.specs.Sessions.{rows_offered, Answers, none, next, Ready}
use Rattle.console.specs.Text.{answer_text, report_text}
use Rattle.console.specs.Wires.{Event, given}
use Rattle.console.proofs.Standing.{found_as}

-- text is added to what waits
pub appended : {W : Type 0} {rules : Product → List ℕ → ℕ → List ℕ} {log : W → List Event → Type 0} {r : LineReader} {w : BufferedWire W} {used text : List ℕ} (t : Vec ℕ Global) (more : List ℕ) → vec_items t ≡ vec_items w.text ++ more → Stands rules log r w used text → Stands rules log r (record w { text = t }) used (text ++ more)
appended {w = w} t more e s =
    record {
      events = s.events;
      logged = s.logged;
      cut = s.cut;
      holds = s.holds;
      buffered = ap (λ x. x ++ more) s.buffered ∙ append_assoc (given s.events) (vec_items w.text) more ∙ ap (λ x. given s.events ++ x) (sym e);
      prompt = s.prompt;
    }

module _ (shares : List ℕ → ℕ → List ℕ) where
  -- one more line after those that were answered
  answers_more : (v u w : View) (lines : List (List ℕ)) (text line : List ℕ) (answer : Result (ℕ × ℕ) Refusal) (rows : List Row) → Answers shares v lines text u → Follows (Takes shares u (line_call line)) u rows_offered answer rows w → Answers shares v (lines ++ (line ∷ [])) (text ++ (answer_text answer ++ report_text rows)) w
  answers_more v u w lines text line answer rows (none _) f = subst (λ t. Answers shares v (line ∷ []) t w) (append-nil (answer_text answer ++ report_text rows)) (next v w w line answer rows [] [] f (none w))
  answers_more v u w lines text line answer rows (next _ x _ first a rs others t g rest) f =
      subst (λ t. Answers shares v (first ∷ (others ++ (line ∷ []))) t w) (sym (append_assoc (answer_text a ++ report_text rs) t (answer_text answer ++ report_text rows)))
      (next v x w first a rs (others ++ (line ∷ [])) (t ++ (answer_text answer ++ report_text rows)) g (answers_more x u w others t line answer rows rest f))

  -- no line is given yet
  pub ready_now : (rules : Product → List ℕ → ℕ → List ℕ) (v : View) (used text : List ℕ) → RepliesOn rules shares v used text → Ready rules (closed_lines used) text
  ready_now rules v used text on = transport (λ i. Ready rules (append-nil (closed_lines used) i) (append-nil text i)) (on [] [] v (none v))

  module _ {W : Type 0} {log : W → List Event → Type 0} (rules : Product → List ℕ → ℕ → List ℕ) (v : View) (used text : List ℕ) where
    pub begin_answers : {s : Session W} → SessionStands rules log s used text → AnsweredOn rules shares v log s used text v
    begin_answers {s} h =
        record {
          used' = used;
          lines = [];
          more = [];
          stands = subst (SessionStands rules log s used) (sym (append-nil text)) h;
          closes = sym (append-nil (closed_lines used));
          answers = none v;
        }

    -- all lines that are closed have their reply
    pub replied : {s : Session W} (w : View) (a : AnsweredOn rules shares v log s used text w) → RepliesOn rules shares v used text → Ready rules (closed_lines a.used') (text ++ a.more)
    replied w a on = subst (λ ls. Ready rules ls (text ++ a.more)) (sym a.closes) (on a.lines a.more w a.answers)

    pub keep_answers : {s s' : Session W} (w : View) → ((used text : List ℕ) → SessionStands rules log s used text → SessionStands rules log s' used text) → AnsweredOn rules shares v log s used text w → AnsweredOn rules shares v log s' used text w
    keep_answers w k a = record { used' = a.used'; lines = a.lines; more = a.more; stands = k a.used' (text ++ a.more) a.stands; closes = a.closes; answers = a.answers }

    -- what was found next
    pub found_next : {s : Session W} (over : W → Type 0) {E : Type 0} {o : Result (Option (Bor (List ℕ))) E} {l line : Option (Bor (List ℕ))} (r : LineReader) (w : BufferedWire W) (u : View) (a : AnsweredOn rules shares v log s used text u) → RepliesOn rules shares v used text → o ≡ Ok l → l ≡ line → IfOk o (λ x. Finds log over s.reader s.wire x r w) → Next line rules log over r w a.used' (text ++ a.more)
    found_next {s} over r w u a on was is found = (found_as (λ x. Finds log over s.reader s.wire x r w) was is found).1 rules a.used' (text ++ a.more) (replied u a on) a.stands

    pub end_answers : {over : W → Type 0} {s s' : Session W} (w : View) (a : AnsweredOn rules shares v log s used text w) → Next None rules log over s'.reader s'.wire a.used' (text ++ a.more) → AllAnswered rules shares v log over s' used text
    end_answers w a n =
        record { w = w; answered = record { used' = n.0.used'; lines = a.lines; more = a.more; stands = n.0.stands; closes = n.0.lines ∙ a.closes; answers = a.answers }; at_end = n.1 }

    -- the next line was found, and answered under the rule and with the room that the session has
    pub next_answers : {s : Session W} {shares' : List ℕ → ℕ → List ℕ} {room : ℕ} (over : W → Type 0) (s' : Session W) (t : Vec ℕ Global) (line : Bor (List ℕ)) (u x : View) (a : AnsweredOn rules shares v log s used text u) → Next (Some line) rules log over s'.reader s'.wire a.used' (text ++ a.more) → shares' ≡ shares → room ≡ rows_offered → Answered shares' u line.now room (vec_items s'.wire.text) (vec_items t) x → AnsweredOn rules shares v log (record s' { wire = record (s'.wire) { text = t } }) used text x
    next_answers over s' t line u x a (m, start) rule long told =
        let w = s'.wire in
        let after : Session W = record s' { wire = record w { text = t } } in
        let b : Answered shares u (kept s'.reader.cutter) rows_offered (vec_items w.text) (vec_items t) x = transport (λ i. Answered (rule i) u (start i) (long i) (vec_items w.text) (vec_items t) x) told in
        let added = answer_text b.answer ++ report_text b.rows in
        record {
          used' = m.used';
          lines = a.lines ++ (m.line ∷ []);
          more = a.more ++ added;
          stands = subst (SessionStands rules log after m.used') (append_assoc text a.more added) (appended t added b.written m.stands);
          closes = m.lines ∙ ap (λ ls. ls ++ (m.line ∷ [])) a.closes ∙ append_assoc (closed_lines used) a.lines (m.line ∷ []);
          answers = answers_more v u x a.lines a.more m.line b.answer b.rows a.answers (b.follows m.line m.head);
        }
