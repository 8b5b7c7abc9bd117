-- From the build line and the answers after it to what a whole session writes.
use Rattle.std.proofs.Common.{◌≡◌, ℕ, List, [], ◌∷◌, ◌++◌, OnOk, IfOk, Global, unwrap_or, Some, None, Ok, Err, Option, Result, vec_items, sym, ap, ◌∙◌, subst, arith}
use mathlib.Core.Path.{transport}
use Rattle.std.proofs.lemmas.List.{append-nil}
use Rattle.market.specs.declared.product.Product.{Product}
use Rattle.market.specs.declared.refusal.Refusal.{Refusal}
use Rattle.market.specs.Venues.{View}
use Rattle.gate.specs.Views.{view}
use Rattle.line.specs.declared.gateway.Gateway.{Gateway}
use Rattle.line.specs.declared.gateway.Opening.{Opening}
use Rattle.line.specs.BuildLines.{build_form}
use Rattle.line.specs.Gateways.{build_refusal, Opened, Opens}
use Rattle.line.specs.Verdicts.{build_line, product_named}
use Rattle.line.proofs.Clips.{same_verdict}
use Rattle.line.proofs.Counts.{count_few}
use Rattle.console.specs.declared.buffered.BufferedWire.{BufferedWire}
use Rattle.console.specs.declared.reader.LineReader.{LineReader}
use Rattle.console.specs.declared.session.Session.{Session}
use denote.Ref.{Bor}
use Rattle.console.specs.Answering.{as_built, build_answer, opened_gateway, BuildAnswered}
use Rattle.console.specs.Cuts.{start, pending}
use Rattle.console.specs.Lines.{closed_lines, closed_after, open_line}
use Rattle.console.specs.Reading.{unread, Stands, Breaks, AtEnd, Next, Finds}
use Rattle.console.specs.Serving.{SessionStands, FromFirst, Suits, RepliesOn, AllAnswered}
use Rattle.console.specs.Sessions.{rule_for, Answers, Reply, Ready, no_line, not_built, built, Ends, input_over, build_refused, Served, BrokenOff}
use Rattle.console.specs.Text.{answer_text}
use Rattle.console.specs.Wires.{Event, taken, given}
use Rattle.console.proofs.Turns.{replied}
use Rattle.console.proofs.Newlines.{closed_on}
use Rattle.console.proofs.Standing.{found_as}

-- two facts of a call that succeeds
pub both_then : {X Y P Q S : Type 0} (r : Result X Y) → (P → Q → S) → OnOk r P → OnOk r Q → OnOk r S
both_then (Ok x) f p q = f p q
both_then (Err y) f p q = tt

-- ---- the answer to the build line

abbrev Nothing : {X : Type 0} → Option X → Type 0
Nothing None = Unit {0}
Nothing (Some x) = ⊥

abbrev or_else : {X : Type 0} → X → Option X → X
or_else x None = x
or_else x (Some y) = y

pub record RefusedFirst (line out out' : List ℕ) : Type 0 where
  pub e : Refusal
  pub refused : build_refusal (build_line line) ≡ Some e
  pub written : out' ≡ out ++ answer_text (Err e)

pub record BuiltFirst {R : Type 0} (shares : R → List ℕ → ℕ → List ℕ) (rule : R) (line out out' : List ℕ) (g : Gateway R) : Type 0 where
  pub answer : ℕ × ℕ
  pub accepted : build_refusal (build_line line) ≡ None
  pub opened : Opened (shares rule) line answer (view g.venue)
  pub rule_is : g.venue.rule ≡ rule
  pub written : out' ≡ out ++ answer_text (Ok answer)

-- the start of a line asks for the same venue as the line
alike : {head : List ℕ} (line : List ℕ) → head ≡ start line → build_line head ≡ build_line line
alike line is = ap build_line is ∙ same_verdict build_form line 1201 (omega arith)

module _ {R : Type 0} {shares : R → List ℕ → ℕ → List ℕ} {rule : R} {head out out' : List ℕ} (line : List ℕ) (is : head ≡ start line) where
  pub first_refused : {o : Option (Gateway R)} → o ≡ None → BuildAnswered shares rule head out out' o → RefusedFirst line out out'
  first_refused none b = go b.built b.opens b.written (sym none ∙ b.gateway)
    where
      go : (r : Result (Opening R) Refusal) → Opens shares rule head (as_built r) → out' ≡ out ++ answer_text (build_answer r) → None ≡ opened_gateway r → RefusedFirst line out out'
      go (Ok o) opens w e = absurd (subst Nothing e tt)
      go (Err e) opens w _ = record { e = e; refused = sym (ap build_refusal (alike line is)) ∙ opens; written = w }

  pub first_built : {o : Option (Gateway R)} {g : Gateway R} → o ≡ Some g → BuildAnswered shares rule head out out' o → BuiltFirst shares rule line out out' g
  first_built {g = g} some b = go b.built b.opens b.written (sym some ∙ b.gateway)
    where
      go : (r : Result (Opening R) Refusal) → Opens shares rule head (as_built r) → out' ≡ out ++ answer_text (build_answer r) → Some g ≡ opened_gateway r → BuiltFirst shares rule line out out' g
      go (Err e) opens w s = absurd (subst Nothing (sym s) tt)
      go (Ok o) opens w s =
          let same : o.gateway ≡ g = sym (ap (or_else g) s) in
          let was = opens.1 in
          record {
            answer = o.answer;
            accepted = sym (ap build_refusal (alike line is)) ∙ opens.0;
            opened = subst (λ (x : Gateway R). Opened (shares rule) line o.answer (view x.venue)) same (record { request = was.request; says = sym (alike line is) ∙ was.says; stands = was.stands; answers = was.answers; counted = (count_few line was.request (sym (alike line is) ∙ was.says)).0; reached = was.reached; sound = was.sound });
            rule_is = ap (λ (x : Gateway R). x.venue.rule) (sym same) ∙ opens.2;
            written = w;
          }

-- ---- the whole session

-- no line is closed, and nothing is owed
nothing_yet : {rules : Product → List ℕ → ℕ → List ℕ} → Ready rules [] []
nothing_yet = record { reply = no_line; unrefused = tt }

module _ (rules : Product → List ℕ → ℕ → List ℕ) where
  -- the build line opens a venue, and the answers to all lines after it go on the reply
  pub reply_on : {R : Type 0} {rule : R} {out out' : List ℕ} (shares : R → List ℕ → ℕ → List ℕ) (used line : List ℕ) (g : Gateway R) (f : BuiltFirst shares rule line out out' g) → Suits rules (shares rule) line → closed_lines used ≡ line ∷ [] → RepliesOn rules (shares g.venue.rule) (view g.venue) used (answer_text (Ok f.answer))
  reply_on {rule = rule} shares used line g f suits first = subst (λ r. RepliesOn rules (shares r) v used (answer_text (Ok f.answer))) (sym f.rule_is) on
    where
      v : View
      v = view g.venue

      same : shares rule ≡ rules v.product
      same = sym (suits v.product (ap product_named f.opened.says ∙ ap (λ (u : View). Some u.product) (sym f.opened.stands)))

      on : RepliesOn rules (shares rule) v used (answer_text (Ok f.answer))
      on lines more w answers = subst (λ ls. Ready rules ls (answer_text (Ok f.answer) ++ more)) (ap (λ ls. ls ++ lines) (sym first)) (record { unrefused = f.accepted; reply = built line lines f.answer v w more f.accepted (subst (λ sh. Opened sh line f.answer v) same f.opened) (subst (λ sh. Answers sh v lines more w) same answers) })

  module _ {W : Type 0} (log : W → List Event → Type 0) (over : W → Type 0) (r : LineReader) (w : BufferedWire W) where
    -- the build line is refused, and the refusal is written
    pub served_refused : (used line : List ℕ) (e : Refusal) → closed_lines used ≡ line ∷ [] → build_refusal (build_line line) ≡ Some e → vec_items w.text ≡ [] → Stands rules log r w used (answer_text (Err e)) → Served rules (log w.wire.now) (over w.wire.now)
    served_refused used line e first refused empty s =
        let lines = closed_after (open_line used) (unread r) in
        let closed : line ∷ lines ≡ closed_lines (taken s.events) = sym (ap closed_lines s.cut ∙ closed_on [] used (unread r) ∙ ap (λ ls. ls ++ lines) first) in
        let told : answer_text (Err e) ≡ given s.events = s.buffered ∙ ap (λ o. given s.events ++ o) empty ∙ append-nil (given s.events) in
        record {
          events = s.events;
          logged = s.logged;
          replied = transport (λ i. Reply rules (closed i) (told i)) (not_built line lines e refused);
          ends = subst (Ends (over w.wire.now)) closed (build_refused line lines e refused);
          prompt = s.prompt;
        }

    -- the input is over, and all that was closed has its reply
    pub served_over : (used text : List ℕ) → Ready rules (closed_lines used) text → Stands rules log r w used text → AtEnd over r w → Served rules (log w.wire.now) (over w.wire.now)
    served_over used text reply s end =
        let all : used ≡ taken s.events = sym (s.cut ∙ ap (λ l. used ++ l) end.nothing ∙ append-nil used) in
        let told : text ≡ given s.events = s.buffered ∙ ap (λ o. given s.events ++ o) end.empty ∙ append-nil (given s.events) in
        record {
          events = s.events;
          logged = s.logged;
          replied = transport (λ i. Reply rules (closed_lines (all i)) (told i)) reply.reply;
          ends = input_over (closed_lines (taken s.events)) end.ended;
          prompt = s.prompt;
        }

    -- no line is closed
    pub served_none : Next None rules log over r w [] [] → Served rules (log w.wire.now) (over w.wire.now)
    served_none n = served_over n.0.used' [] (subst (λ ls. Ready rules ls []) (sym n.0.lines) nothing_yet) n.0.stands n.1

-- every line after the build line is answered
pub served_all : {W : Type 0} {log : W → List Event → Type 0} {over : W → Type 0} {s : Session W} (rules : Product → List ℕ → ℕ → List ℕ) (shares : List ℕ → ℕ → List ℕ) (v : View) (used text : List ℕ) → RepliesOn rules shares v used text → AllAnswered rules shares v log over s used text → Served rules (log s.wire.wire.now) (over s.wire.wire.now)
served_all {log = log} {over} {s} rules shares v used text on all =
    let a = all.answered in
    served_over rules log over s.reader s.wire a.used' (text ++ a.more) (replied shares rules v used text all.w a on) a.stands all.at_end

-- the rule of the product that the start of a line names, or of any other where it names none, suits the line
pub suits_named : (head line : List ℕ) (p other : Product) → head ≡ start line → p ≡ unwrap_or (product_named (build_line head)) other → Suits rule_for (rule_for p) line
suits_named head line p other is named q e =
    ap rule_for (sym (named ∙ ap (λ o. unwrap_or o other) (ap product_named (alike line is) ∙ e)))

-- a session begins with nothing read and nothing written
module _ {W : Type 0} (log : W → List Event → Type 0) (s : Session W) (unread_none : unread s.reader ≡ []) (held_none : pending s.reader.cutter ≡ []) (empty : vec_items s.wire.text ≡ []) (l : log s.wire.wire.now []) where
  stands_first : SessionStands rule_for log s [] []
  stands_first = record { events = []; logged = l; cut = sym unread_none; holds = held_none; buffered = sym empty; prompt = tt }

  -- the first line cannot be read
  pub broken_at_first : (w : BufferedWire W) → Breaks log s.reader s.wire w → BrokenOff rule_for (log w.wire.now)
  broken_at_first w b = b rule_for [] [] nothing_yet stands_first

  module _ (over : W → Type 0) {E : Type 0} {found : Result (Option (Bor (List ℕ))) E} {o : Option (Bor (List ℕ))} (was : found ≡ Ok o) (r : LineReader) (w : BufferedWire W) (finds : IfOk found (λ line. Finds log over s.reader s.wire line r w)) where
    -- what is found first
    first_found : (line : Option (Bor (List ℕ))) → o ≡ line → Next line rule_for log over r w [] []
    first_found line is = (found_as (λ x. Finds log over s.reader s.wire x r w) was is finds).1 rule_for [] [] nothing_yet stands_first

    -- no line is found
    pub none_first : o ≡ None → Served rule_for (log w.wire.now) (over w.wire.now)
    none_first is = served_none rule_for log over r w (first_found None is)

    -- the venue is built from the first line, under the rule of the product that the line names
    pub from_first : (h : Global) (line : Bor (List ℕ)) (p other : Product) (Q : (Product → List ℕ → ℕ → List ℕ) → Type 0) → o ≡ Some line → p ≡ unwrap_or (product_named (build_line line.now)) other → FromFirst log (rule_for p) (record { heap = h; reader = r; wire = w }) Q → Q rule_for
    from_first h line p other Q is named q =
        let m = first_found (Some line) is in
        q rule_for m.0.used' m.0.line (suits_named line.now m.0.line p other (m.1 ∙ m.0.head) named) m.0.stands m.0.lines m.0.head
