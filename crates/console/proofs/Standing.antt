-- How a session stands after each step of its reader.
use Rattle.std.proofs.Common.{◌≡◌, ℕ, ◌+◌, ◌-◌, true, false, cond, List, [], ◌∷◌, ◌++◌, map, length, take, drop, vec_items, Ok, Option, is_some, Result, IfOk, sym, refl, ap, ◌∙◌, subst, arith}
use mathlib.Core.Path.{transport}
use Rattle.std.proofs.lemmas.List.{length-take, length-drop, append_assoc, append-nil, drop-drop, drop-take, take-append-drop}
use Rattle.std.proofs.lemmas.Result.{IfOk-at_ok}
use Rattle.console.specs.declared.buffered.BufferedWire.{BufferedWire}
use Rattle.console.specs.declared.reader.LineReader.{LineReader}
use Rattle.market.specs.declared.product.Product.{Product}
use Rattle.console.specs.Sessions.{Ready}
use Rattle.console.specs.Wires.{Event, Took, Gave, taken, given}
use Rattle.console.specs.Cuts.{start, used_by, Fed, Cuts}
use Rattle.console.specs.Lines.{closed_lines, open_line, has_newline, before_newline}
use Rattle.console.specs.Reading.{unread, Stands, Keeps, OneMore, Still}
use Rattle.console.proofs.Feeds.{held, grows, stays, cut_feeds}

-- nothing is unread where the block is used up
pub none_unread : (r : LineReader) → r.at ≡ r.end → unread r ≡ []
none_unread r e = ap (λ n. take n (drop r.at (vec_items r.block))) (let z : r.end - r.at ≡ 0 = omega arith in z)

-- the end of a block is as far on as its unread bytes are many
pub all_used : (r : LineReader) → r.end ≡ r.at + length (unread r)
all_used r = omega (arith, r.ordered, r.inside, length-take (r.end - r.at) (drop r.at (vec_items r.block)), length-drop r.at (vec_items r.block))

-- the front of a block that was just read
pub front_unread : (n : ℕ) (block : List ℕ) → take (n - 0) (drop 0 block) ≡ take n block
front_unread n block = ap (λ k. take k block) (let z : n - 0 ≡ n = omega arith in z)

-- what waited is written
pub flushed : {W : Type 0} {rules : Product → List ℕ → ℕ → List ℕ} {log : W → List Event → Type 0} {r : LineReader} {w w' : BufferedWire W} {used text : List ℕ} → ((events : List Event) → log w.wire.now events → log w'.wire.now (Gave (vec_items w.text) ∷ events)) → vec_items w'.text ≡ [] → Stands rules log r w used text → Stands rules log r w' used text
flushed {w = w} logged empty s =
    let all = given s.events ++ vec_items w.text in
    record {
      events = Gave (vec_items w.text) ∷ s.events;
      logged = logged s.events s.logged;
      cut = s.cut;
      holds = s.holds;
      buffered = s.buffered ∙ sym (append-nil all) ∙ ap (λ o. all ++ o) (sym empty);
      prompt = s.prompt;
    }

-- what waited is written and then more is read: it stands behind what was used, and the read is prompt
pub read_keeps : {W : Type 0} (log : W → List Event → Type 0) (r r' : LineReader) (w w' : BufferedWire W) (fresh : List ℕ) → unread r ≡ [] → unread r' ≡ fresh → r'.cutter ≡ r.cutter → vec_items w'.text ≡ [] → ((events : List Event) → log w.wire.now events → log w'.wire.now (Took fresh ∷ Gave (vec_items w.text) ∷ events)) → Keeps log r w r' w'
read_keeps log r r' w w' fresh none some same empty logged rules used text reply s =
    let all : taken s.events ≡ used = s.cut ∙ ap (λ l. used ++ l) none ∙ append-nil used in
    let told = given s.events ++ vec_items w.text in
    record {
      events = Took fresh ∷ Gave (vec_items w.text) ∷ s.events;
      logged = logged s.events s.logged;
      cut = ap (λ l. l ++ fresh) all ∙ ap (λ l. used ++ l) (sym some);
      holds = ap (λ c. cond c.complete [] (vec_items c.line)) same ∙ s.holds;
      buffered = s.buffered ∙ sym (append-nil told) ∙ ap (λ o. told ++ o) (sym empty);
      prompt = (transport (λ i. Ready rules (closed_lines (sym all i)) (s.buffered i)) reply, s.prompt);
    }

-- ---- a cut

-- the unread bytes are cut once; what the cut used is no longer unread
pub record CutOn (before : LineReader) (cut : Option ℕ) (after : LineReader) : Type 0 where
  pub cuts : Cuts before.cutter (unread before) cut after.cutter
  pub moves : after.at ≡ before.at + used_by cut (unread before)
  pub stays : after.end ≡ before.end
  pub block : after.block ≡ before.block

module _ (r r' : LineReader) (cut : Option ℕ) (on : CutOn r cut r') where
  -- what the cut used, and what is then unread, were unread
  unread-parts : unread r ≡ take (used_by cut (unread r)) (unread r) ++ unread r'
  unread-parts =
      let k = used_by cut (unread r) in
      let xs = vec_items r.block in
      let m = r'.end - r'.at in
      let whole : r.end - r.at ≡ k + m = omega (arith, on.moves, on.stays, r'.ordered) in
      let rest : unread r' ≡ drop k (unread r) =
      (λ i. take m (drop (on.moves i) (vec_items (on.block i))))
      ∙ ap (take m) (sym (drop-drop k r.at xs))
      ∙ sym (drop-take k m (drop r.at xs))
      ∙ ap (λ n. drop k (take n (drop r.at xs))) (sym whole)
      in
      sym (ap (λ t. take k (unread r) ++ t) rest ∙ take-append-drop k (unread r))

  module _ {W : Type 0} (rules : Product → List ℕ → ℕ → List ℕ) (log : W → List Event → Type 0) (w : BufferedWire W) (used text : List ℕ) (s : Stands rules log r w used text) where
    fed : Fed r.cutter used (map start (closed_lines used))
    fed = record { lines = refl; rest = s.holds }

    abbrev after : List ℕ
    after = used ++ take (used_by cut (unread r)) (unread r)

    cut_stands : Stands rules log r' w after text
    cut_stands =
        record {
          events = s.events;
          logged = s.logged;
          cut = s.cut ∙ ap (λ l. used ++ l) unread-parts ∙ sym (append_assoc used (take (used_by cut (unread r)) (unread r)) (unread r'));
          holds = (cut_feeds r.cutter r'.cutter (unread r) cut on.cuts used (map start (closed_lines used)) fed).rest;
          buffered = s.buffered;
          prompt = s.prompt;
        }

    pub cut_found : is_some cut ≡ true → OneMore rules log r' w used text
    cut_found e =
        let found : has_newline (unread r) ≡ true = sym on.cuts.closed ∙ e in
        record {
          used' = after;
          line = open_line used ++ before_newline (unread r);
          stands = cut_stands;
          lines = grows r.cutter r'.cutter (unread r) cut on.cuts used (map start (closed_lines used)) fed found;
          head = held r.cutter r'.cutter (unread r) cut on.cuts used (map start (closed_lines used)) fed;
        }

    pub cut_none : is_some cut ≡ false → Still rules log r' w used text
    cut_none e =
        let none : has_newline (unread r) ≡ false = sym on.cuts.closed ∙ e in
        record { used' = after; stands = cut_stands; lines = stays r.cutter r'.cutter (unread r) cut on.cuts used (map start (closed_lines used)) fed none }

-- ---- one step after the other

module _ {W : Type 0} {rules : Product → List ℕ → ℕ → List ℕ} {log : W → List Event → Type 0} {r : LineReader} {w : BufferedWire W} {used : List ℕ} (text : List ℕ) where
  pub still_reply : (s : Still rules log r w used text) → Ready rules (closed_lines used) text → Ready rules (closed_lines s.used') text
  still_reply s reply = subst (λ ls. Ready rules ls text) (sym s.lines) reply

  pub still_then : {r' : LineReader} {w' : BufferedWire W} → Keeps log r w r' w' → Ready rules (closed_lines used) text → Still rules log r w used text → Still rules log r' w' used text
  still_then k reply s = record { used' = s.used'; stands = k rules s.used' text (still_reply s reply) s.stands; lines = s.lines }

  pub found_then : (used' : List ℕ) → closed_lines used' ≡ closed_lines used → OneMore rules log r w used' text → OneMore rules log r w used text
  found_then used' e m = record { used' = m.used'; line = m.line; stands = m.stands; lines = m.lines ∙ ap (λ ls. ls ++ (m.line ∷ [])) e; head = m.head }

  pub none_then : (used' : List ℕ) → closed_lines used' ≡ closed_lines used → Still rules log r w used' text → Still rules log r w used text
  none_then used' e m = record { used' = m.used'; stands = m.stands; lines = m.lines ∙ e }

-- what is known of a call's value, once it is known
pub found_as : {X E : Type 0} {r : Result X E} {o x : X} (P : X → Type 0) → r ≡ Ok o → o ≡ x → IfOk r P → P x
found_as P was is h = subst P is (IfOk-at_ok P was h)
