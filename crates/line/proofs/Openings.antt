-- The bytes of a line, and the letter that opens a call.
use Rattle.std.proofs.Common.{◌≡◌, ℕ, ◌<◌, ◌≤◌, Bool, true, false, cond, ltb, List, [], ◌∷◌, length, Ok, Err, Result, sym, refl, ap, ◌∙◌, arith}
use Rattle.std.proofs.lemmas.Bool.{le-ltb, lt-ltb, cond-true, cond-false}
use Rattle.market.specs.declared.call.Call.{Call}
use Rattle.market.specs.declared.refusal.Refusal.{Refusal}
use Rattle.market.specs.declared.refusal.Refusal.TheVariants.{Byte, Field}
use Rattle.line.specs.Bytes.{clean, fields_of, first}
use Rattle.line.specs.Numbers.{lone_capital, code}
use Rattle.line.specs.Kinds.{letter_among, among, fits, opens, Form, answer, read_as}
use Rattle.line.specs.CallLines.{call_letters, form_of_letter, call_form}
use Rattle.line.specs.Verdicts.{read_line, Read}
use Rattle.line.specs.Cursors.{rest, read_rest, Begins, Took}
use Rattle.line.specs.declared.cursor.Cursor.{Cursor}
use Rattle.line.proofs.Judging.{as_read}

module _ {X : Type 0} (form : List (List ℕ) → Form X) (line : List ℕ) where
  -- a byte is at fault
  pub stopped : clean line < length line → read_line form line ≡ Err (Byte (clean line))
  stopped h = cond-true (ltb (clean line) (length line)) _ _ (lt-ltb (clean line) (length line) h)

  -- no byte is at fault
  checked : length line ≤ clean line → read_line form line ≡ read_as (form (fields_of line)) (fields_of line) 0
  checked h = cond-false (ltb (clean line) (length line)) _ _ (le-ltb (clean line) (length line) h)

  pub no_start : (e : Refusal) → Begins line (Err e) → Read form line (Err e)
  no_start e h = as_read form line _ (ap Err h.1 ∙ sym (stopped h.0))

  pub from_start : (s : Cursor) (r : Result X Refusal) → Begins line (Ok s) → r ≡ read_rest form s → Read form line r
  from_start s r h e = as_read form line r (e ∙ (λ j. read_as (form (h.1 j)) (h.1 j) (h.2 j)) ∙ sym (checked h.0))

opened : (cs : List ℕ) (fs : List (List ℕ)) → opens lone_capital fs ≡ true → opens (fits (letter_among cs)) fs ≡ among (code (first fs)) cs
opened cs [] h = absurd (let z : ◌≡◌ {A = ℕ} 0 1 = cc in omega arith)
opened cs (f ∷ fs) h = rw h refl

closed : (cs : List ℕ) (fs : List (List ℕ)) → opens lone_capital fs ≡ false → opens (fits (letter_among cs)) fs ≡ false
closed cs [] h = refl
closed cs (f ∷ fs) h = rw h refl

-- no call's letter stands in front
unopened : (s : Cursor) → opens (fits (letter_among call_letters)) (rest s) ≡ false → read_rest call_form s ≡ Err (Field s.index)
unopened s e = ap (λ o. answer o (call_form (rest s)).value) (cond-false (opens (fits (letter_among call_letters)) (rest s)) _ _ e)

module _ (s t : Cursor) where
  -- the first field is no letter
  pub no_letter : (e : Refusal) → Took lone_capital code s (Err e) t → Err e ≡ read_rest call_form s
  no_letter e h = ap Err h.1 ∙ sym (unopened s (closed call_letters (rest s) h.0))

  -- the first field is a letter, and the rest is read as it asks
  pub by_letter : (v : ℕ) (r : Result Call Refusal) → s.index ≡ 0 → Took lone_capital code s (Ok v) t → r ≡ cond (among v call_letters) (read_rest (form_of_letter v) t) (Err (Field 0)) → r ≡ read_rest call_form s
  by_letter v r zero h e = e ∙ go (among v call_letters) asked
    where
      asked : opens (fits (letter_among call_letters)) (rest s) ≡ among v call_letters
      asked = opened call_letters (rest s) h.0 ∙ ap (λ x. among x call_letters) (sym h.1)

      go : (b : Bool) → opens (fits (letter_among call_letters)) (rest s) ≡ b → cond b (read_rest (form_of_letter v) t) (Err (Field 0)) ≡ read_rest call_form s
      go true is = (λ j. read_as (form_of_letter (h.1 j) (h.2 j)) (h.2 j) (h.3 j)) ∙ ap (λ o. answer o (call_form (rest s)).value) (sym (cond-true (opens (fits (letter_among call_letters)) (rest s)) _ _ is))
      go false is = ap (λ n. Err (Field n)) (sym zero) ∙ sym (unopened s is)
