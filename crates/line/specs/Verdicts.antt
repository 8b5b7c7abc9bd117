-- What a line is: a call or a build line, or a refusal with its place.
use Rattle.std.specs.Prelude.{◌≡◌, ℕ, ◌+◌, ◌*◌, ◌<◌, ◌≤◌, Bool, true, false, cond, List, ◌∷◌, length, Some, None, Ok, Err, Option, Result, ◌==◌, nat_lt, slice_index}
use Rattle.std.specs.List.{flat_map, All, slice_get}
use Rattle.market.specs.Refusals.{refusal_code}
use Rattle.market.specs.declared.call.Call.{Call}
use Rattle.market.specs.declared.product.Product.{Product}
use Rattle.market.specs.declared.refusal.Refusal.{Refusal}
use Rattle.market.specs.declared.refusal.Refusal.TheVariants.{Byte, Field}
use Rattle.line.specs.Bytes.{letter, allowed, longest, clean, fields_of}
use Rattle.line.specs.Kinds.{Kind, fits, Form, read_as}
use Rattle.line.specs.CallLines.{call_form}
use Rattle.line.specs.BuildLines.{build_form}
use Rattle.line.specs.declared.bands.BuildLine.{BuildLine}

-- a line whose fields should have a form: refused for a byte first, and then for a field
abbrev pub read_line : {X : Type 0} → (List (List ℕ) → Form X) → List ℕ → Result X Refusal
read_line form line = cond (nat_lt (clean line) (length line)) (Err (Byte (clean line))) (read_as (form (fields_of line)) (fields_of line) 0)

-- the call that a line makes
abbrev pub line_call : List ℕ → Result Call Refusal
line_call line = read_line call_form line

-- what a build line says
abbrev pub build_line : List ℕ → Result BuildLine Refusal
build_line line = read_line build_form line

-- the product that a build line names
abbrev pub product_named : Result BuildLine Refusal → Option Product
product_named (Ok b) = Some b.product
product_named (Err e) = None

-- 0 for a call, and else the refusal's number times 10,000 and its place
abbrev pub check_code : Result Call Refusal → ℕ
check_code (Ok call) = 0
check_code (Err e) = (refusal_code e).number * 10000 + (refusal_code e).place

-- a line of allowed bytes that is not too long
pub record Clean (line : List ℕ) : Type 0 where
  pub short : length line ≤ longest
  pub bytes : (i : ℕ) → i < length line → allowed (slice_index line i) ≡ true

-- p is the place of the first byte that is not allowed, or of the first byte too many
pub record BadByte (line : List ℕ) (p : ℕ) : Type 0 where
  pub inside : p < length line
  pub limit : p ≤ longest
  pub before : (j : ℕ) → j < p → allowed (slice_index line j) ≡ true
  pub here : p < longest → allowed (slice_index line p) ≡ false

-- each behind a space, the fields are the line behind a space, and no field has a space in it
pub record Parted (line : List ℕ) (fields : List (List ℕ)) : Type 0 where
  pub whole : flat_map (λ f. letter " " ∷ f) fields ≡ letter " " ∷ line
  pub plain : All (All (λ b. (b == (letter " ")) ≡ false)) fields

-- a kind and a field at one place: both there and fitting, or neither there
abbrev pub agree : Option Kind → Option (List ℕ) → Bool
agree None None = true
agree None (Some f) = false
agree (Some k) None = false
agree (Some k) (Some f) = fits k f

-- the field at a place is as the kinds ask
abbrev pub as_asked : List Kind → List (List ℕ) → ℕ → Bool
as_asked ks fs i = agree (slice_get ks i) (slice_get fs i)

-- i is the first place with a field that is missing, surplus or not of its kind
pub record FirstMisfit (ks : List Kind) (fs : List (List ℕ)) (i : ℕ) : Type 0 where
  pub here : as_asked ks fs i ≡ false
  pub before : (j : ℕ) → j < i → as_asked ks fs j ≡ true

-- what a verdict on a line says, of the kinds that its fields should have
pub data Judged {X : Type 0} (form : List (List ℕ) → Form X) (line : List ℕ) : Result X Refusal → Type 0 where
  -- a bad byte is refused at its place, whatever the fields are
  bad_byte : (p : ℕ) → BadByte line p → Judged form line (Err (Byte p))
  -- a clean line is refused at the first field that is not as asked
  bad_field : (i : ℕ) → Clean line → FirstMisfit (form (fields_of line)).kinds (fields_of line) i → Judged form line (Err (Field i))
  -- a clean line with every field as asked says what its fields say
  sound : Clean line → ((i : ℕ) → as_asked (form (fields_of line)).kinds (fields_of line) i ≡ true) → Judged form line (Ok (form (fields_of line)).value)

-- a line is read by a form: what it is, what that says of its bytes and fields, and how its fields stand in it
pub record Read {X : Type 0} (form : List (List ℕ) → Form X) (line : List ℕ) (r : Result X Refusal) : Type 0 where
  pub value : r ≡ read_line form line
  pub judged : Judged form line r
  pub parted : Parted line (fields_of line)
