-- The kinds that fields should have, and the first field at fault.
use Rattle.std.specs.Prelude.{◌≡◌, ℕ, zero, suc, ◌+◌, Bool, true, false, cond, ◌&&◌, ◌||◌, List, [], ◌∷◌, Some, None, Ok, Err, Option, Result, ◌==◌, nat_le}
use Rattle.std.specs.List.{list_any}
use Rattle.market.specs.declared.refusal.Refusal.{Refusal}
use Rattle.market.specs.declared.refusal.Refusal.TheVariants.{Field}
use Rattle.line.specs.Bytes.{first, others}
use Rattle.line.specs.Numbers.{unsigned, minus, decimal, lone_capital, code}

-- what a field should be
pub data Kind : Type 0 where
  -- one of these letters
  letter_among : List ℕ → Kind
  -- a number without a minus
  plain_number : Kind
  -- a number, with a minus or without
  signed_number : Kind
  -- a number without a minus, from the first bound to the second
  number_within : ℕ → ℕ → Kind

-- the code is one of a list
abbrev pub among : ℕ → List ℕ → Bool
among b cs = list_any (λ c. b == c) cs

-- what a letter names, where letters name values
abbrev pub Means : {X : Type 0} → List ℕ → (ℕ → X) → ℕ → Option X → Type 0
Means letters by b None = among b letters ≡ false
Means letters by b (Some x) = (among b letters ≡ true) × (x ≡ by b)

-- a field is of a kind
abbrev pub fits : Kind → List ℕ → Bool
fits (letter_among cs) f = lone_capital f && among (code f) cs
fits plain_number f = unsigned f
fits signed_number f = unsigned f || minus f
fits (number_within low high) f = unsigned f && (nat_le low (decimal f) && nat_le (decimal f) high)

-- there is a first field, and it passes a test
abbrev pub opens : (List ℕ → Bool) → List (List ℕ) → Bool
opens p [] = false
opens p (f ∷ fs) = p f

-- there is no field
abbrev pub none_left : List (List ℕ) → Bool
none_left [] = true
none_left (f ∷ fs) = false

-- the place of the first field that is missing, surplus or not of its kind, where the first field has place n
abbrev pub misfit : List Kind → List (List ℕ) → ℕ → Option ℕ
misfit [] fs n = cond (none_left fs) None (Some n)
misfit (k ∷ ks) fs n = cond (opens (fits k) fs) (misfit ks (others fs) (n + 1)) (Some n)

-- the field at a place, counted from 0
abbrev pub field_at : ℕ → List (List ℕ) → List ℕ
field_at zero fs = first fs
field_at (suc n) fs = field_at n (others fs)

-- the kinds that fields should have, and what fields of these kinds say
pub record Form (X : Type 0) : Type 0 where
  pub kinds : List Kind
  pub value : X

-- what fields of these kinds say
abbrev pub says : {X : Type 0} → List Kind → X → Form X
says ks x = record { kinds = ks; value = x }

-- what the fields say, or a refusal at the first that is at fault
abbrev pub answer : {X : Type 0} → Option ℕ → X → Result X Refusal
answer None x = Ok x
answer (Some place) x = Err (Field place)

-- fields read by a form, where the first field has place n
abbrev pub read_as : {X : Type 0} → Form X → List (List ℕ) → ℕ → Result X Refusal
read_as form fs n = answer (misfit form.kinds fs n) form.value
