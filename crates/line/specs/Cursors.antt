-- What is left of a line to a cursor, and what a step takes from it.
use Rattle.std.specs.Prelude.{◌≡◌, ℕ, ◌+◌, ◌<◌, ◌≤◌, Bool, true, false, cond, not, ◌||◌, List, [], length, drop, Some, None, Ok, Err, Option, Result, ◌==◌, nat_le}
use Rattle.market.specs.declared.refusal.Refusal.{Refusal}
use Rattle.market.specs.declared.refusal.Refusal.TheVariants.{Byte as refused_byte, Field as refused_field}
use Rattle.line.specs.Bytes.{letter, clean, fields_of, first, others}
use Rattle.line.specs.Numbers.{unsigned, minus, decimal, signed, lone_capital, code}
use Rattle.line.specs.Kinds.{opens, none_left, Form, read_as}
use Rattle.line.specs.declared.cursor.Cursor.{Cursor}
use Rattle.line.specs.declared.cursor.Placed.{Placed}
use Rattle.line.specs.declared.field.Field.{Field}
use Rattle.line.specs.declared.field.Field.TheVariants.{Letter, Number, Bad}

-- any byte but a space
abbrev pub solid : ℕ → Bool
solid b = not (b == (letter " "))

-- the value of bytes that pass a test for numbers, or nothing
abbrev pub Valued : (List ℕ → Bool) → List ℕ → Option ℕ → Type 0
Valued p bs None = p bs ≡ false
Valued p bs (Some n) = (p bs ≡ true) × (n ≡ decimal bs) × (n < 1000000000)

-- what bytes that pass a test are worth, or nothing
abbrev pub Gives : {X : Type 0} → (List ℕ → Bool) → (List ℕ → X) → List ℕ → Option X → Type 0
Gives p value bs None = p bs ≡ false
Gives p value bs (Some x) = (p bs ≡ true) × (x ≡ value bs)

-- the bytes of a field, as they are read
abbrev pub Reads : List ℕ → Field → Type 0
Reads bs (Letter c) = (lone_capital bs ≡ true) × (c ≡ code bs)
Reads bs (Number n) = (unsigned bs || minus bs ≡ true) × (n ≡ signed bs)
Reads bs (Bad r) = (r.now ≡ bs) × (lone_capital bs ≡ false) × (minus bs ≡ false) × (unsigned bs ≡ false)

-- the fields that begin at a place of a line; none past its end
abbrev pub left : List ℕ → ℕ → List (List ℕ)
left line at = cond (nat_le at (length line)) (fields_of (drop at line)) []

-- the fields left to a cursor
abbrev pub rest : Cursor → List (List ℕ)
rest c = left c.line.now c.at

-- a cursor at the first field of a line of allowed bytes, or a refusal at the first byte that is not
abbrev pub Begins : List ℕ → Result Cursor Refusal → Type 0
Begins line (Ok c) = (length line ≤ clean line) × (rest c ≡ fields_of line) × (c.index ≡ 0)
Begins line (Err e) = (clean line < length line) × (e ≡ refused_byte (clean line))

-- the fields left to a cursor, read by a form
abbrev pub read_rest : {X : Type 0} → (List (List ℕ) → Form X) → Cursor → Result X Refusal
read_rest form c = read_as (form (rest c)) (rest c) c.index

-- one field taken, with its place in the line
abbrev pub Next : Cursor → Option Placed → Cursor → Type 0
Next s None t = (none_left (rest s) ≡ true) × (t.index ≡ s.index)
Next s (Some p) t =
    (none_left (rest s) ≡ false) × Reads (first (rest s)) p.field × (p.offset ≡ s.at)
    × (rest t ≡ others (rest s)) × (t.index ≡ s.index + 1)

-- the next field passes a test and gives its value, or is refused at its place
abbrev pub Took : {X : Type 0} → (List ℕ → Bool) → (List ℕ → X) → Cursor → Result X Refusal → Cursor → Type 0
Took p value s (Ok v) t = (opens p (rest s) ≡ true) × (v ≡ value (first (rest s))) × (rest t ≡ others (rest s)) × (t.index ≡ s.index + 1)
Took p value s (Err e) t = (opens p (rest s) ≡ false) × (e ≡ refused_field s.index)

-- no field is left, or the next is refused as surplus
abbrev pub Ended : {X : Type 0} → Cursor → Result X Refusal → Type 0
Ended s (Ok u) = none_left (rest s) ≡ true
Ended s (Err e) = (none_left (rest s) ≡ false) × (e ≡ refused_field s.index)
