-- What is printed, byte for byte. `decimal n` and `signed_decimal z` are what a hole `{n}` writes of a number.
use Rattle.std.specs.Prelude.{◌≡◌, ℕ, ◌<◌, cond, List, [], ◌∷◌, ◌++◌, ℤ, Ok, Err, codes, length, decimal, Result, ◌==◌}
use Rattle.std.specs.Fmt.{signed_decimal}
use Rattle.market.specs.declared.refusal.Refusal.{Refusal}
use Rattle.market.specs.declared.refusal.RefusalCode.{RefusalCode}
use Rattle.market.specs.declared.row.Row.{Row}
use Rattle.market.specs.Refusals.{refusal_code, layer_number}
use Rattle.market.specs.Rows.{kind_number, kind_letter}

-- a number after a space
abbrev pub field : ℕ → List ℕ
field n = 32 ∷ decimal n

-- a price after a space, with a minus below 0
abbrev pub price_field : ℤ → List ℕ
price_field z = 32 ∷ signed_decimal z

-- a newline closes a line
abbrev pub newline : List ℕ
newline = 10 ∷ []

-- `ok` and the two numbers of an accepted call
abbrev pub accepted_text : ℕ × ℕ → List ℕ
accepted_text a = codes "ok" ++ field a.0 ++ field a.1 ++ newline

-- `no`, then the refusal's number, its layer's number, and the place at fault
abbrev pub refused_text : RefusalCode → List ℕ
refused_text c = codes "no" ++ field c.number ++ field (layer_number c.layer) ++ field c.place ++ newline

-- the line that answers a call
abbrev pub answer_text : Result (ℕ × ℕ) Refusal → List ℕ
answer_text (Ok a) = accepted_text a
answer_text (Err e) = refused_text (refusal_code e)

-- a row's line: the letter of its kind, the fill, the book, the quantity, the price with its sign, the buyer, the seller
abbrev pub row_text : Row → List ℕ
row_text row =
    kind_letter row.kind ∷ field row.fill ++ field row.book ++ field row.quantity ++ price_field row.price.0
    ++ field row.buyer ++ field row.seller ++ newline

-- the lines of the rows up to the first blank one, in order
abbrev pub report_text : List Row → List ℕ
report_text [] = []
report_text (row ∷ rows) = cond (kind_number row.kind == 0) [] (row_text row ++ report_text rows)

-- the beginning of a text, and not all of it
abbrev pub CutShort : List ℕ → List ℕ → Type 0
CutShort part whole = (rest : List ℕ) × (0 < length rest) × (part ++ rest ≡ whole)
