-- What each refusal tells: its number, the layer that refuses, and the place of the byte or field at fault.
use Rattle.std.specs.Prelude.{ℕ}
use Rattle.market.specs.declared.refusal.Layer.{Layer}
use Rattle.market.specs.declared.refusal.Layer.TheVariants as layer
use Rattle.market.specs.declared.refusal.Refusal.{Refusal}
use Rattle.market.specs.declared.refusal.Refusal.TheVariants.{Byte, Field, Band, Phase, Participant, Unknown, Order, Quantity, Price, Crossed, Legs, CombinationsSpent, NumbersSpent, BookFull, ReportFull}
use Rattle.market.specs.declared.refusal.RefusalCode.{RefusalCode}

-- a number, a layer and a place
abbrev pub told : ℕ → Layer → ℕ → RefusalCode
told n l p = record { number = n; layer = l; place = p }

-- the number, the layer and the place of each refusal
abbrev pub refusal_code : Refusal → RefusalCode
-- a byte that is no digit, capital, minus or space, or a line that is too long
refusal_code (Byte p) = told 1 layer.Line p
-- a field missing, surplus or not of its kind
refusal_code (Field p) = told 2 layer.Line p
-- a price band that is broken
refusal_code (Band p) = told 3 layer.Gate p
-- the phase forbids the call
refusal_code Phase = told 4 layer.Gate 0
-- no such participant
refusal_code Participant = told 5 layer.Gate 1
-- no such instrument or combination
refusal_code (Unknown p) = told 6 layer.Gate p
-- no such order of this participant, quotes apart
refusal_code Order = told 7 layer.Gate 2
-- a quantity out of range
refusal_code (Quantity p) = told 8 layer.Gate p
-- a price outside its band
refusal_code (Price p) = told 9 layer.Gate p
-- a quote whose bid is not below its offer
refusal_code Crossed = told 10 layer.Gate 6
-- legs that no combination may have
refusal_code (Legs p) = told 11 layer.Gate p
-- the combination would be new, and 32 exist
refusal_code CombinationsSpent = told 12 layer.Gate 0
-- a number over 99,999 is needed
refusal_code NumbersSpent = told 13 layer.Book 0
-- an order is to rest, and the book is full
refusal_code BookFull = told 14 layer.Book 0
-- more rows than the report has
refusal_code ReportFull = told 15 layer.Book 0

-- the layer's own number: 1 line, 2 gate, 3 book
abbrev pub layer_number : Layer → ℕ
layer_number layer.Line = 1
layer_number layer.Gate = 2
layer_number layer.Book = 3
