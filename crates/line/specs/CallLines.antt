-- The lines of the calls: which fields follow the opening letter, and what they say.
use Rattle.std.specs.Prelude.{ℕ, cond, List, [], ◌∷◌, codes, ◌==◌}
use Rattle.market.specs.declared.call.Call.{Call}
use Rattle.market.specs.declared.call.Call.TheVariants.{Enter, Amend, Cancel, Quote, Define, Switch}
use Rattle.market.specs.declared.call.Duration.{Duration}
use Rattle.market.specs.declared.call.Duration.TheVariants.{Day, Immediate, FillOrKill}
use Rattle.market.specs.declared.leg.Leg.{Leg}
use Rattle.market.specs.declared.phase.Event.{Event}
use Rattle.market.specs.declared.phase.Event.TheVariants.{Open, Halt, Resume, Close}
use Rattle.market.specs.declared.price.Price.{Price}
use Rattle.market.specs.declared.side.Side.{Side}
use Rattle.market.specs.declared.side.Side.TheVariants.{Buy, Sell}
use Rattle.market.specs.Legs.{legs_named}
use Rattle.line.specs.Bytes.{letter, first, others}
use Rattle.line.specs.Numbers.{decimal, signed, code}
use Rattle.line.specs.Kinds.{letter_among, plain_number, signed_number, number_within, Form, says, field_at}
use Rattle.line.specs.Runs.{two_runs, from_runs}

-- a buyer's letter, then a seller's
abbrev pub side_letters : List ℕ
side_letters = codes "BS"

-- the side of a letter
abbrev pub side_by : ℕ → Side
side_by b = cond (b == (letter "B")) Buy Sell

-- the side of a field
abbrev pub side_of : List ℕ → Side
side_of f = side_by (code f)

-- for the day, immediate, whole or not at all
abbrev pub duration_letters : List ℕ
duration_letters = codes "DIF"

-- the duration of a letter
abbrev pub duration_by : ℕ → Duration
duration_by b = cond (b == (letter "D")) Day (cond (b == (letter "I")) Immediate FillOrKill)

-- the duration of a field
abbrev pub duration_of : List ℕ → Duration
duration_of f = duration_by (code f)

-- open, halt, resume, close
abbrev pub event_letters : List ℕ
event_letters = codes "OHRX"

-- the event of a letter
abbrev pub event_by : ℕ → Event
event_by b = cond (b == (letter "O")) Open (cond (b == (letter "H")) Halt (cond (b == (letter "R")) Resume Close))

-- the event of a field
abbrev pub event_of : List ℕ → Event
event_of f = event_by (code f)

-- the price of a field
abbrev pub price_of : List ℕ → Price
price_of f = record { 0 = signed f }

-- the leg of an instrument and a field with its ratio
abbrev pub leg_from : ℕ → List ℕ → Leg
leg_from instrument f = record { instrument = instrument; ratio = signed f }

-- k legs from k instruments and then k ratios
abbrev pub legs_of : ℕ → List (List ℕ) → List Leg
legs_of k fs = from_runs leg_from k fs

-- E: participant, book, side, quantity, price, duration
abbrev pub enter_form : List (List ℕ) → Form Call
enter_form fs =
    says (plain_number ∷ plain_number ∷ letter_among side_letters ∷ plain_number ∷ signed_number ∷ letter_among duration_letters ∷ [])
    (Enter (decimal (field_at 0 fs)) (decimal (field_at 1 fs)) (side_of (field_at 2 fs)) (decimal (field_at 3 fs)) (price_of (field_at 4 fs)) (duration_of (field_at 5 fs)))

-- A: participant, order number, quantity, price
abbrev pub amend_form : List (List ℕ) → Form Call
amend_form fs =
    says (plain_number ∷ plain_number ∷ plain_number ∷ signed_number ∷ [])
    (Amend (decimal (field_at 0 fs)) (decimal (field_at 1 fs)) (decimal (field_at 2 fs)) (price_of (field_at 3 fs)))

-- C: participant, order number
abbrev pub cancel_form : List (List ℕ) → Form Call
cancel_form fs =
    says (plain_number ∷ plain_number ∷ [])
    (Cancel (decimal (field_at 0 fs)) (decimal (field_at 1 fs)))

-- Q: participant, book, quantity and price of the bid, quantity and price of the offer
abbrev pub quote_form : List (List ℕ) → Form Call
quote_form fs =
    says (plain_number ∷ plain_number ∷ plain_number ∷ signed_number ∷ plain_number ∷ signed_number ∷ [])
    (Quote (decimal (field_at 0 fs)) (decimal (field_at 1 fs)) (decimal (field_at 2 fs)) (price_of (field_at 3 fs)) (decimal (field_at 4 fs)) (price_of (field_at 5 fs)))

-- D: participant, the number k of legs, k instruments, k ratios
abbrev pub define_form : List (List ℕ) → Form Call
define_form fs =
    says (plain_number ∷ number_within 2 10 ∷ two_runs (decimal (field_at 1 fs)) plain_number signed_number)
    (Define (decimal (field_at 0 fs)) (legs_named (legs_of (decimal (field_at 1 fs)) (others (others fs)))))

-- P: event
abbrev pub switch_form : List (List ℕ) → Form Call
switch_form fs = says (letter_among event_letters ∷ []) (Switch (event_of (field_at 0 fs)))

-- the letters that open a call
abbrev pub call_letters : List ℕ
call_letters = codes "EACQDP"

-- the form of the fields after the opening letter; the last is that of P, since a letter of no call is refused
abbrev pub form_of_letter : ℕ → List (List ℕ) → Form Call
form_of_letter c fs =
    cond (c == (letter "E")) (enter_form fs)
    (cond (c == (letter "A")) (amend_form fs)
    (cond (c == (letter "C")) (cancel_form fs)
    (cond (c == (letter "Q")) (quote_form fs)
    (cond (c == (letter "D")) (define_form fs) (switch_form fs)))))

-- a letter in front of a form
abbrev pub opened_by : List ℕ → Form Call → Form Call
opened_by cs form = says (letter_among cs ∷ form.kinds) form.value

-- the form of a call's line
abbrev pub call_form : List (List ℕ) → Form Call
call_form fs = opened_by call_letters (form_of_letter (code (first fs)) (others fs))
