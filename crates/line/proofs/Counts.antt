-- How many bands a build line gives, and how many legs a define line names.
use Rattle.std.proofs.Common.{◌≡◌, ℕ, suc, ◌≤◌, true, List, [], ◌∷◌, length, drop, Ok, Result, sym, refl, ap, ◌∙◌, arith, length-take, length-append}
use Rattle.std.proofs.lemmas.Bool.Decides.{nat_tests}
use Rattle.std.proofs.lemmas.List.{length-replicate}
use Rattle.market.specs.declared.call.Call.TheVariants.{Define}
use Rattle.market.specs.declared.leg.Leg.{Leg}
use Rattle.market.specs.declared.legs.Legs.{Legs}
use Rattle.market.specs.declared.refusal.Refusal.{Refusal}
use Rattle.market.specs.Legs.{listed, legs_named}
use Rattle.line.specs.Bytes.{first, others, fields_of}
use Rattle.line.specs.Kinds.{Kind, letter_among, plain_number, signed_number, number_within, Form, field_at}
use Rattle.line.specs.Numbers.{decimal, code}
use Rattle.line.specs.Runs.{two_runs, each, places, numbers, from_runs}
use Rattle.line.specs.CallLines.{call_letters, call_form, form_of_letter, define_form, leg_from, legs_of}
use Rattle.line.specs.BuildLines.{product_letters, build_form, band_from}
use Rattle.line.specs.Gateways.{bands_given, CountsBands, CountsLegs}
use Rattle.line.specs.Verdicts.{as_asked, Judged, bad_byte, bad_field, sound}
use Rattle.line.proofs.Judging.{reads}

-- as many elements as there are parts
length-each : {A X : Type 0} (f : A → List ℕ → X) (ps : List A) (fs : List (List ℕ)) → length (each f ps fs) ≡ length ps
length-each f [] fs = refl
length-each f (p ∷ ps) fs = ap suc (length-each f ps (others fs))

-- n elements of two runs of n fields
length-from_runs : {X : Type 0} (f : ℕ → List ℕ → X) (n : ℕ) (fs : List (List ℕ)) → length (from_runs f n fs) ≡ n
length-from_runs f n fs = length-each f (numbers n fs) (drop n fs) ∙ length-each (λ _ x. decimal x) (places n) fs ∙ length-replicate n tt

-- a line that can be read has every field as asked, and is what its fields say
as_fields_say : {X : Type 0} {form : List (List ℕ) → Form X} {line : List ℕ} {x : X} {r : Result X Refusal} → Judged form line r → r ≡ Ok x → (x ≡ (form (fields_of line)).value) × ((i : ℕ) → as_asked (form (fields_of line)).kinds (fields_of line) i ≡ true)
as_fields_say (bad_byte p h) e = cc
as_fields_say (bad_field i h m) e = cc
as_fields_say (sound h fit) e = (cc, fit)

-- the fields behind the first are as the kinds behind the first ask
asked_next : (k : Kind) (ks : List Kind) (fs : List (List ℕ)) (i : ℕ) → as_asked (k ∷ ks) fs (suc i) ≡ as_asked ks (others fs) i
asked_next k ks [] i = refl
asked_next k ks (f ∷ fs) i = refl

-- a second field that is asked to be a number within bounds is within them
in_range : (low high : ℕ) (k : Kind) (ks : List Kind) (fs : List (List ℕ)) → as_asked (k ∷ number_within low high ∷ ks) fs 1 ≡ true → (low ≤ decimal (field_at 1 fs)) × (decimal (field_at 1 fs) ≤ high)
in_range low high k ks [] h = cc
in_range low high k ks (f ∷ []) h = cc
in_range low high k ks (f ∷ x ∷ fs) h = grind (arith, nat_tests)

pub count_few : (line : List ℕ) → CountsBands line
count_few line b is =
    let fs = fields_of line in
    let said = as_fields_say (reads build_form line).judged is in
    let n = decimal (field_at 1 fs) in
    let range = in_range 1 64 (letter_among product_letters) (two_runs n plain_number plain_number) fs (said.1 1) in
    let many = ap (λ x. length (bands_given x)) said.0 ∙ length-from_runs band_from n (others (others fs)) in
    (many, omega (arith, many, range.0), omega (arith, many, range.1))

-- a call that defines a combination is of the form of that call
by_define : (c : ℕ) (fs : List (List ℕ)) (p : ℕ) (legs : Legs) → Define p legs ≡ (form_of_letter c fs).value → form_of_letter c fs ≡ define_form fs
by_define c fs p legs h = grind (arith, nat_tests)

-- legs that are named are counted and listed, where they are at most ten
all_named : (ls : List Leg) → length ls ≤ 10 → ((legs_named ls).count ≡ length ls) × (length (listed (legs_named ls)) ≡ length ls)
all_named ls h = (omega (arith, length-take {A = Leg}), omega (arith, length-take {A = Leg}, length-append {A = Leg}))

pub count_legs : (line : List ℕ) → CountsLegs line
count_legs line p legs is =
    let fs = fields_of line in
    let rest = others fs in
    let behind = others (others rest) in
    let k = decimal (field_at 1 rest) in
    let said = as_fields_say (reads call_form line).judged is in
    let form : form_of_letter (code (first fs)) rest ≡ define_form rest = by_define (code (first fs)) rest p legs said.0 in
    let asked : as_asked (define_form rest).kinds rest 1 ≡ true = ap (λ g. as_asked g.kinds rest 1) (sym form) ∙ sym (asked_next (letter_among call_letters) (form_of_letter (code (first fs)) rest).kinds fs 1) ∙ said.1 2 in
    let range = in_range 2 10 plain_number (two_runs k plain_number signed_number) rest asked in
    let named : legs ≡ legs_named (legs_of k behind) = (let e : Define p legs ≡ (define_form rest).value = said.0 ∙ ap (λ g. g.value) form in cc) in
    let made = length-from_runs leg_from k behind in
    let all = all_named (legs_of k behind) (omega (arith, made, range.1)) in
    let count = ap (λ l. l.count) named ∙ all.0 ∙ made in
    let list = ap (λ l. length (listed l)) named ∙ all.1 ∙ made in
    (count, omega (arith, count, range.0), omega (arith, count, range.1), list ∙ sym count)
