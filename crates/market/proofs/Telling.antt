-- What a line says, as it was read and answered: the entries of its orders, and their numbers.
use Rattle.std.proofs.Common.{◌≡◌, ℕ, ◌<◌, ◌≤◌, ◌⊎◌, false, eqb, List, [], ◌∷◌, Ok, Err, Result, refl, inl, inr, arith}
use Rattle.std.specs.List.{Any}
use Rattle.std.proofs.lemmas.Bool.{cond_both}
use Rattle.std.proofs.lemmas.Bool.Decides.{nat_tests}
use Rattle.std.proofs.lemmas.List.Elements.{All-nil, All-cons}
use Rattle.market.specs.declared.call.Call.{Call}
use Rattle.market.specs.declared.call.Call.TheVariants.{Enter, Amend, Cancel, Quote, Define, Switch}
use Rattle.market.specs.declared.call.Duration.{Duration}
use Rattle.market.specs.declared.legs.Legs.{Legs}
use Rattle.market.specs.declared.order.Order.{Order}
use Rattle.market.specs.declared.phase.Event.{Event}
use Rattle.market.specs.declared.price.Price.{Price}
use Rattle.market.specs.declared.refusal.Refusal.{Refusal}
use Rattle.market.specs.declared.side.Side.{Side}
use Rattle.market.specs.Entries.{Entry, side_number, order_numbers, numbers_of}
use Rattle.market.proofs.Keeping.{Among}
use Rattle.market.proofs.Lists.{all_among, any_cases, any_first, any_left, any_right, any_split}
use Rattle.market.proofs.Saying.{Said, said_enter, said_amend, said_bid, said_offer, Rests, Says}

-- what a message says, as it was read and answered
pub record SaysRead (next : ℕ) (os : List Order) (r : Result Call Refusal) (answer : Result (ℕ × ℕ) Refusal) (new : List Entry) : Type 0 where
  pub told : (x : Entry) → Among new x → (c : Call) × (a : ℕ × ℕ) × (r ≡ Ok c) × (answer ≡ Ok a) × Said os c a x
  pub covers : (c : Call) (a : ℕ × ℕ) (x : Entry) → r ≡ Ok c → answer ≡ Ok a → Said os c a x → ((1 ≤ x.number) × (x.number < next)) ⊎ Among new x
  pub rests : (c : Call) (a : ℕ × ℕ) → r ≡ Ok c → answer ≡ Ok a → Rests os c

-- what is read or answered is one
ok_same : {X E : Type 0} {r : Result X E} (x y : X) → r ≡ Ok x → r ≡ Ok y → x ≡ y
ok_same x y h k = cc

-- a line that is read and accepted says what its answer gives
pub says_read : (next : ℕ) (os : List Order) (c : Call) (a : ℕ × ℕ) (new : List Entry) → Says next os c a new → SaysRead next os (Ok c) (Ok a) new
says_read next os c a new k = record {
  told = λ x among. (c, a, refl, refl, all_among (Said os c a) new x k.told among);
  covers = λ c' a' x read answered said. k.covers x (rw (← ok_same c c' refl read, ← ok_same a a' refl answered) at said);
  rests = λ c' a' read answered. rw (ok_same c c' refl read) at k.rests;
}

-- a refusal says nothing
pub refused_says : (next : ℕ) (os : List Order) (r : Result Call Refusal) (e : Refusal) → SaysRead next os r (Err e) []
refused_says next os r e = record {
  told = λ x among. absurd (omega (arith, among.2));
  covers = λ c a x read answered said. absurd (cc);
  rests = λ c a read answered. absurd (cc);
}

-- a line that numbers no order says nothing
pub says_none : (next : ℕ) (os : List Order) (c : Call) (a : ℕ × ℕ) → ((x : Entry) → Said os c a x → ⊥) → Rests os c → (new : List Entry) → new ≡ [] → Says next os c a new
says_none next os c a none rests new e = record {
  told = rw e (All-nil (Said os c a));
  covers = λ x said. absurd (none x said);
  rests = rests;
}

pub cancel_unsaid : {os : List Order} {p n : ℕ} {a : ℕ × ℕ} (x : Entry) → Said os (Cancel p n) a x → ⊥
cancel_unsaid x said = elim said [ ]

pub define_unsaid : {os : List Order} {p : ℕ} {legs : Legs} {a : ℕ × ℕ} (x : Entry) → Said os (Define p legs) a x → ⊥
define_unsaid x said = elim said [ ]

pub switch_unsaid : {os : List Order} {w : Event} {a : ℕ × ℕ} (x : Entry) → Said os (Switch w) a x → ⊥
switch_unsaid x said = elim said [ ]

-- the entry of an enter line
abbrev line_entry : ℕ → ℕ → ℕ → Side → ℕ → Price → Entry
line_entry n p i s q r = record { number = n; participant = p; book = i; side = s; quantity = q; limit = r; quote = false }

-- an enter line says one thing
only_enter : {os : List Order} {p i q : ℕ} {s : Side} {r : Price} {d : Duration} {a : ℕ × ℕ} (x : Entry) → Said os (Enter p i s q r d) a x → x ≡ line_entry a.0 p i s q r
only_enter _ said_enter = refl

-- an enter line's one entry is all that it says
pub says_enter : (next : ℕ) (os : List Order) (p i : ℕ) (s : Side) (q : ℕ) (r : Price) (d : Duration) (a : ℕ × ℕ) (new : List Entry) → new ≡ line_entry a.0 p i s q r ∷ [] → Says next os (Enter p i s q r d) a new
says_enter next os p i s q r d a new e =
    let x : Entry = line_entry a.0 p i s q r in
    let c : Call = Enter p i s q r d in
    record {
      told = rw e (All-cons (Said os c a) x [] said_enter (All-nil (Said os c a)));
      covers = λ y said. inr (rw (e, only_enter y said) (0, x, omega arith, refl, refl));
      rests = tt;
    }

-- ---- the numbers in an answer

-- the number of a side that is wanted
side_wanted : (q n : ℕ) → 0 < q → Any (λ k. k ≡ n) (side_number q n)
side_wanted q n h = cond_both (eqb q 0) [] (n ∷ []) (λ l. Any (λ k. k ≡ n) l) (λ none. absurd (grind (arith, nat_tests))) (λ some. any_first (λ k. k ≡ n) n [] refl)

-- a side has a number only if it is wanted
wanted_side : (q n m : ℕ) → Any (λ k. k ≡ m) (side_number q n) → (0 < q) × (n ≡ m)
wanted_side q n m =
    cond_both (eqb q 0) [] (n ∷ []) (λ l. Any (λ k. k ≡ m) l → (0 < q) × (n ≡ m)) (λ none h. absurd (omega (arith, h.2)))
    (λ some h. elim (any_cases (λ k. k ≡ m) n [] h) [ inl is ↦ (grind (arith, nat_tests), is) | inr none ↦ absurd (omega (arith, none.2)) ])

-- what a line says is of a number in its answer
pub said_numbers : {os : List Order} {c : Call} {a : ℕ × ℕ} {x : Entry} → Said os c a x → Any (λ k. k ≡ x.number) (order_numbers c a)
said_numbers {a = a} said_enter = any_first (λ k. k ≡ a.0) a.0 [] refl
said_numbers {a = a} (said_amend o there same) = any_first (λ k. k ≡ a.0) a.0 [] refl
said_numbers {a = a} (said_bid {q = q} {k} some) = any_left (λ m. m ≡ a.0) (side_number q a.0) (side_number k a.1) (side_wanted q a.0 some)
said_numbers {a = a} (said_offer {q = q} {k} some) = any_right (λ m. m ≡ a.1) (side_number q a.0) (side_number k a.1) (side_wanted k a.1 some)

-- of each number in an answer the line says something
pub numbers_said : (os : List Order) (c : Call) (a : ℕ × ℕ) (n : ℕ) → Rests os c → Any (λ k. k ≡ n) (order_numbers c a) → (x : Entry) × Said os c a x × (x.number ≡ n)
numbers_said os (Enter p i s q r d) a n rests h = elim (any_cases (λ k. k ≡ n) a.0 [] h) [ inl is ↦ (_, said_enter, is) | inr none ↦ absurd (omega (arith, none.2)) ]
numbers_said os (Amend p m q r) a n (k, o, at, is, same) h = elim (any_cases (λ k. k ≡ n) a.0 [] h) [ inl own ↦ (_, said_amend o (k, o, at, is, refl) same, own) | inr none ↦ absurd (omega (arith, none.2)) ]
numbers_said os (Cancel p m) a n rests h = absurd (omega (arith, h.2))
numbers_said os (Quote p i q r k w) a n rests h = elim (any_split (λ k. k ≡ n) (side_number q a.0) (side_number k a.1) h) [
  | inl bid ↦ let s = wanted_side q a.0 n bid in (_, said_bid s.0, s.1)
  | inr offer ↦ let s = wanted_side k a.1 n offer in (_, said_offer s.0, s.1)
]
numbers_said os (Define p legs) a n rests h = absurd (omega (arith, h.2))
numbers_said os (Switch w) a n rests h = absurd (omega (arith, h.2))

-- only an accepted line gives numbers
pub numbers_accepted : (r : Result Call Refusal) (answer : Result (ℕ × ℕ) Refusal) (n : ℕ) → Any (λ k. k ≡ n) (numbers_of r answer) →
    (c : Call) × (a : ℕ × ℕ) × (r ≡ Ok c) × (answer ≡ Ok a) × Any (λ k. k ≡ n) (order_numbers c a)
numbers_accepted (Ok c) (Ok a) n h = (c, a, refl, refl, h)
numbers_accepted (Ok c) (Err e) n h = absurd (omega (arith, h.2))
numbers_accepted (Err u) (Ok a) n h = absurd (omega (arith, h.2))
numbers_accepted (Err u) (Err e) n h = absurd (omega (arith, h.2))
