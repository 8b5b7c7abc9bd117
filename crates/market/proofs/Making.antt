-- The combinations of a venue keep what always holds of them, whatever is defined.
use Rattle.std.proofs.Common.{◌≡◌, ℕ, zero, suc, ◌⊎◌, ◌+◌, ◌-◌, ◌*◌, ◌/◌, ◌<◌, ◌≤◌, Bool, true, false, cond, not, ◌&&◌, ◌||◌, eqb, ltb, leb, List, [], ◌∷◌, ◌++◌, map, length, get_or, ℤ, Some, None, Result, inl, inr, sym, refl, ap, ◌∙◌, subst, arith}
use Rattle.std.specs.Prelude.{pos, slice_get, int_lt}
use Rattle.std.specs.Option.{option_map}
use Rattle.std.specs.List.{All, AllPass, list_any}
use Rattle.std.proofs.lemmas.Bool.{cond_both, cases_lt, le-ltb, ltb-true, ltb-false}
use Rattle.std.proofs.lemmas.Bool.Decides.{Decides-eqb, Decides-int_eq, nat_tests}
use Rattle.std.specs.Bool.{Decides}
use Rattle.std.proofs.lemmas.Slice.Eq.{slice_eq-Decides}
use Rattle.std.proofs.lemmas.List.Elements.{All-nil, All-cons, All-head, All-tail, All-map, All-push, All-weaker}
use Rattle.std.proofs.lemmas.List.Folds.{Any-from_list_any}
use Rattle.std.proofs.lemmas.List.Sums.{AllPass-from_list_all}
use Rattle.std.proofs.lemmas.List.{length-map, length_push}
use Rattle.std.proofs.lemmas.Option.{slice_get_read}
use Rattle.market.specs.declared.call.Call.{Call}
use Rattle.market.specs.declared.call.Call.TheVariants.{Define}
use Rattle.market.specs.declared.leg.Leg.{Leg}
use Rattle.market.specs.declared.legs.Legs.{Legs}
use Rattle.market.specs.declared.product.Band.{Band}
use Rattle.market.specs.declared.product.Product.{Product}
use Rattle.market.specs.declared.product.Product.TheVariants.{Futures, Options}
use Rattle.market.specs.declared.refusal.Refusal.{Refusal}
use Rattle.market.specs.declared.refusal.Refusal.TheVariants as refusal
use Rattle.market.specs.declared.row.Row.{Row}
use Rattle.market.specs.Combinations.{size, is_minus, divisor, parts, turns, ratio_of, reduced_leg, normal, count_fits, neighbours, rises, is_nonzero, small, near, signs_fit, broken_leg, made, same_leg, same_legs, NoneMade, Rising, Normal, Spread, Listed, SoundTable}
use Rattle.market.specs.BookCalls.{BookState}
use Rattle.market.specs.Endings.{Ending, refused, done, Outcome, close, Follows}
use Rattle.market.specs.Legs.{listed}
use Rattle.market.specs.Tables.{unless, first_broken}
use Rattle.market.specs.Venues.{View, between, trading, request_fault, fault, band_of, known, at_book, Does, Does.at_fault, Does.enters, Does.amends, Does.quotes, Does.cancels, Does.finds, Does.makes, Does.switches, Takes, Takes.unread, Takes.read}
use Rattle.market.proofs.Ratios.{unmapped, Nonzero, minus-ratio_of, size-reduced, normal_nonzero, normal_undivided}
use Rattle.market.proofs.Tables.{passed, unless_none, map_none, broken_none}

-- ---- a request that is not refused

-- legs at which no field is at fault
pub record Shaped (product : Product) (legs : List Leg) : Type 0 where
  pub count : count_fits product (length legs) ≡ true
  pub rising : AllPass rises (neighbours legs)
  pub nonzero : AllPass is_nonzero legs
  pub small : AllPass small (parts legs)
  pub near : AllPass (near (parts legs)) (parts legs)
  pub signs : signs_fit product legs ≡ true

pub shaped : (product : Product) (legs : List Leg) → broken_leg product legs ≡ None → Shaped product legs
shaped product legs h =
    let k : ℕ = length legs in
    let a = passed (
    unless (count_fits product k) 2
    ∷ first_broken rises (neighbours legs) 4
    ∷ first_broken is_nonzero legs (3 + k)
    ∷ first_broken small (parts legs) (3 + k)
    ∷ first_broken (near (parts legs)) (parts legs) (3 + k)
    ∷ unless (signs_fit product legs) 6
    ∷ []) h in
    record {
      count = unless_none _ 2 a.0;
      rising = broken_none rises (neighbours legs) 4 a.1.0;
      nonzero = broken_none is_nonzero legs (3 + k) a.1.1.0;
      small = broken_none small (parts legs) (3 + k) a.1.1.1.0;
      near = broken_none (near (parts legs)) (parts legs) (3 + k) a.1.1.1.1.0;
      signs = unless_none _ 6 a.1.1.1.1.1.0;
    }

-- legs whose instruments exist as well, and for which there is room
record Fit (v : View) (legs : List Leg) : Type 0 where
  known : AllPass (λ l. known (band_of v.bands l.instrument)) legs
  shape : Shaped v.product legs
  room : (ltb (length v.combinations) 32 || list_any (same_legs (normal legs)) v.combinations) ≡ true

fit : (v : View) (p : ℕ) (legs : Legs) → fault v (Define p legs) ≡ None → Fit v (listed legs)
fit v p legs h =
    let a = passed (
    request_fault v p (listed legs)
    ∷ unless (ltb (length v.combinations) 32 || list_any (same_legs (normal (listed legs))) v.combinations) refusal.CombinationsSpent
    ∷ []) h in
    let b = passed (
    unless (trading v.phase) refusal.Phase
    ∷ unless (between 1 999 p) refusal.Participant
    ∷ option_map refusal.Unknown (first_broken (λ l. known (band_of v.bands l.instrument)) (listed legs) 3)
    ∷ option_map refusal.Legs (broken_leg v.product (listed legs))
    ∷ []) a.0 in
    record {
      known = broken_none _ (listed legs) 3 (map_none refusal.Unknown _ b.1.1.0);
      shape = shaped v.product (listed legs) (map_none refusal.Legs (broken_leg v.product (listed legs)) b.1.1.1.0);
      room = unless_none _ refusal.CombinationsSpent a.1.0;
    }

-- ---- its normal form

neighbours_kept : (f : Leg → Leg) → ((l : Leg) → (f l).instrument ≡ l.instrument) → (legs : List Leg) → AllPass rises (neighbours legs) → Rising (map f legs)
neighbours_kept f same [] h = All-nil (λ (l, m). l.instrument < m.instrument)
neighbours_kept f same (l ∷ []) h = All-nil (λ (l, m). l.instrument < m.instrument)
neighbours_kept f same (l ∷ m ∷ legs) h =
    let first : ltb l.instrument m.instrument ≡ true = All-head (λ x. rises x ≡ true) (l, m) (neighbours (m ∷ legs)) h in
    All-cons (λ (l, m). l.instrument < m.instrument) (f l, f m) (neighbours (f m ∷ map f legs)) (omega (arith, same l, same m, ltb-true _ _ first))
    (neighbours_kept f same (m ∷ legs) (All-tail (λ x. rises x ≡ true) (l, m) (neighbours (m ∷ legs)) h))

turned_plus : (m : Bool) (n : ℕ) → int_lt (ratio_of (cond m (not m) m) n) (pos 0) ≡ false
turned_plus false n = grind (arith, nat_tests)
turned_plus true n = grind (arith, nat_tests)

pub plus_first : (legs : List Leg) → turns (normal legs) ≡ false
plus_first [] = refl
plus_first (l ∷ legs) = turned_plus (is_minus l) (size l / divisor (l ∷ legs))

count_many : (p : Product) (k : ℕ) → count_fits p k ≡ true → (2 ≤ k) × (k ≤ 10)
count_many Futures k h = let two : k ≡ 2 = grind (arith, nat_tests) in (omega arith, omega arith)
count_many Options k h = (grind (arith, nat_tests), grind (arith, nat_tests))

known_get : (bands : List Band) (i : ℕ) → known (slice_get bands i) ≡ true → i < length bands
known_get [] i h = absurd (cc)
known_get (b ∷ bands) zero h = omega arith
known_get (b ∷ bands) (suc i) h = omega (arith, known_get bands i h)

known_within : (bands : List Band) (i : ℕ) → known (band_of bands i) ≡ true → (1 ≤ i) × (i ≤ length bands)
known_within bands zero h = absurd (cc)
known_within bands (suc i) h =
    let at : known (slice_get bands (suc i - 1)) ≡ true =
    cond_both (eqb (suc i) 0) None (slice_get bands (suc i - 1)) (λ o. known o ≡ true → known (slice_get bands (suc i - 1)) ≡ true) (λ e k. absurd (grind (arith, nat_tests))) (λ e k. k) h in
    (omega arith, omega (arith, known_get bands (suc i - 1) at))

differ : (m n : Bool) → ((not m || (not n || false)) && (m || (n || false))) ≡ true → cond m (not n) n ≡ true
differ false false h = absurd (cc)
differ false true h = refl
differ true false h = refl
differ true true h = absurd (cc)

spread : (legs : List Leg) → length legs ≡ 2 → signs_fit Futures legs ≡ true → Nonzero legs → Spread (normal legs)
spread [] k h nonzero = absurd (omega arith)
spread (l ∷ []) k h nonzero = absurd (omega arith)
spread (l ∷ m ∷ []) k h nonzero =
    let d : ℕ = divisor (l ∷ m ∷ []) in
    let t : Bool = is_minus l in
    let some = normal_nonzero (l ∷ m ∷ []) (omega arith) nonzero in
    let sold : 1 ≤ size (reduced_leg d t m) = All-head (λ l. 1 ≤ size l) (reduced_leg d t m) [] (All-tail (λ l. 1 ≤ size l) (reduced_leg d t l) (reduced_leg d t m ∷ []) some) in
    record {
      bought = reduced_leg d t l;
      sold = reduced_leg d t m;
      two = refl;
      plus = turned_plus t (size l / d);
      minus = subst (λ s. int_lt (ratio_of s (size m / d)) (pos 0) ≡ true) (sym (differ t (is_minus m) h)) (minus-ratio_of (size m / d) (omega (arith, size-reduced d t m)));
    }
spread (l ∷ m ∷ n ∷ legs) k h nonzero = absurd (omega arith)

module _ (product : Product) (legs : List Leg) (h : Shaped product legs) where
  pub many : (2 ≤ length legs) × (length legs ≤ 10)
  many = count_many product (length legs) h.count

  pub nonzero : Nonzero legs
  nonzero = All-weaker (λ l. is_nonzero l ≡ true) (λ l. 1 ≤ size l) (λ l k. grind (arith, nat_tests)) legs h.nonzero

  pub parts_small : All (λ l. size l / divisor legs ≤ 10) legs
  parts_small = All-weaker (λ l. leb (size l / divisor legs) 10 ≡ true) (λ l. size l / divisor legs ≤ 10) (λ l k. grind (arith, nat_tests)) legs (unmapped (λ n. small n ≡ true) (λ l. size l / divisor legs) legs h.small)

  pub has_form : Normal (normal legs)
  has_form = let g : ℕ = divisor legs in let t : Bool = turns legs in record {
    least = omega (arith, length-map legs (reduced_leg g t), many.0);
    most = omega (arith, length-map legs (reduced_leg g t), many.1);
    rising = neighbours_kept (reduced_leg g t) (λ l. refl) legs h.rising;
    plus = plus_first legs;
    none_zero = normal_nonzero legs (omega (arith, many.0)) nonzero;
    small = All-map (λ l. size l ≤ 10) (reduced_leg g t) legs (All-weaker (λ l. size l / g ≤ 10) (λ l. size (reduced_leg g t l) ≤ 10) (λ l k. omega (arith, size-reduced g t l)) legs parts_small);
    near = All-map (λ l. All (λ m. size l ≤ 4 * size m) (normal legs)) (reduced_leg g t) legs
        (All-weaker (λ l. near (parts legs) (size l / g) ≡ true) (λ l. All (λ m. size (reduced_leg g t l) ≤ 4 * size m) (normal legs))
        (λ l k. All-map (λ m. size (reduced_leg g t l) ≤ 4 * size m) (reduced_leg g t) legs
        (All-weaker (λ m. leb (size l / g) (4 * (size m / g)) ≡ true) (λ m. size (reduced_leg g t l) ≤ 4 * size (reduced_leg g t m))
        (λ m e. grind (arith, nat_tests, size-reduced g t l, size-reduced g t m)) legs
        (unmapped (λ n. leb (size l / g) (4 * n) ≡ true) (λ m. size m / g) legs (AllPass-from_list_all (λ n. leb (size l / g) (4 * n)) (parts legs) k))))
        legs (unmapped (λ n. near (parts legs) n ≡ true) (λ l. size l / g) legs h.near));
    undivided = normal_undivided legs (omega (arith, many.0)) nonzero;
  }

  has_signs : product ≡ Futures → Spread (normal legs)
  has_signs f = spread legs (let two : count_fits Futures (length legs) ≡ true = rw f at h.count in grind (arith, nat_tests)) (rw f at h.signs) nonzero

has_instruments : (v : View) (legs : List Leg) → Fit v legs → Listed v.bands (normal legs)
has_instruments v legs h = All-map (λ l. (1 ≤ l.instrument) × (l.instrument ≤ length v.bands)) (reduced_leg (divisor legs) (turns legs)) legs
    (λ i l at. known_within v.bands (get_or legs i l).instrument (h.known i l at))

-- ---- the combinations after it

slice_get-push : {X : Type 0} (xs : List X) (x : X) (i : ℕ) (y : X) → slice_get (xs ++ x ∷ []) i ≡ Some y → (slice_get xs i ≡ Some y) ⊎ ((i ≡ length xs) × (y ≡ x))
slice_get-push [] x zero y h = inr (refl, cc)
slice_get-push [] x (suc i) y h = absurd (cc)
slice_get-push (z ∷ xs) x zero y h = inl h
slice_get-push (z ∷ xs) x (suc i) y h = elim (slice_get-push xs x i y h) [ inl old ↦ inl old | inr new ↦ inr (omega (arith, new.0), new.1) ]

made-push : (cs : List (List Leg)) (x : List Leg) (c : ℕ) (legs : List Leg) → made (cs ++ x ∷ []) c ≡ Some legs → (made cs c ≡ Some legs) ⊎ ((c ≡ 1001 + length cs) × (legs ≡ x))
made-push cs x c legs =
    cond_both (ltb c 1001) None (slice_get (cs ++ x ∷ []) (c - 1001)) (λ o. o ≡ Some legs → (made cs c ≡ Some legs) ⊎ ((c ≡ 1001 + length cs) × (legs ≡ x)))
    (λ low h. absurd (cc))
    (λ high h. elim (slice_get-push cs x (c - 1001) legs h) [
      | inl old ↦ inl (rw high old)
      | inr new ↦ inr (omega (arith, new.0, ltb-false c 1001 high), new.1)
    ])

distinct_more : (cs : List (List Leg)) (x : List Leg) → NoneMade cs x → ((b c : ℕ) (legs : List Leg) → made cs b ≡ Some legs → made cs c ≡ Some legs → b ≡ c) →
    (b c : ℕ) (legs : List Leg) → made (cs ++ x ∷ []) b ≡ Some legs → made (cs ++ x ∷ []) c ≡ Some legs → b ≡ c
distinct_more cs x new s b c legs h k = elim (made-push cs x b legs h) [
  | inl old ↦ elim (made-push cs x c legs k) [ inl old' ↦ s b c legs old old' | inr last' ↦ absurd (new b (old ∙ ap Some last'.1)) ]
  | inr last ↦ elim (made-push cs x c legs k) [ inl old' ↦ absurd (new c (old' ∙ ap Some last.1)) | inr last' ↦ omega (arith, last.0, last'.0) ]
]

abbrev leg : ℕ → ℤ → Leg
leg instrument ratio = record { instrument = instrument; ratio = ratio }

both : (a b : Bool) → a ≡ true → b ≡ true → (a && b) ≡ true
both a b e f = cc

same_leg_decides : (l m : Leg) → Decides (same_leg l m) (l ≡ m)
same_leg_decides l m = (
  (λ h. ap (λ x. leg x l.ratio) ((Decides-eqb l.instrument m.instrument).0 (grind arith)) ∙ ap (leg m.instrument) ((Decides-int_eq l.ratio m.ratio).0 (grind arith))),
  (λ e. both _ _ ((Decides-eqb l.instrument m.instrument).1 (ap (λ x. x.instrument) e)) ((Decides-int_eq l.ratio m.ratio).1 (ap (λ x. x.ratio) e))),
)

pub same_legs_decides : (ls ms : List Leg) → Decides (same_legs ls ms) (ls ≡ ms)
same_legs_decides ls ms = slice_eq-Decides same_leg_decides ls ms (same_legs ls ms) refl

pub made_at : (cs : List (List Leg)) (i : ℕ) (legs : List Leg) → slice_get cs i ≡ Some legs → made cs (1001 + i) ≡ Some legs
made_at cs i legs h = rw (le-ltb (1001 + i) 1001 (omega arith)) (let e : 1001 + i - 1001 ≡ i = omega arith in rw e h)

-- a combination that has these legs has a number
pub numbered : (cs : List (List Leg)) (legs : List Leg) → list_any (same_legs legs) cs ≡ true → (c : ℕ) × (made cs c ≡ Some legs)
numbered cs legs h = let a = Any-from_list_any (same_legs legs) cs h in (1001 + a.0, made_at cs a.0 legs (slice_get_read cs (length cs) a.0 a.1 refl a.2 (sym a.3) ∙ ap Some (sym ((same_legs_decides legs a.1).0 a.4))))

room : (cs : List (List Leg)) (legs : List Leg) → (ltb (length cs) 32 || list_any (same_legs legs) cs) ≡ true → NoneMade cs legs → length cs < 32
room cs legs h new = elim (cases_lt (length cs) 32) [
  | inl less ↦ less
  | inr full ↦ absurd (let any : list_any (same_legs legs) cs ≡ true = rw (le-ltb (length cs) 32 full) at h in let n = numbered cs legs any in new n.0 n.1)
]

-- what holds of the combinations of a venue
abbrev pub Table : View → Type 0
Table v = SoundTable v.product v.bands v.combinations

none_made : (c : ℕ) (legs : List Leg) → made [] c ≡ Some legs → ⊥
none_made c legs = cond_both (ltb c 1001) None None (λ o. o ≡ Some legs → ⊥) (λ _ h. cc) (λ _ h. cc)

pub fresh_table : (product : Product) (bands : List Band) → SoundTable product bands []
fresh_table product bands = record {
  normal = All-nil Normal;
  listed = All-nil (Listed bands);
  spreads = λ f. All-nil Spread;
  distinct = λ b c legs h k. absurd (none_made b legs h);
  few = omega arith;
}

makes_table : (v : View) (legs : List Leg) → Fit v legs → NoneMade v.combinations (normal legs) → Table v → SoundTable v.product v.bands (v.combinations ++ normal legs ∷ [])
makes_table v legs h new s = record {
  normal = All-push Normal v.combinations (normal legs) s.normal (has_form v.product legs h.shape);
  listed = All-push (Listed v.bands) v.combinations (normal legs) s.listed (has_instruments v legs h);
  spreads = λ f. All-push Spread v.combinations (normal legs) (s.spreads f) (has_signs v.product legs h.shape f);
  distinct = distinct_more v.combinations (normal legs) new s.distinct;
  few = omega (arith, length_push v.combinations (normal legs), room v.combinations (normal legs) h.room new);
}

-- a combination that is made has rising legs
pub made_rising : (v : View) (p : ℕ) (legs : Legs) → fault v (Define p legs) ≡ None → Rising (normal (listed legs))
made_rising v p legs h = (has_form v.product (listed legs) (fit v p legs h).shape).rising

-- what an ending leaves
abbrev pub Left : Ending View → Type 0
Left (refused e) = Unit {0}
Left (done e) = Table e.after

book_left : (v : View) (e : Ending BookState) → Table v → Left (at_book v e)
book_left v (refused e) s = tt
book_left v (done e) s = s

close_table : (v : View) (room : ℕ) (e : Ending View) → Table v → Left e → Table (close v room e).after
close_table v room (refused e) s k = s
close_table v room (done e) s k = cond_both (ltb room (length e.rows)) _ _ (λ (r : Outcome View). Table r.after) (λ _. s) (λ _. k)

module _ (shares : List ℕ → ℕ → List ℕ) where
  pub does_left : (v : View) (c : Call) (e : Ending View) → Table v → Does shares v c e → Left e
  does_left v c _ s (at_fault _ e h) = tt
  does_left v _ _ s (enters p i side q r d e h m) = book_left v e s
  does_left v _ _ s (amends p n q r e h m) = book_left v e s
  does_left v _ _ s (quotes p i q r k w e h m) = book_left v e s
  does_left v _ _ s (cancels p n e h m) = book_left v e s
  does_left v _ _ s (finds p legs c h k) = s
  does_left v _ _ s (makes p legs h k) = makes_table v (listed legs) (fit v p legs h) k s
  does_left v _ _ s (switches w phase h) = s

  takes_left : (v : View) (r : Result Call Refusal) (e : Ending View) → Table v → Takes shares v r e → Left e
  takes_left v _ _ s (unread e) = tt
  takes_left v _ _ s (read c e d) = does_left v c e s d

  -- a call that follows the rules keeps it
  pub follows_table : (u v : View) (r : Result Call Refusal) (room : ℕ) (answer : Result (ℕ × ℕ) Refusal) (rows : List Row) → Table u → Follows (Takes shares u r) u room answer rows v → Table v
  follows_table u v r room answer rows s f = subst Table (sym f.left) (close_table u room f.ending s (takes_left u r f.ending s f.allowed))
