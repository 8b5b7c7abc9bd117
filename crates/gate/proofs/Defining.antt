-- From a request for a combination to what the venue does.
use Rattle.std.proofs.Common.{◌≡◌, ℕ, ◌-◌, Bool, true, false, ltb, ◌||◌, List, length, get_or, Some, None, Ok, Option, Result, sym, refl, ap, ◌∙◌, subst, arith}
use Rattle.std.specs.List.{list_any}
use Rattle.std.proofs.lemmas.Bool.{lt-ltb, le-ltb, false_from_ne_true}
use Rattle.std.proofs.lemmas.List.Folds.{list_any_at}
use Rattle.std.proofs.Math.Logic.{∥∥₁_map}
use Rattle.std.proofs.lemmas.Option.{slice_get_within, get_or_from_slice_get}
use Rattle.market.specs.declared.acceptance.Acceptance.TheVariants.{Defined}
use Rattle.market.specs.declared.call.Call.TheVariants.{Define}
use Rattle.market.specs.declared.leg.Leg.{Leg}
use Rattle.market.specs.declared.legs.Legs.{Legs}
use Rattle.market.specs.declared.refusal.Refusal.{Refusal}
use Rattle.market.specs.declared.refusal.Refusal.TheVariants as refusal
use Rattle.market.specs.declared.row.Row.{Row}
use Rattle.market.specs.Acceptances.{acceptance_numbers}
use Rattle.market.specs.Combinations.{normal, turns, same_legs, made, NoneMade, SoundTable}
use Rattle.market.specs.Endings.{Follows}
use Rattle.market.specs.Legs.{listed}
use Rattle.market.specs.Rows.{blank}
use Rattle.market.specs.Tables.{unless}
use Rattle.market.specs.Venues.{View, request_fault, fault, defined, with_combinations, Does, finds, makes}
use Rattle.market.proofs.Making.{Table, does_left, same_legs_decides, numbered}
use Rattle.gate.specs.Made.{Numbers, found, new, spent}
use Rattle.gate.proofs.Numbering.{made_index}
use Rattle.gate.proofs.Tables.{last_of}

-- a combination that has the legs is one of all
any_made : (cs : List (List Leg)) (legs : List Leg) (c : ℕ) → made cs c ≡ Some legs → list_any (same_legs legs) cs ≡ true
any_made cs legs c h =
    let k = made_index cs legs c h in
    list_any_at (same_legs legs) cs (c - 1001) legs (slice_get_within cs (c - 1001) legs k.1)
    ((same_legs_decides legs (get_or cs (c - 1001) legs)).1 (sym (get_or_from_slice_get cs (c - 1001) legs legs k.1)))

none_any : (cs : List (List Leg)) (legs : List Leg) → NoneMade cs legs → list_any (same_legs legs) cs ≡ false
none_any cs legs h = false_from_ne_true (list_any (same_legs legs) cs) (λ t. let n = numbered cs legs t in h n.0 n.1)

-- the number is that of the normal form of the legs as they came
pub numbers_along : (cs cs' : List (List Leg)) (form asked legs : List Leg) (o o' : Option ℕ) → form ≡ normal asked → asked ≡ legs → o ≡ o' → Numbers cs form o cs' → Numbers cs (normal legs) o' cs'
numbers_along cs cs' form asked legs o o' is same answers h =
    subst (λ (x : Option ℕ). Numbers cs (normal legs) x cs') answers (subst (λ (ls : List Leg). Numbers cs ls o cs') (is ∙ ap normal same) h)

-- the request is refused, whichever combinations exist
pub request_refused : (v : View) (p : ℕ) (legs : Legs) (e : Refusal) → request_fault v p (listed legs) ≡ Some e → fault v (Define p legs) ≡ Some e
request_refused v p legs e h = rw h refl

either : (b : Bool) → unless {X = Refusal} (b || true) refusal.CombinationsSpent ≡ None
either true = refl
either false = refl

module _ (v : View) (p : ℕ) (legs : Legs) (free : request_fault v p (listed legs) ≡ None) where
  -- what is left to judge is whether there is room
  room_left : fault v (Define p legs) ≡ unless (ltb (length v.combinations) 32 || list_any (same_legs (normal (listed legs))) v.combinations) refusal.CombinationsSpent
  room_left = rw free (last_of (unless (ltb (length v.combinations) 32 || list_any (same_legs (normal (listed legs))) v.combinations) refusal.CombinationsSpent))

  pub no_room : (cs : List (List Leg)) → Numbers v.combinations (normal (listed legs)) None cs → (fault v (Define p legs) ≡ Some refusal.CombinationsSpent) × (cs ≡ v.combinations)
  no_room _ (spent none full) = (room_left ∙ rw (le-ltb (length v.combinations) 32 full, none_any v.combinations (normal (listed legs)) none) refl, refl)

  module _ (shares : List ℕ → ℕ → List ℕ) where
    does_number : (c : ℕ) (cs : List (List Leg)) → Numbers v.combinations (normal (listed legs)) (Some c) cs → Does shares v (Define p legs) (defined v (listed legs) c cs)
    does_number c _ (found _ first) = finds p legs c (room_left ∙ rw (any_made v.combinations (normal (listed legs)) c first.there) (either (ltb (length v.combinations) 32))) first
    does_number _ _ (new none less) = makes p legs (room_left ∙ rw (lt-ltb (length v.combinations) 32 less) refl) none

    -- the combinations are then as they must be
    numbered_table : Table v → (o : Option ℕ) (cs : List (List Leg)) → Numbers v.combinations (normal (listed legs)) o cs → SoundTable v.product v.bands cs
    numbered_table t (Some c) cs n = does_left shares v (Define p legs) (defined v (listed legs) c cs) t (does_number c cs n)
    numbered_table t None cs n = subst (SoundTable v.product v.bands) (sym (no_room cs n).1) t

    pub numbered_sound : ∥ Table v ∥₁ → (o : Option ℕ) (cs : List (List Leg)) → Numbers v.combinations (normal (listed legs)) o cs → ∥ SoundTable v.product v.bands cs ∥₁
    numbered_sound t o cs n = ∥∥₁_map t (λ x. numbered_table x o cs n)

    pub numbered_follows : (c : ℕ) (cs : List (List Leg)) → Numbers v.combinations (normal (listed legs)) (Some c) cs → (room : ℕ) (answer : Result (ℕ × ℕ) Refusal) (rows : List Row) →
        answer ≡ Ok (acceptance_numbers (Defined c (turns (listed legs)))) → rows ≡ blank room → Follows (Does shares v (Define p legs)) v room answer rows (with_combinations v cs)
    numbered_follows c cs n room answer rows is wiped =
        let shut : ltb room 0 ≡ false = le-ltb room 0 (omega arith) in
        let rest : room - 0 ≡ room = omega arith in
        record {
          ending = defined v (listed legs) c cs;
          allowed = does_number c cs n;
          answered = rw shut is;
          reported = rw (shut, rest) wiped;
          left = rw shut refl;
        }
