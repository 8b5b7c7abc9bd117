-- From what the book does to what the venue does.
use Rattle.std.proofs.Common.{◌≡◌, ℕ, ◌-◌, Bool, true, false, cond, not, ltb, List, ◌++◌, map, length, Some, None, Ok, Err, filter, Option, Result, sym, refl, ap, ◌∙◌, subst, arith}
use Rattle.std.specs.Option.{option_map}
use Rattle.market.specs.declared.acceptance.Acceptance.TheVariants.{Switched}
use Rattle.market.specs.declared.call.Call.{Call}
use Rattle.market.specs.declared.call.Call.TheVariants.{Switch}
use Rattle.market.specs.declared.phase.Event.{Event}
use Rattle.market.specs.declared.phase.Phase.{Phase}
use Rattle.market.specs.declared.phase.Withdrawal.{Withdrawal}
use Rattle.market.specs.declared.refusal.Refusal.{Refusal}
use Rattle.market.specs.declared.refusal.Refusal.TheVariants as refusal
use Rattle.market.specs.declared.row.Row.{Row}
use Rattle.market.specs.Acceptances.{acceptance_numbers}
use Rattle.market.specs.BookCalls.{BookState, leaves, withdrawn}
use Rattle.market.specs.Endings.{Effect, Ending, refused, done, Outcome, refuse, report, close, Follows}
use Rattle.market.specs.Rows.{blank, cancel_row}
use Rattle.market.specs.Venues.{View, at_book, in_phase, fault, switch_fault, next_phase, withdraws, Does, at_fault, switches}
use Rattle.gate.specs.Conditions.{turned}

-- the venue with another book
abbrev pub with_book : View → BookState → View
with_book v m = record { product = v.product; phase = v.phase; bands = v.bands; combinations = v.combinations; book = m }

-- a condition of the table holds
pub refused_by : {shares : List ℕ → ℕ → List ℕ} {v : View} {room : ℕ} {c : Call} {e : Refusal} {answer : Result (ℕ × ℕ) Refusal} {rows : List Row} → fault v c ≡ Some e → answer ≡ Err e → rows ≡ blank room → Follows (Does shares v c) v room answer rows v
refused_by {c = c} {e = e} f is wiped = record { ending = refused e; allowed = at_fault c e f; answered = is; reported = wiped; left = refl }

-- ---- a call of the book

record Alike (v : View) (o : Outcome BookState) (p : Outcome View) : Type 0 where
  pub answers : o.answer ≡ p.answer
  pub rows : o.rows ≡ p.rows
  pub after : with_book v o.after ≡ p.after

alike_report : (v : View) (room : ℕ) (x : Effect BookState) (y : Effect View) → y.accepted ≡ x.accepted → y.rows ≡ x.rows → y.after ≡ with_book v x.after → Alike v (report v.book room x) (report v room y)
alike_report v room x y accepted rows after = go (ltb room (length x.rows)) (ltb room (length y.rows)) (ap (λ rs. ltb room (length rs)) rows)
  where
    go : (s t : Bool) → t ≡ s → Alike v
        (cond s (refuse v.book room refusal.ReportFull) (record { answer = Ok (acceptance_numbers x.accepted); rows = x.rows ++ blank (room - length x.rows); after = x.after }))
        (cond t (refuse v room refusal.ReportFull) (record { answer = Ok (acceptance_numbers y.accepted); rows = y.rows ++ blank (room - length y.rows); after = y.after }))
    go true true e = record { answers = refl; rows = refl; after = refl }
    go false false e = record { answers = ap (λ a. Ok (acceptance_numbers a)) (sym accepted); rows = ap (λ rs. rs ++ blank (room - length rs)) (sym rows); after = sym after }
    go true false e = absurd (let z : ◌≡◌ {A = ℕ} 0 1 = cc in omega arith)
    go false true e = absurd (let z : ◌≡◌ {A = ℕ} 0 1 = cc in omega arith)

alike : (v : View) (room : ℕ) (e : Ending BookState) → Alike v (close v.book room e) (close v room (at_book v e))
alike v room (refused e) = record { answers = refl; rows = refl; after = refl }
alike v room (done x) = alike_report v room x _ refl refl refl

pub lifted : {Allowed : Ending BookState → Type 0} {Allowed' : Ending View → Type 0} {v : View} {room : ℕ} {answer : Result (ℕ × ℕ) Refusal} {rows : List Row} {m : BookState} → ((e : Ending BookState) → Allowed e → Allowed' (at_book v e)) → Follows Allowed v.book room answer rows m → Follows Allowed' v room answer rows (with_book v m)
lifted {v = v} {room = room} up f =
    let a = alike v room f.ending in
    record {
      ending = at_book v f.ending;
      allowed = up f.ending f.allowed;
      answered = f.answered ∙ a.answers;
      reported = f.reported ∙ a.rows;
      left = ap (with_book v) f.left ∙ a.after;
    }

-- ---- a change of phase

turned_from : (phase : Phase) (event : Event) (next : Phase) (leaving : Withdrawal) → turned phase event ≡ Some (next, leaving) → (next_phase phase event ≡ Some next) × (leaving ≡ withdraws event)
turned_from phase event next leaving = go (next_phase phase event)
  where
    go : (o : Option Phase) → option_map {U = Phase × Withdrawal} (λ n. (n, withdraws event)) o ≡ Some (next, leaving) → (o ≡ Some next) × (leaving ≡ withdraws event)
    go None e = absurd (let z : ◌≡◌ {A = ℕ} 0 1 = cc in omega arith)
    go (Some n) e = let both : ◌≡◌ {A = Phase × Withdrawal} (n, withdraws event) (next, leaving) = cc in (ap (λ p. Some p.0) both, sym (ap (λ p. p.1) both))

pub turned_not : (phase : Phase) (event : Event) → turned phase event ≡ None → switch_fault (next_phase phase event) ≡ Some refusal.Phase
turned_not phase event = go (next_phase phase event)
  where
    go : (o : Option Phase) → option_map {U = Phase × Withdrawal} (λ n. (n, withdraws event)) o ≡ None → switch_fault o ≡ Some refusal.Phase
    go None e = refl
    go (Some n) e = absurd (let z : ◌≡◌ {A = ℕ} 0 1 = cc in omega arith)

-- the effect of a withdrawal
abbrev effect_of : Withdrawal → BookState → Effect BookState
effect_of which m = record {
  accepted = Switched (length (filter (leaves which) m.orders));
  rows = map cancel_row (filter (leaves which) m.orders);
  after = record { orders = filter (λ o. not (leaves which o)) m.orders; next = m.next };
}

-- an effect on the book, with a change of phase, as an effect on the venue
abbrev raised : Phase → Effect BookState → View → Effect View
raised phase x v = record { accepted = x.accepted; rows = x.rows; after = with_book (in_phase v phase) x.after }

-- what the caller gets, by whether there are more rows than the report has
abbrev said : {S : Type 0} → ℕ → Bool → S → Effect S → Outcome S
said room t before e = cond t (refuse before room refusal.ReportFull) (record { answer = Ok (acceptance_numbers e.accepted); rows = e.rows ++ blank (room - length e.rows); after = e.after })

module _ (v : View) (phase : Phase) (room : ℕ) (x : Effect BookState) (answer : Result (ℕ × ℕ) Refusal) (rows : List Row) (m : BookState) where
  -- refused: the rows do not fit
  seen_refused : (e : Refusal) → answer ≡ Err e → (t : Bool) → answer ≡ (said room t v.book x).answer → rows ≡ (said room t v.book x).rows → m ≡ (said room t v.book x).after →
      (answer ≡ (said room t v (raised phase x v)).answer) × (rows ≡ (said room t v (raised phase x v)).rows) × (with_book v m ≡ (said room t v (raised phase x v)).after)
  seen_refused e is true a' b' c' = (a', b', ap (with_book v) c')
  seen_refused e is false a' b' c' = absurd (let z : ◌≡◌ {A = ℕ} 0 1 = cc in omega arith)

  -- done: the phase changes
  seen_done : (pair : ℕ × ℕ) → answer ≡ Ok pair → (t : Bool) → answer ≡ (said room t v.book x).answer → rows ≡ (said room t v.book x).rows → m ≡ (said room t v.book x).after →
      (answer ≡ (said room t v (raised phase x v)).answer) × (rows ≡ (said room t v (raised phase x v)).rows) × (with_book (in_phase v phase) m ≡ (said room t v (raised phase x v)).after)
  seen_done pair is true a' b' c' = absurd (let z : ◌≡◌ {A = ℕ} 0 1 = cc in omega arith)
  seen_done pair is false a' b' c' = (a', b', ap (with_book (in_phase v phase)) c')

module _ (shares : List ℕ → ℕ → List ℕ) (v : View) (w : Event) (phase : Phase) (leaving : Withdrawal) (room : ℕ) (answer : Result (ℕ × ℕ) Refusal) (rows : List Row) (m : BookState)
    (turns : turned v.phase w ≡ Some (phase, leaving)) (f : Follows (λ e. e ≡ withdrawn leaving v.book) v.book room answer rows m) where
  abbrev taken : Effect BookState
  taken = effect_of leaving v.book

  turn : (next_phase v.phase w ≡ Some phase) × (leaving ≡ withdraws w)
  turn = turned_from v.phase w phase leaving turns

  a₀ : answer ≡ (report v.book room taken).answer
  a₀ = f.answered ∙ ap (λ (e : Ending BookState). (close v.book room e).answer) f.allowed

  b₀ : rows ≡ (report v.book room taken).rows
  b₀ = f.reported ∙ ap (λ (e : Ending BookState). (close v.book room e).rows) f.allowed

  c₀ : m ≡ (report v.book room taken).after
  c₀ = f.left ∙ ap (λ (e : Ending BookState). (close v.book room e).after) f.allowed

  follows_seen : (u : View) → (answer ≡ (report v room (raised phase taken v)).answer) × (rows ≡ (report v room (raised phase taken v)).rows) × (u ≡ (report v room (raised phase taken v)).after) → Follows (Does shares v (Switch w)) v room answer rows u
  follows_seen u s = record { ending = at_book (in_phase v phase) (withdrawn leaving v.book); allowed = subst (λ (x : Withdrawal). Does shares v (Switch w) (at_book (in_phase v phase) (withdrawn x v.book))) (sym turn.1) (switches w phase turn.0); answered = s.0; reported = s.1; left = s.2 }

  -- the rows do not fit
  pub switch_refused : {e : Refusal} → answer ≡ Err e → {told : Result (ℕ × ℕ) Refusal} → told ≡ Err e → Follows (Does shares v (Switch w)) v room told rows (with_book v m)
  switch_refused {e = e} is said = subst (λ (r : Result (ℕ × ℕ) Refusal). Follows (Does shares v (Switch w)) v room r rows (with_book v m)) (is ∙ sym said) (follows_seen (with_book v m) (seen_refused v phase room taken answer rows m e is (ltb room (length taken.rows)) a₀ b₀ c₀))

  -- the phase changes
  pub switch_done : {pair : ℕ × ℕ} → answer ≡ Ok pair → Follows (Does shares v (Switch w)) v room (Ok pair) rows (with_book (in_phase v phase) m)
  switch_done {pair = pair} is = subst (λ (r : Result (ℕ × ℕ) Refusal). Follows (Does shares v (Switch w)) v room r rows (with_book (in_phase v phase) m)) is (follows_seen (with_book (in_phase v phase) m) (seen_done v phase room taken answer rows m pair is (ltb room (length taken.rows)) a₀ b₀ c₀))
