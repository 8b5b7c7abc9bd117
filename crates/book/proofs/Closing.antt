-- What a whole call comes to, from what its steps gave.
use Rattle.std.proofs.Common.{◌≡◌, ℕ, suc, ◌+◌, ◌-◌, ◌≤◌, not, ◌++◌, List, [], ◌∷◌, map, length, get_or, take, drop, Some, Err, Option, filter, Result, sym, refl, ap, ◌∙◌, subst}
use Rattle.std.specs.List.{remove, position}
use Rattle.market.specs.declared.acceptance.Acceptance.{Acceptance}
use Rattle.market.specs.declared.acceptance.Acceptance.TheVariants.{Entered, Cancelled, Switched}
use Rattle.market.specs.declared.arrival.Arrival.{Arrival}
use Rattle.market.specs.declared.leg.Leg.{Leg}
use Rattle.market.specs.declared.order.Order.{Order}
use Rattle.market.specs.declared.phase.Withdrawal.{Withdrawal}
use Rattle.market.specs.declared.refusal.Refusal.{Refusal}
use Rattle.market.specs.declared.row.Row.{Row}
use Rattle.market.specs.BookCalls.{BookState, Enters, Cancels, taken_out, leaves, withdrawn}
use Rattle.market.specs.BookCalls.Enters.{settled}
use Rattle.market.specs.Endings.{Effect, Ending, done, refused, Follows}
use Rattle.market.specs.Orders.{arriving, lot_book, lot_size, own, quantity_of}
use Rattle.market.specs.Round.{legs_of}
use Rattle.market.specs.Rows.{blank, cancel_row}
use Rattle.book.specs.declared.progress.Progress.{Progress}
use Rattle.book.specs.declared.told.Told.{Told}
use Rattle.book.specs.Closing.{Closes}
use Rattle.book.specs.Matched.{Matched}
use Rattle.book.specs.Reports.{Holds, Tells}
use Rattle.book.specs.Rounds.{Rounded}
use Rattle.book.specs.Settling.{Settled, SettledAt, Settling}
use Rattle.book.proofs.Reports.{blank_long}
use Rattle.book.proofs.Settling.{as_matches}
use Rattle.book.proofs.Finding.{around, found_first, found_passes, found_inside}

-- a call may take this effect, and its rows are told
pub record Ready (Allowed : Ending BookState → Type 0) (accepted : Acceptance) (after : BookState) (t : Told) : Type 0 where
  pub told : List Row
  pub allowed : Allowed (done (record { accepted = accepted; rows = told; after = after }))
  pub holds : Holds t told

module _ (Allowed : Ending BookState → Type 0) (m : BookState) (room : ℕ) where
  pub follows_refused : (e : Refusal) (answer : Result (ℕ × ℕ) Refusal) (told rows : List Row) → answer ≡ Err e → Allowed (refused e) → rows ≡ told → told ≡ blank room → Follows Allowed m room answer rows m
  follows_refused e answer told rows answered allowed is wiped = record { ending = refused e; allowed = allowed; answered = answered; reported = is ∙ wiped; left = refl }

  pub follows_closed : (accepted : Acceptance) (os : List Order) (next : ℕ) (t : Told) (answer : Result (ℕ × ℕ) Refusal) (t' : Told) (rows : List Row) (after : BookState) (t₀ : Told) → t₀.rows.now ≡ blank room → length t.rows.now ≡ length t₀.rows.now → rows ≡ t'.rows.now
      → Ready Allowed accepted (record { orders = os; next = next }) t → Closes m accepted os next t answer t' after → Follows Allowed m room answer rows after
  follows_closed accepted os next t answer t' rows after t₀ wiped long is ready closing =
      let f = closing.closes ready.told ready.holds in
      subst (λ n. Follows Allowed m n answer rows after) (long ∙ blank_long t₀.rows.now room wiped)
      (record { ending = f.ending; allowed = subst Allowed (sym f.allowed) ready.allowed; answered = f.answered; reported = is ∙ f.reported; left = f.left })

-- ---- each call, from what its steps gave

module _ (shares : List ℕ → ℕ → List ℕ) (cs : List (List Leg)) (a : Arrival) (n : ℕ) (before : List Order) where
  abbrev state : BookState
  state = record { orders = before; next = n }

  pub settled_by : (legs : Option (List Leg)) (o : Order) (os₀ : List Order) (t₀ : Told) (at : Progress) (os : List Order) (t : Told) (r : Result Progress Refusal) (os' : List Order) (t' : Told)
      → legs ≡ legs_of cs (lot_book a.lot) → o ≡ arriving a n → os₀ ≡ before → n ≤ 99999
      → Matched shares legs o 1 os₀ t₀ at.next_fill at.left os t → Holds t₀ [] → Settling before n a at os t r os' t' → Settled shares cs state a r os' t'
  settled_by legs o os₀ t₀ at os t r os' t' of is same few m start settling =
      let run = as_matches shares cs 1 state a legs o os₀ m.rows at.next_fill at.left os of is same m.run in
      settling.settled shares cs m.rows few run (m.more.holds [] start)

  pub enters_ready : (at : Progress) (os : List Order) (t : Told) (os' : List Order) (t' : Told) (traded : ℕ) → n ≤ 99999 → SettledAt shares cs state a at os t → Rounded shares cs at.next_fill os t os' t' → traded ≡ lot_size a.lot - at.left
      → Ready (Enters shares cs state a) (Entered n traded) (record { orders = os'; next = n + 1 }) t'
  enters_ready at os t os' t' traded few s r is = record {
    told = s.rows ++ r.rows;
    allowed = subst (λ k. Enters shares cs state a (done (record { accepted = Entered n k; rows = s.rows ++ r.rows; after = record { orders = os'; next = n + 1 } }))) (sym is) (settled few s.settles r.run);
    holds = r.more.holds s.rows s.holds;
  }

pub cancel_ready : (m : BookState) (p n i : ℕ) (o d : Order) (row : Row) (quantity : ℕ) (os : List Order) (t t' : Told)
    → position (own p n) m.orders ≡ Some i → o ≡ get_or m.orders i d → row ≡ cancel_row o → quantity ≡ quantity_of o → os ≡ remove m.orders i
    → Holds t [] → Tells t (row ∷ []) t' → Ready (Cancels m p n) (Cancelled n quantity) (record { orders = os; next = m.next }) t'
cancel_ready m p n i o d row quantity os t t' found is told-row size left start more = record {
  told = row ∷ [];
  allowed = subst (λ (e : Effect BookState). Cancels m p n (done e)) (sym (λ j. record { accepted = Cancelled n ((size ∙ ap quantity_of is) j); rows = (told-row ∙ ap cancel_row is) j ∷ []; after = record { orders = left j; next = m.next } }))
      (taken_out (take i m.orders) (get_or m.orders i d) (drop (suc i) m.orders) (around m.orders i d (found_inside (own p n) m.orders i d found)) (found_first (own p n) m.orders i d found) (found_passes (own p n) m.orders i d found));
  holds = more.holds [] start;
}

pub withdraw_ready : (m : BookState) (which : Withdrawal) (count : ℕ) (os : List Order) (t t' : Told)
    → count ≡ length (filter (leaves which) m.orders) → os ≡ filter (λ o. not (leaves which o)) m.orders
    → Holds t [] → Tells t (map cancel_row (filter (leaves which) m.orders)) t'
    → Ready (λ e. e ≡ withdrawn which m) (Switched count) (record { orders = os; next = m.next }) t'
withdraw_ready m which count os t t' counted stay start more = record {
  told = map cancel_row (filter (leaves which) m.orders);
  allowed = λ j. done (record { accepted = Switched (counted j); rows = map cancel_row (filter (leaves which) m.orders); after = record { orders = stay j; next = m.next } });
  holds = more.holds [] start;
}
