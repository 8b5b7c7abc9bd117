-- What an amended order comes to.
use Rattle.std.proofs.Common.{◌≡◌, ℕ, ◌+◌, ◌-◌, ◌<◌, ◌≤◌, Bool, ◌++◌, List, [], ◌∷◌, length, get_or, Some, None, Option, sym, ap, ◌∙◌, subst, arith}
use Rattle.std.specs.List.{position}
use Rattle.std.proofs.lemmas.List.{append_assoc, length-append}
use Rattle.market.specs.declared.acceptance.Acceptance.TheVariants.{Entered}
use Rattle.market.specs.declared.leg.Leg.{Leg}
use Rattle.market.specs.declared.order.Order.{Order}
use Rattle.market.specs.declared.price.Price.{Price}
use Rattle.market.specs.declared.refusal.Refusal.{Refusal}
use Rattle.market.specs.declared.refusal.Refusal.TheVariants.{NumbersSpent}
use Rattle.market.specs.declared.row.Row.{Row}
use Rattle.market.specs.Amending.{Amends}
use Rattle.market.specs.Amending.Amends.{in_place, no_number, arrives}
use Rattle.market.specs.BookCalls.{BookState}
use Rattle.market.specs.Endings.{refused, done}
use Rattle.market.specs.Orders.{own, anew}
use Rattle.market.specs.Revisions.{cancelled, Revises}
use Rattle.market.specs.Revisions.Revises.{cancels}
use Rattle.market.proofs.Amending.{own_number}
use Rattle.market.proofs.Matches.{match_thins}
use Rattle.book.specs.declared.progress.Progress.{Progress}
use Rattle.book.specs.declared.told.Told.{Told}
use Rattle.book.specs.Reports.{Holds}
use Rattle.book.specs.Revised.{revised_to, Revised}
use Rattle.book.specs.Rounds.{Rounded}
use Rattle.book.specs.Settling.{ArrivedAt, TurnedAway}
use Rattle.book.proofs.Closing.{Ready}
use Rattle.book.proofs.Finding.{found_passes}
use Rattle.book.proofs.Levels.{no_order}

-- where an order is taken out, one order less rests
one_less : (test : Order → Bool) (q : ℕ) (r : Price) {os os' : List Order} {o : Order} {rows : List Row} → Revises test q r os (cancelled o) rows os' → length os ≡ length os' + 1
one_less test q r (cancels before o behind is first passes may) = omega (arith, ap length is, length-append before (o ∷ behind), length-append before behind)

module _ (shares : List ℕ → ℕ → List ℕ) (cs : List (List Leg)) (m : BookState) (p n q : ℕ) (r : Price) (j : Option ℕ) (i : ℕ) (looked : j ≡ position (own p n) m.orders) (is : j ≡ Some i) (os₀ : List Order) (same : os₀ ≡ m.orders) (t₀ : Told) (start : Holds t₀ []) (os : List Order) (t : Told) where
  found : position (own p n) m.orders ≡ Some i
  found = sym looked ∙ is

  of_own : (answer : Option Order) (v : Revised i q r os₀ t₀ answer os t) → Revises (own p n) q r m.orders (revised_to (get_or m.orders i no_order) answer) v.rows os
  of_own answer v =
      subst (λ (xs : List Order). Revises (own p n) q r xs (revised_to (get_or xs i no_order) answer) v.rows os) same
      (v.revises (own p n) no_order (ap (position (own p n)) same ∙ found))

  -- it keeps its place
  pub amends_in_place : Revised i q r os₀ t₀ None os t → (os' : List Order) (t' : Told) → Rounded shares cs 1 os t os' t'
      → Ready (Amends shares cs m p n q r) (Entered n 0) (record { orders = os'; next = m.next }) t'
  amends_in_place v os' t' round = record {
    told = v.rows ++ round.rows;
    allowed = subst (λ k. Amends shares cs m p n q r (done (record { accepted = Entered k 0; rows = v.rows ++ round.rows; after = record { orders = os'; next = m.next } })))
        (own_number p n (get_or m.orders i no_order) (found_passes (own p n) m.orders i no_order found)) (in_place (of_own None v) round.run);
    holds = round.more.holds v.rows (v.more.holds [] start);
  }

  -- it is taken out
  module _ (o : Order) (v : Revised i q r os₀ t₀ (Some o) os t) where
    abbrev pub between : BookState
    between = record { orders = os; next = m.next }

    pub amends_spent : 99999 < m.next → Amends shares cs m p n q r (refused NumbersSpent)
    amends_spent spent = no_number (of_own (Some o) v) spent

    -- that leaves room for it
    pub amends_room : (e : Refusal) (t' : Told) → length m.orders ≤ 256 → TurnedAway shares cs 1 between (anew o q r) t t' e → ⊥
    amends_room e t' few h =
        omega (arith, one_less (own p n) q r (of_own (Some o) v), few, h.no_room.full, (match_thins _ _ _ h.no_room.matches).fewer)

    pub amends_anew : (at : Progress) (os' : List Order) (t' : Told) (os'' : List Order) (t'' : Told) → m.next ≤ 99999
        → ArrivedAt shares cs 1 between (anew o q r) t t' at os' → Rounded shares cs at.next_fill os' t' os'' t''
        → Ready (Amends shares cs m p n q r) (Entered m.next (q - at.left)) (record { orders = os''; next = m.next + 1 }) t''
    amends_anew at os' t' os'' t'' few new round = record {
      told = v.rows ++ (new.rows ++ round.rows);
      allowed = arrives (of_own (Some o) v) few new.settles round.run;
      holds = subst (Holds t'') (append_assoc v.rows new.rows round.rows) (round.more.holds (v.rows ++ new.rows) (new.more.holds v.rows (v.more.holds [] start)));
    }
