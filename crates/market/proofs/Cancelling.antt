-- Cancellations: what is taken out of the book is what the rows say.
use Rattle.std.proofs.Common.{◌≡◌, ℕ, ◌+◌, ◌≤◌, Bool, cond, not, eqb, List, [], ◌∷◌, ◌++◌, map, filter, refl, ap, arith}
use Rattle.std.proofs.lemmas.List.Sums.{sum_by-append}
use Rattle.std.proofs.lemmas.Bool.Decides.{nat_tests}
use Rattle.market.specs.declared.leg.Leg.{Leg}
use Rattle.market.specs.declared.order.Order.{Order}
use Rattle.market.specs.declared.phase.Withdrawal.{Withdrawal}
use Rattle.market.specs.declared.row.Row.{Row}
use Rattle.market.specs.BookCalls.{BookState, Cancels, Cancels.taken_out, leaves, withdrawn}
use Rattle.market.specs.Endings.{Effect, Ending}
use Rattle.market.specs.Orders.{quantity_of}
use Rattle.market.specs.Rows.{cancel_row}
use Rattle.market.specs.Turns.{trades, is_cancellation, resting}
use Rattle.market.proofs.Fills.{names_other}
use Rattle.market.proofs.Keeping.{Orderly, orderly_thins, none, Keeps}
use Rattle.market.proofs.Saying.{Kept, Ended}
use Rattle.market.proofs.Sums.{counted-cons, resting-cons, gone}
use Rattle.market.proofs.Thinning.{Thins, removed_thins, filtered_thins}

-- a cancellation names its order alone
pub cancel_gone : (i n : ℕ) → 1 ≤ n → (o : Order) (rows : List Row) → gone i n (cancel_row o ∷ rows) ≡ cond (eqb o.number n) (quantity_of o) 0 + gone i n rows
cancel_gone i n h o rows =
    grind (arith, nat_tests, names_other o.side o.number 0 n (λ e. omega arith), counted-cons (trades i) n (cancel_row o) rows, counted-cons is_cancellation n (cancel_row o) rows)

-- a call that is accepted and gives no number
kept_none : (cs : List (List Leg)) (m : BookState) (e : Effect BookState) → Keeps cs m e.rows [] e.after → Kept cs m (λ a new. new ≡ []) e
kept_none cs m e k = record { new = []; fits = refl; keeps = k }

-- ---- one order

pub cancels_keep : (cs : List (List Leg)) (m : BookState) (participant number : ℕ) (e : Ending BookState) → Orderly m → Cancels m participant number e → Ended cs m (λ a new. new ≡ []) e
cancels_keep cs m participant number _ s (taken_out before o behind is others mine) =
    let thins : Thins m.orders (before ++ behind) = rw is (removed_thins before o behind) in
    kept_none cs m _ (record {
      gives = none;
      balance = λ n i h a b. omega (arith, ap (resting n) is, sum_by-append {X = Order}, resting-cons n o behind, cancel_gone i n h o []);
      comes = λ P lasts a new. thins.keeps P lasts a;
      orderly = orderly_thins m (before ++ behind) m.next s thins (omega arith);
    })

-- ---- all that a test takes

withdrawn_balance : (i n : ℕ) → 1 ≤ n → (test : Order → Bool) (os : List Order) →
    resting n os ≡ gone i n (map cancel_row (filter test os)) + resting n (filter (λ o. not (test o)) os)
withdrawn_balance i n h test [] = refl
withdrawn_balance i n h test (o ∷ os) = grind (arith, resting-cons n o, cancel_gone i n h o (map cancel_row (filter test os)), withdrawn_balance i n h test os)

pub withdrawn_keeps : (cs : List (List Leg)) (w : Withdrawal) (m : BookState) → Orderly m → Ended cs m (λ a new. new ≡ []) (withdrawn w m)
withdrawn_keeps cs w m s =
    let thins = filtered_thins (λ o. not (leaves w o)) m.orders in
    kept_none cs m _ (record {
      gives = none;
      balance = λ n i h a b. omega (arith, withdrawn_balance i n h (leaves w) m.orders);
      comes = λ P lasts a new. thins.keeps P lasts a;
      orderly = orderly_thins m (filter (λ o. not (leaves w o)) m.orders) m.next s thins (omega arith);
    })
