-- Each way in which an arriving order is settled.
use Rattle.std.proofs.Common.{◌≡◌, ℕ, ◌<◌, List, [], ◌∷◌, ◌++◌, Ok, Err, Option, Result, sym, refl, ap, ◌∙◌, subst}
use Rattle.std.specs.Prelude.{IfOk}
use Rattle.market.specs.declared.arrival.Arrival.{Arrival}
use Rattle.market.specs.declared.call.Duration.TheVariants.{Day, Immediate, FillOrKill}
use Rattle.market.specs.declared.leg.Leg.{Leg}
use Rattle.market.specs.declared.order.Order.{Order}
use Rattle.market.specs.declared.refusal.Refusal.{Refusal}
use Rattle.market.specs.declared.row.Row.{Row}
use Rattle.market.specs.BookCalls.{BookState, Matches, Settles, Enters}
use Rattle.market.specs.BookCalls.Settles.{whole, rests, cut, killed}
use Rattle.market.specs.BookCalls.Enters.{no_room}
use Rattle.market.specs.Endings.{refused}
use Rattle.market.specs.Matching.{Match}
use Rattle.market.specs.Orders.{arriving, lot_book, lot_size, quantity_of, sized}
use Rattle.market.specs.Round.{legs_of}
use Rattle.market.specs.Rows.{cancel_row}
use Rattle.book.specs.declared.progress.Progress.{Progress}
use Rattle.book.specs.declared.told.Told.{Told}
use Rattle.book.specs.Matched.{Matched}
use Rattle.book.specs.Reports.{Holds, SameReport, Tells}
use Rattle.book.specs.Settling.{InBounds, Rested, Arrived, Settling}
use Rattle.book.proofs.Reports.{same_then}

-- a match as the market has it, whatever order and orders it was of
pub as_matches : (shares : List ℕ → ℕ → List ℕ) (cs : List (List Leg)) (g : ℕ) (m : BookState) (a : Arrival) (legs : Option (List Leg)) (o : Order) (os₀ : List Order) (rows : List Row) (f q : ℕ) (os : List Order)
    → legs ≡ legs_of cs (lot_book a.lot) → o ≡ arriving a m.next → os₀ ≡ m.orders → Match shares legs o g (quantity_of o) os₀ rows f q os → Matches shares cs g m a rows f q os
as_matches shares cs g m a legs o os₀ rows f q os of is same run =
    subst (λ (l : Option (List Leg)). Match shares l (arriving a m.next) g (lot_size a.lot) m.orders rows f q os) of
    (subst (λ (x : Order). Match shares legs x g (quantity_of x) m.orders rows f q os) is
    (subst (λ (xs : List Order). Match shares legs o g (quantity_of o) xs rows f q os) same run))

-- what is left rests, so the order has come as far as before
pub rested_bounds : (g : ℕ) (o : Order) (at : Progress) (os : List Order) (t : Told) (r : Result Progress Refusal) (os' : List Order) (t' : Told) → InBounds g o at → Rested o at os t r os' t' → IfOk r (λ p. InBounds g o p)
rested_bounds g o at os t (Ok p) os' t' b h = subst (InBounds g o) (sym h.so_far) b
rested_bounds g o at os t (Err e) os' t' b h = tt

-- ---- a day order arrives

module _ (shares : List ℕ → ℕ → List ℕ) (cs : List (List Leg)) (g : ℕ) (o : Order) (os₀ : List Order) (t₀ : Told) (legs : Option (List Leg)) (of : legs ≡ legs_of cs (lot_book o.lot)) (at : Progress) (os : List Order) (t : Told) (run : Matched shares legs o g os₀ t₀ at.next_fill at.left os t) where
  arrives_matched : (m : BookState) (a : Arrival) → m.orders ≡ os₀ → o ≡ arriving a m.next → Matches shares cs g m a run.rows at.next_fill at.left os
  arrives_matched m a same is = as_matches shares cs g m a legs o os₀ run.rows at.next_fill at.left os (of ∙ ap (λ (x : Order). legs_of cs (lot_book x.lot)) is) is (sym same) run.run

  pub arrives_whole : at.left ≡ 0 → Arrived shares cs g o os₀ t₀ (Ok at) os t
  arrives_whole none = record {
    arrives = λ m a same is day. record {
      rows = run.rows;
      settles = subst (λ k. Settles shares cs g m a run.rows at.next_fill k os) (sym none)
          (whole (subst (λ k. Matches shares cs g m a run.rows at.next_fill k os) none (arrives_matched m a same is)));
      more = run.more;
    };
  }

  pub arrives_rested : 0 < at.left → (r : Result Progress Refusal) (os' : List Order) (t' : Told) → Rested o at os t r os' t' → Arrived shares cs g o os₀ t₀ r os' t'
  arrives_rested some (Ok p) os' t' h = record {
    arrives = λ m a same is day.
        let here : os' ≡ os ++ sized (arriving a m.next) at.left ∷ [] = h.orders ∙ ap (λ (x : Order). os ++ sized x at.left ∷ []) is in
        record {
          rows = run.rows;
          settles = subst (λ (x : Progress). Settles shares cs g m a run.rows x.next_fill x.left os') (sym h.so_far)
              (subst (λ (xs : List Order). Settles shares cs g m a run.rows at.next_fill at.left xs) (sym here) (rests day (arrives_matched m a same is) some h.free));
          more = subst (λ (x : Told). Tells t₀ run.rows x) (sym h.told) run.more;
        };
  }
  arrives_rested some (Err e) os' t' h = record {
    arrives = λ m a same is day. record {
      refusal = h.refusal;
      no_room = record { day = day; rows = run.rows; fill = at.next_fill; left = at.left; orders = os; matches = arrives_matched m a same is; some = some; full = h.full };
      back = record { report = same_then t₀ t t' run.more.report h.back.report; wiped = h.back.wiped };
    };
  }

-- ---- an order enters, for any duration

module _ (before : List Order) (n : ℕ) (a : Arrival) (at : Progress) (os : List Order) (t : Told) where
  pub settles_whole : at.left ≡ 0 → Settling before n a at os t (Ok at) os t
  settles_whole none = record {
    report = record { same = refl; long = refl };
    settled = λ shares cs rows few m holds. record {
      rows = rows;
      settles = subst (λ k. Settles shares cs 1 (record { orders = before; next = n }) a rows at.next_fill k os) (sym none)
          (whole (subst (λ k. Matches shares cs 1 (record { orders = before; next = n }) a rows at.next_fill k os) none m));
      holds = holds;
    };
  }

  pub settles_rested : a.duration ≡ Day → 0 < at.left → (o : Order) → o ≡ arriving a n → (r : Result Progress Refusal) (os' : List Order) (t' : Told) → Rested o at os t r os' t' → Settling before n a at os t r os' t'
  settles_rested day some o is (Ok p) os' t' h = record {
    report = rw h.told (record { same = refl; long = refl });
    settled = λ shares cs rows few m holds.
        let here : os' ≡ os ++ sized (arriving a n) at.left ∷ [] = h.orders ∙ ap (λ (x : Order). os ++ sized x at.left ∷ []) is in
        record {
          rows = rows;
          settles = subst (λ (x : Progress). Settles shares cs 1 (record { orders = before; next = n }) a rows x.next_fill x.left os') (sym h.so_far)
              (subst (λ (xs : List Order). Settles shares cs 1 (record { orders = before; next = n }) a rows at.next_fill at.left xs) (sym here) (rests day m some h.free));
          holds = subst (λ (x : Told). Holds x rows) (sym h.told) holds;
        };
  }
  settles_rested day some o is (Err e) os' t' h = record {
    report = h.back.report;
    settled = λ shares cs rows few m holds. (
      subst (λ (x : Refusal). Enters shares cs (record { orders = before; next = n }) a (refused x)) (sym h.refusal)
          (no_room few (record { day = day; rows = rows; fill = at.next_fill; left = at.left; orders = os; matches = m; some = some; full = h.full })),
      h.back.wiped,
    );
  }

  pub settles_cut : (t' : Told) → a.duration ≡ Immediate → 0 < at.left → Tells t (cancel_row (sized (arriving a n) at.left) ∷ []) t' → Settling before n a at os t (Ok at) os t'
  settles_cut t' now-or-never some more = record {
    report = more.report;
    settled = λ shares cs rows few m holds. record {
      rows = rows ++ cancel_row (sized (arriving a n) at.left) ∷ [];
      settles = cut now-or-never m some;
      holds = more.holds rows holds;
    };
  }

  pub settles_killed : (t₁ t' : Told) (os' : List Order) (q : ℕ) → SameReport t t' → a.duration ≡ FillOrKill → 0 < at.left → os' ≡ before → q ≡ lot_size a.lot → Holds t₁ [] → Tells t₁ (cancel_row (arriving a n) ∷ []) t'
      → Settling before n a at os t (Ok (record { next_fill = 1; left = q })) os' t'
  settles_killed t₁ t' os' q same all-or-none some again is start more = record {
    report = same;
    settled = λ shares cs rows few m holds. record {
      rows = cancel_row (arriving a n) ∷ [];
      settles = subst (λ (xs : List Order). Settles shares cs 1 (record { orders = before; next = n }) a (cancel_row (arriving a n) ∷ []) 1 q xs) (sym again)
          (subst (λ k. Settles shares cs 1 (record { orders = before; next = n }) a (cancel_row (arriving a n) ∷ []) 1 k before) (sym is) (killed all-or-none m some));
      holds = more.holds [] start;
    };
  }
