-- An order that arrives: what it has is what it trades, what is cancelled of it and what rests.
use Rattle.std.proofs.Common.{◌≡◌, ℕ, ◌+◌, ◌<◌, ◌≤◌, true, cond, eqb, List, [], ◌∷◌, sym, refl, ap, inl, inr, arith}
use Rattle.std.specs.List.{All}
use Rattle.std.proofs.lemmas.List.Elements.{All-head, All-push}
use Rattle.std.proofs.lemmas.List.{length_push}
use Rattle.std.proofs.lemmas.Bool.{cases_eq}
use Rattle.std.proofs.lemmas.Bool.Decides.{nat_tests}
use Rattle.rules.specs.Domain.{Laws}
use Rattle.market.specs.declared.arrival.Arrival.{Arrival}
use Rattle.market.specs.declared.book_id.BookId.{BookId}
use Rattle.market.specs.declared.book_id.BookId.TheVariants.{Instrument, Combination}
use Rattle.market.specs.declared.leg.Leg.{Leg}
use Rattle.market.specs.declared.order.Order.{Order}
use Rattle.market.specs.declared.row.Row.{Row}
use Rattle.market.specs.BookCalls.{BookState, Matches, Settles, Settles.whole, Settles.rests, Settles.cut, Settles.killed, Enters, Enters.no_number, Enters.no_room, Enters.settled}
use Rattle.market.specs.Endings.{Ending}
use Rattle.market.specs.Orders.{lot_book, lot_size, book_number, quantity_of, sized, arriving}
use Rattle.market.specs.Round.{legs_of, Round}
use Rattle.market.specs.Rows.{cancel_row}
use Rattle.market.specs.Turns.{trades, resting}
use Rattle.market.specs.Entries.{Entry}
use Rattle.market.specs.Sessions.{Exists}
use Rattle.market.proofs.Arrivals.{arrival_last}
use Rattle.market.proofs.Cancelling.{cancel_gone}
use Rattle.market.proofs.Crossing.{uncrossed_last}
use Rattle.market.proofs.Fills.{fill_kind}
use Rattle.market.proofs.Keeping.{Orderly, numbers_below, orderly_thins, none, gives_one, EntryOf, Keeps, keeps_then_none}
use Rattle.market.proofs.Matches.{match_thins, match_plain, match_clear, match_own, match_other}
use Rattle.market.proofs.Rounds.{round_thins, round_plain, round_balance}
use Rattle.market.proofs.Saying.{Ended}
use Rattle.market.proofs.Sizes.{lot_size-sized, lot_book-sized, book_kind, TradedBy}
use Rattle.market.proofs.Sums.{trades_no_leg, trades_one, resting-push, gone, gone-append, resting_below, Used, plain_cancels_none}
use Rattle.market.proofs.Thinning.{Thins, thins_same}

-- the entry that an arrival gives
abbrev pub entry : Arrival → ℕ → Entry
entry a n = record { number = n; participant = a.participant; book = book_number (lot_book a.lot); side = a.side; quantity = lot_size a.lot; limit = a.price; quote = a.quote }

-- the legs of a combination that exists
legs_agree : (cs : List (List Leg)) (b : BookId) → Exists cs b → fill_kind (legs_of cs b) ≡ book_kind b
legs_agree cs (Instrument i) h = refl
legs_agree cs (Combination c) h = rw h.1 refl

module _ (shares : List ℕ → ℕ → List ℕ) (laws : Laws shares) (cs : List (List Leg)) where
  -- the round
  pub round_keeps : (m : BookState) → Orderly m → {f f' : ℕ} {rows : List Row} {os : List Order} → Round shares cs f m.orders rows f' os →
      Keeps cs m rows [] (record { orders = os; next = m.next })
  round_keeps m s {rows = rows} {os} round =
      let thins = round_thins shares cs round in
      record {
        gives = none;
        balance = λ n i h a b.
            let traded = round_balance shares cs laws (trades i) (trades_no_leg i) (trades_one i) n h round s.bounded a in
            omega (arith, traded, plain_cancels_none n rows (round_plain shares cs round));
        comes = λ P lasts a new. thins.keeps P lasts a;
        orderly = orderly_thins m os m.next s thins (omega arith);
      }

  -- the order
  module _ (m : BookState) (s : Orderly m) (a : Arrival) (small : lot_size a.lot ≤ 10000) (exists : Exists cs (lot_book a.lot)) (traded : trades (book_number (lot_book a.lot)) (book_kind (lot_book a.lot)) ≡ true) where
    abbrev newcomer : Order
    newcomer = arriving a m.next

    abbrev Met : ℕ → List Row → ℕ → ℕ → List Order → Type 0
    Met g rows f q os = Matches shares cs g m a rows f q os

    met_thins : {g : ℕ} {rows : List Row} {f q : ℕ} {os : List Order} → Met g rows f q os → Thins m.orders os
    met_thins match = match_thins shares (legs_of cs (lot_book a.lot)) newcomer match

    thinner : {g : ℕ} {rows : List Row} {f q : ℕ} {os : List Order} → Met g rows f q os → Orderly (record { orders = os; next = m.next + 1 })
    thinner {os = os} match = orderly_thins m os (m.next + 1) s (met_thins match) (omega arith)

    balanced : {g : ℕ} {rows : List Row} {f q : ℕ} {os : List Order} → Met g rows f q os → (n i : ℕ) → 1 ≤ n → All (TradedBy (trades i) n) m.orders → (m.next ≡ n → book_number (lot_book a.lot) ≡ i) →
        resting n m.orders + cond (eqb m.next n) (lot_size a.lot) 0 ≡ gone i n rows + resting n os + cond (eqb m.next n) q 0
    balanced {rows = rows} {q = q} {os} match n i low by book =
        let legs = legs_of cs (lot_book a.lot) in
        let agrees = legs_agree cs (lot_book a.lot) exists in
        let uncancelled = plain_cancels_none n rows (match_plain shares legs newcomer match) in
        elim (cases_eq n m.next) [
          | inl e ↦
              let main : trades i (fill_kind legs) ≡ true = rw (← book (sym e), agrees) traded in
              let own = rw (← e) at (match_own shares legs newcomer laws (trades i) (trades_no_leg i) main (trades_one i) s.started match s.bounded (numbers_below m s)) in
              let none_before = resting_below m.next n (omega arith) m.orders (numbers_below m s) in
              let none_after = resting_below m.next n (omega arith) os ((met_thins match).keeps (λ x. x.number < m.next) (λ x k h. h) (numbers_below m s)) in
              grind (arith, nat_tests)
          | inr ne ↦ grind (arith, nat_tests, match_other shares legs newcomer laws (trades i) (trades_no_leg i) n low ne agrees match s.bounded by)
        ]

    -- no more is left than arrived
    left_le : {g : ℕ} {rows : List Row} {f q : ℕ} {os : List Order} → Met g rows f q os → q ≤ lot_size a.lot
    left_le match =
        let i = book_number (lot_book a.lot) in
        let main : trades i (fill_kind (legs_of cs (lot_book a.lot))) ≡ true = rw (legs_agree cs (lot_book a.lot) exists) traded in
        omega (arith, match_own shares (legs_of cs (lot_book a.lot)) newcomer laws (trades i) (trades_no_leg i) main (trades_one i) s.started match s.bounded (numbers_below m s))

    -- the entry is that of what rests
    entry_is : (q : ℕ) → EntryOf cs (sized newcomer q) (entry a m.next)
    entry_is q = record { number = refl; participant = refl; book = ap book_number (sym (lot_book-sized a.lot q)); side = refl; limit = refl; quote = refl; traded = rw (lot_book-sized a.lot q) traded; exists = rw (lot_book-sized a.lot q) exists }

    -- the entry of an arrival is in the book that all entries of its number are in
    entry_book : (n i : ℕ) → All (λ e. e.number ≡ n → e.book ≡ i) (entry a m.next ∷ []) → m.next ≡ n → book_number (lot_book a.lot) ≡ i
    entry_book n i b = All-head (λ e. e.number ≡ n → e.book ≡ i) (entry a m.next) [] b

    pub settles_keeps : {g : ℕ} {rows : List Row} {f q : ℕ} {os : List Order} → Settles shares cs g m a rows f q os →
        Keeps cs m rows (entry a m.next ∷ []) (record { orders = os; next = m.next + 1 })
    settles_keeps {rows = rows} (whole match) = record {
      gives = gives_one (entry a m.next);
      balance = λ n i h x b. grind (arith, nat_tests, balanced match n i h x (entry_book n i b));
      comes = λ P lasts x new. (met_thins match).keeps P lasts x;
      orderly = thinner match;
    }
    settles_keeps {rows = rows} {q = q} (rests {os = os} day match some room) =
        let o : Order = sized newcomer q in
        let t = thinner match in
        record {
          gives = gives_one (entry a m.next);
          balance = λ n i h x b. grind (arith, nat_tests, balanced match n i h x (entry_book n i b), resting-push n os o, lot_size-sized a.lot q);
          comes = λ P lasts x new. All-push P os o ((met_thins match).keeps P lasts x) (new o (entry a m.next) (0, entry a m.next, omega arith, refl, refl) (entry_is q));
          orderly = record {
            started = t.started;
            used = All-push (Used (m.next + 1)) os o t.used (s.started, omega arith);
            bounded = record {
              small = All-push (λ x. quantity_of x ≤ 10000) os o t.bounded.small (omega (arith, left_le match, lot_size-sized a.lot q));
              few = omega (arith, length_push os o);
            };
            uncrossed = uncrossed_last o os t.uncrossed (rw (lot_book-sized a.lot q) (match_clear shares (legs_of cs (lot_book a.lot)) newcomer match some));
            by_arrival = arrival_last o os ((met_thins match).keeps (λ x. x.number < m.next) (λ x k h. h) (numbers_below m s)) t.by_arrival;
          };
        }
    settles_keeps {q = q} (cut {rows = rows} immediate match some) =
        let o : Order = sized newcomer q in
        record {
          gives = gives_one (entry a m.next);
          balance = λ n i h x b. grind (arith, nat_tests, balanced match n i h x (entry_book n i b), gone-append i n rows (cancel_row o ∷ []), cancel_gone i n h o [], lot_size-sized a.lot q);
          comes = λ P lasts x new. (met_thins match).keeps P lasts x;
          orderly = thinner match;
        }
    settles_keeps (killed kill match some) = record {
      gives = gives_one (entry a m.next);
      balance = λ n i h x b. omega (arith, cancel_gone i n h newcomer []);
      comes = λ P lasts x new. x;
      orderly = orderly_thins m m.orders (m.next + 1) s (thins_same m.orders) (omega arith);
    }

    -- the answer to an enter has the number that is next, and there is one entry
    pub enters_keeps : (e : Ending BookState) → Enters shares cs m a e → Ended cs m (λ b new. (b.0 ≡ m.next) × (new ≡ entry a m.next ∷ [])) e
    enters_keeps _ (no_number h) = tt
    enters_keeps _ (no_room h full) = tt
    enters_keeps _ (settled {rows} {rows'} {os = os} {os'} h settles round) =
        let k = settles_keeps settles in
        record {
          new = entry a m.next ∷ [];
          fits = (refl, refl);
          keeps = keeps_then_none cs m _ _ rows rows' (entry a m.next ∷ []) k (round_keeps (record { orders = os; next = m.next + 1 }) k.orderly round);
        }
