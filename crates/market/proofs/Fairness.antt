-- The report of every call is fair, and names whom it should.
use Rattle.std.proofs.Common.{◌++◌, ◌≡◌, ℕ, ◌+◌, ◌-◌, ◌<◌, ◌≤◌, Bool, true, false, List, [], ◌∷◌, map, filter, Some, None, Ok, Result, length, get_or, ltb, eqb, sym, refl, ap, arith}
use Rattle.std.specs.List.{All, Any}
use Rattle.std.proofs.lemmas.Bool.{cond_both}
use Rattle.std.proofs.lemmas.List.Elements.{All-nil, All-cons, All-filter, All-map}
use Rattle.market.specs.declared.arrival.Arrival.{Arrival}
use Rattle.market.specs.declared.call.Call.{Call}
use Rattle.market.specs.declared.call.Call.TheVariants.{Enter, Amend, Quote}
use Rattle.market.specs.declared.call.Duration.{Duration}
use Rattle.market.specs.declared.call.Duration.TheVariants.{Day}
use Rattle.market.specs.declared.leg.Leg.{Leg}
use Rattle.market.specs.declared.order.Order.{Order}
use Rattle.market.specs.declared.price.Price.{Price}
use Rattle.market.specs.declared.refusal.Refusal.{Refusal}
use Rattle.market.specs.declared.row.Row.{Row}
use Rattle.market.specs.declared.side.Side.{Side}
use Rattle.market.specs.declared.side.Side.TheVariants.{Buy, Sell}
use Rattle.market.specs.Acceptances.{acceptance_numbers}
use Rattle.market.specs.Amending.{Amends, Amends.in_place, Amends.no_number, Amends.arrives}
use Rattle.market.specs.BookCalls.{BookState, Matches, Settles, Settles.whole, Settles.rests, Settles.cut, Settles.killed, Enters, Enters.no_number, Enters.no_room, Enters.settled, Cancels, Cancels.taken_out, leaves}
use Rattle.market.specs.Combinations.{normal, made, Rising}
use Rattle.market.specs.Endings.{Ending, refused, done, Outcome, close, Follows}
use Rattle.market.specs.Orders.{lot_book, lot_of, quantity_of, book_number, sized, less, arriving, quote_side, anew}
use Rattle.market.specs.Quoting.{RevisesOld, is_new, PlacesSide, PlacesSide.stands, PlacesSide.arrives, Quotes, Quotes.no_number, Quotes.no_room_bid, Quotes.no_room_offer, Quotes.placed}
use Rattle.market.specs.Revisions.{Revision, Revises, Revises.none, Revises.keeps, Revises.cancels}
use Rattle.market.specs.Round.{legs_of, Round}
use Rattle.market.specs.Rows.{some_rows, cancel_row}
use Rattle.market.specs.Turns.{Turn}
use Rattle.market.specs.Entries.{Entry, Entered}
use Rattle.market.specs.Legs.{listed}
use Rattle.market.specs.Venues.{View, fault, withdraws, at_book, Does, Does.at_fault, Does.enters, Does.amends, Does.quotes, Does.cancels, Does.finds, Does.makes, Does.switches, Takes, Takes.unread, Takes.read}
use Rattle.market.proofs.Amending.{own_number}
use Rattle.market.proofs.FairFills.{Known}
use Rattle.market.proofs.FairMatches.{Lasts, match_told, round_told}
use Rattle.market.proofs.FairReports.{Silent}
use Rattle.market.proofs.Lists.{all_middle}
use Rattle.market.proofs.Lots.{lot_of_book, lot_of_size}
use Rattle.market.proofs.Parties.{one_cancelled, cancels_named, rest_cancelled, revises_named, Told, told_none, told_silent, told_then, Reported, told_report, report_padded, report_blank}
use Rattle.market.proofs.Quoting.{Fit as Fitting, new_wants}
use Rattle.market.proofs.Revising.{cancelled_found}
use Rattle.market.proofs.Saying.{Said, said_enter, said_amend, said_bid, said_offer}
use Rattle.market.proofs.Sizes.{lot_book-sized}

cancel_silent : (o : Order) → Silent (cancel_row o)
cancel_silent o = (refl, refl)

one_silent : (o : Order) → All Silent (cancel_row o ∷ [])
one_silent o = All-cons Silent (cancel_row o) [] (cancel_silent o) (All-nil Silent)

-- ---- an order that is revised

some_silent : (k : ℕ) (rows : List Row) → All Silent rows → All Silent (some_rows k rows)
some_silent k rows a = cond_both (eqb k 0) [] rows (All Silent) (λ e. All-nil Silent) (λ e. a)

-- its rows are cancellations
revises_silent : {test : Order → Bool} {q : ℕ} {r : Price} {os os' : List Order} {v : Revision} {rows : List Row} → Revises test q r os v rows os' → All Silent rows
revises_silent (none others) = All-nil Silent
revises_silent {q = q} (keeps before o behind is others its same) = some_silent (quantity_of o - q) (cancel_row (less o q) ∷ []) (one_silent (less o q))
revises_silent (cancels before o behind is others its differs) = one_silent o

-- ---- a side of a quote

-- as it arrives
abbrev pub side_arrival : ℕ → ℕ → Side → ℕ → Price → Arrival
side_arrival p i s q r = quote_side p s (record { lot = lot_of i q; price = r })

side_some : (p i : ℕ) (s : Side) (q : ℕ) (r : Price) (v : Revision) → is_new (side_arrival p i s q r) v ≡ true → 0 < q
side_some p i s q r v e = rw (← lot_of_size i q) (new_wants (side_arrival p i s q r) v e)

module _ {Message : Type 0} (reading : Message → Result Call Refusal) (h : List (Turn Message)) where
  -- a report of cancellations
  cancels_told : (cs : List (List Leg)) (os : List Order) → All (Known reading h) os → Reported reading h cs (map cancel_row os)
  cancels_told cs os known =
      told_report reading h cs (told_silent reading h cs 0 (map cancel_row os) (All-map Silent cancel_row os (λ i o at. cancel_silent (get_or os i o))) (cancels_named reading h cs os known))

  -- an order that arrives is known where an entry of its number has what it has
  entry_known : (a : Arrival) (n : ℕ) → 0 < n → (x : Entry) → Entered reading h x → x.number ≡ n → x.book ≡ book_number (lot_book a.lot) → x.side ≡ a.side → x.limit ≡ a.price →
      Known reading h (arriving a n)
  entry_known a n some x entered number book side limit = record { numbered = some; limit = (x, entered, number, book, side, limit) }

  -- so is one that a line names, where an entry has what the line has
  line_known : (p i : ℕ) (s : Side) (q : ℕ) (r : Price) (d : Duration) (quote : Bool) {b n : ℕ} → 0 < n → Entered reading h (record { number = b; participant = p; book = i; side = s; quantity = q; limit = r; quote = quote }) → b ≡ n →
      Known reading h (arriving (record { participant = p; side = s; lot = lot_of i q; price = r; duration = d; quote = quote }) n)
  line_known p i s q r d quote {n = n} some entered same =
      entry_known (record { participant = p; side = s; lot = lot_of i q; price = r; duration = d; quote = quote }) n some _ entered same (sym (lot_of_book i q)) refl refl

  -- and one that arrives anew
  anew_known : (o : Order) (q : ℕ) (r : Price) {n p : ℕ} {quote : Bool} → 0 < n → Entered reading h (record { number = n; participant = p; book = book_number (lot_book o.lot); side = o.side; quantity = q; limit = r; quote = quote }) → Known reading h (arriving (anew o q r) n)
  anew_known o q r {n} some entered = entry_known (anew o q r) n some _ entered refl (ap book_number (sym (lot_book-sized o.lot q))) refl refl

  -- a side of a quote, with the number n in the answer, is known where it is new and gets the next number
  abbrev SideKnown : Arrival → Revision → ℕ → ℕ → Type 0
  SideKnown a v n next = is_new a v ≡ true → n ≡ next → Known reading h (arriving a next)

  -- where a call is accepted, its rows are a fair report, and name whom they should
  abbrev pub ToldDone : Ending View → Type 0
  ToldDone (refused e) = Unit {0}
  ToldDone (done e) = Reported reading h e.after.combinations e.rows

  -- what a line that is accepted says of new numbers is entered
  abbrev pub Seen : View → Result Call Refusal → Result (ℕ × ℕ) Refusal → Type 0
  Seen v r answer = (c : Call) (a : ℕ × ℕ) (x : Entry) → r ≡ Ok c → answer ≡ Ok a → Said v.book.orders c a x → v.book.next ≤ x.number → Entered reading h x

  -- the same of a call that is accepted
  abbrev SeenDone : View → Call → Ending View → Type 0
  SeenDone v c (refused e) = Unit {0}
  SeenDone v c (done e) = (x : Entry) → Said v.book.orders c (acceptance_numbers e.accepted) x → v.book.next ≤ x.number → Entered reading h x

  -- and of a message, as it was read
  abbrev SeenMade : View → Result Call Refusal → Ending View → Type 0
  SeenMade v r (refused e) = Unit {0}
  SeenMade v r (done e) = Seen v r (Ok (acceptance_numbers e.accepted))

  module _ (shares : List ℕ → ℕ → List ℕ) (Fit : List Order → Type 0) (lasts : Lasts reading h shares Fit) where
    module _ (cs : List (List Leg)) (rising : (c : ℕ) (legs : List Leg) → made cs c ≡ Some legs → Rising legs) where
      module _ (m : BookState) (a : Arrival) (known : Known reading h (arriving a m.next)) where
        matches_told : {g f q : ℕ} {rows : List Row} {os : List Order} → Matches shares cs g m a rows f q os → Fit m.orders → Told reading h cs g f rows
        matches_told k fit = match_told reading h shares cs rising Fit lasts (legs_of cs (lot_book a.lot)) (arriving a m.next) refl known k fit

        settles_told : {g f q : ℕ} {rows : List Row} {os : List Order} → Settles shares cs g m a rows f q os → Fit m.orders → Told reading h cs g f rows
        settles_told (whole k) fit = matches_told k fit
        settles_told (rests day k some room) fit = matches_told k fit
        settles_told {f = f} {q} (cut immediate k some) fit =
            let o : Order = sized (arriving a m.next) q in
            told_then reading h cs (matches_told k fit) (told_silent reading h cs f (cancel_row o ∷ []) (one_silent o) (rest_cancelled reading h cs (arriving a m.next) q known))
        settles_told {g} (killed kill k some) fit =
            let o : Order = arriving a m.next in
            told_silent reading h cs g (cancel_row o ∷ []) (one_silent o) (one_cancelled reading h cs o known)

      -- a property of what the book is between the steps of a call: it gives numbers from 1, and stays as an order is revised and as one that is known arrives
      pub record Steps (Good : BookState → Type 0) : Type 0 where
        pub numbered : (m : BookState) → Good m → 0 < m.next
        pub fit : (m : BookState) → Good m → Fit m.orders
        pub revises : {test : Order → Bool} {q : ℕ} {r : Price} {v : Revision} {rows : List Row} {os : List Order} (m : BookState) → Good m → Revises test q r m.orders v rows os →
            Good (record { orders = os; next = m.next })
        pub settles : {g f q : ℕ} {rows : List Row} {os : List Order} (m : BookState) (a : Arrival) → Good m → Fitting cs a → Known reading h (arriving a m.next) →
            Settles shares cs g m a rows f q os → Good (record { orders = os; next = m.next + 1 })

      -- a part of a call, from one fill and book to others: its rows are fair and name whom they should, and the book stays good
      record Goes (Good : BookState → Type 0) (g : ℕ) (m : BookState) (rows : List Row) (f : ℕ) (m' : BookState) : Type 0 where
        told : Told reading h cs g f rows
        good : Good m'
        later : m.next ≤ m'.next

      module _ (Good : BookState → Type 0) (steps : Steps Good) where
        -- an order that is known arrives
        arrives_goes : {g f q : ℕ} {rows : List Row} {os : List Order} (m : BookState) (a : Arrival) → Good m → Fitting cs a → Known reading h (arriving a m.next) →
            Settles shares cs g m a rows f q os → Goes Good g m rows f (record { orders = os; next = m.next + 1 })
        arrives_goes m a good fitting known settles = record {
          told = settles_told m a known settles (steps.fit m good);
          good = steps.settles m a good fitting known settles;
          later = omega arith;
        }

        -- an order is revised
        revises_goes : {test : Order → Bool} {q : ℕ} {r : Price} {v : Revision} {rows : List Row} {os : List Order} (g : ℕ) (m : BookState) → Good m → Revises test q r m.orders v rows os →
            Goes Good g m rows g (record { orders = os; next = m.next })
        revises_goes {rows = rows} g m good k = record {
          told = told_silent reading h cs g rows (revises_silent k) (revises_named reading h cs k (lasts.knows m.orders (steps.fit m good)));
          good = steps.revises m good k;
          later = omega arith;
        }

        -- the old sides of a quote are settled
        olds_goes : {bid offer : Arrival} {u v : Revision} {rows : List Row} {os : List Order} (g : ℕ) (m : BookState) → Good m → RevisesOld bid offer m.orders u v rows os →
            Goes Good g m rows g (record { orders = os; next = m.next })
        olds_goes g m good old =
            let bid = revises_goes g m good old.revises_bid in
            let offer = revises_goes g (record { orders = old.between; next = m.next }) bid.good old.revises_offer in
            record { told = rw old.reports (told_then reading h cs bid.told offer.told); good = offer.good; later = omega arith }

        -- a side of a quote is placed, and is known where it is new
        side_goes : {g f n : ℕ} {m m' : BookState} {a : Arrival} {v : Revision} {rows : List Row} → PlacesSide shares cs g m a v n rows f m' → Good m → Fitting cs a →
            SideKnown a v n m.next → Goes Good g m rows f m'
        side_goes {g} (stands old) good fitting known = record { told = told_none reading h cs g; good = good; later = omega arith }
        side_goes {m = m} {a = a} (arrives new settles) good fitting known = arrives_goes m a good fitting (known new refl) settles

        -- the round ends the call
        ends_told : {g f f' : ℕ} {m m' : BookState} {rows rows' : List Row} {os : List Order} → Goes Good g m rows f m' → Round shares cs f m'.orders rows' f' os →
            Told reading h cs g f' (rows ++ rows')
        ends_told {m' = m'} goes round = told_then reading h cs goes.told (round_told reading h shares cs rising Fit lasts round (steps.fit m' goes.good))

    -- what a venue needs for its calls to be fair: legs in rising order, a book that is good, and orders that fit in all that the gate lets pass
    pub record Ready (Good : BookState → Type 0) (v : View) : Type 0 where
      pub rising : (c : ℕ) (legs : List Leg) → made v.combinations c ≡ Some legs → Rising legs
      pub steps : Steps v.combinations rising Good
      pub good : Good v.book
      pub entered : (p i : ℕ) (s : Side) (q : ℕ) (r : Price) (d : Duration) → fault v (Enter p i s q r d) ≡ None →
          Fitting v.combinations (record { participant = p; side = s; lot = lot_of i q; price = r; duration = d; quote = false })
      pub amended : (p n q : ℕ) (r : Price) → fault v (Amend p n q r) ≡ None → (o : Order) → Any (λ x. x ≡ o) v.book.orders → Fitting v.combinations (anew o q r)
      pub bid : (p i q : ℕ) (r : Price) (k : ℕ) (w : Price) → fault v (Quote p i q r k w) ≡ None → Fitting v.combinations (side_arrival p i Buy q r)
      pub offered : (p i q : ℕ) (r : Price) (k : ℕ) (w : Price) → fault v (Quote p i q r k w) ≡ None → Fitting v.combinations (side_arrival p i Sell k w)

    module _ (Good : BookState → Type 0) (v : View) (ready : Ready Good v) where
      enters_told : (p i : ℕ) (s : Side) (q : ℕ) (r : Price) (d : Duration) (e : Ending BookState) → fault v (Enter p i s q r d) ≡ None →
          Enters shares v.combinations v.book (record { participant = p; side = s; lot = lot_of i q; price = r; duration = d; quote = false }) e →
          SeenDone v (Enter p i s q r d) (at_book v e) → ToldDone (at_book v e)
      enters_told p i s q r d _ passes (no_number over) seen = tt
      enters_told p i s q r d _ passes (no_room low full) seen = tt
      enters_told p i s q r d _ passes (settled low settles round) seen =
          let a : Arrival = record { participant = p; side = s; lot = lot_of i q; price = r; duration = d; quote = false } in
          let known = line_known p i s q r d false (ready.steps.numbered v.book ready.good) (seen _ said_enter (omega arith)) refl in
          told_report reading h v.combinations
          (ends_told v.combinations ready.rising Good ready.steps
          (arrives_goes v.combinations ready.rising Good ready.steps v.book a ready.good (ready.entered p i s q r d passes) known settles) round)

      amends_told : (p n q : ℕ) (r : Price) (e : Ending BookState) → fault v (Amend p n q r) ≡ None → Amends shares v.combinations v.book p n q r e →
          SeenDone v (Amend p n q r) (at_book v e) → ToldDone (at_book v e)
      amends_told p n q r _ passes (in_place k round) seen =
          told_report reading h v.combinations (ends_told v.combinations ready.rising Good ready.steps (revises_goes v.combinations ready.rising Good ready.steps 1 v.book ready.good k) round)
      amends_told p n q r _ passes (no_number k over) seen = tt
      amends_told p n q r _ passes (arrives {o} {os = os} k low settles round) seen =
          let goes = revises_goes v.combinations ready.rising Good ready.steps 1 v.book ready.good k in
          let found = cancelled_found k in
          let known = anew_known o q r (ready.steps.numbered v.book ready.good) (seen _ (said_amend o found.there (own_number p n o found.passes)) (omega arith)) in
          told_report reading h v.combinations
          (told_then reading h v.combinations goes.told
          (ends_told v.combinations ready.rising Good ready.steps
          (arrives_goes v.combinations ready.rising Good ready.steps (record { orders = os; next = v.book.next }) (anew o q r) goes.good (ready.amended p n q r passes o found.there) known settles) round))

      quotes_told : (p i q : ℕ) (r : Price) (k : ℕ) (w : Price) (e : Ending BookState) → fault v (Quote p i q r k w) ≡ None →
          Quotes shares v.combinations v.book (record { participant = p; bid = record { lot = lot_of i q; price = r }; offer = record { lot = lot_of i k; price = w } }) e →
          SeenDone v (Quote p i q r k w) (at_book v e) → ToldDone (at_book v e)
      quotes_told p i q r k w _ passes (no_number old over) seen = tt
      quotes_told p i q r k w _ passes (no_room_bid old low new full) seen = tt
      quotes_told p i q r k w _ passes (no_room_offer old low bid new full) seen = tt
      quotes_told p i q r k w _ passes (placed {u} {v = u'} {b} {o} {m' = m'} old low bid offer round) seen =
          let goes = olds_goes v.combinations ready.rising Good ready.steps 1 v.book ready.good old in
          let bid_known : SideKnown (side_arrival p i Buy q r) u b v.book.next = λ new same. line_known p i Buy q r Day true (ready.steps.numbered v.book ready.good) (seen _ (said_bid (side_some p i Buy q r u new)) (omega (arith, same))) same in
          let bids = side_goes v.combinations ready.rising Good ready.steps bid goes.good (ready.bid p i q r k w passes) bid_known in
          let offer_known : SideKnown (side_arrival p i Sell k w) u' o m'.next = λ new same. line_known p i Sell k w Day true (ready.steps.numbered m' bids.good) (seen _ (said_offer (side_some p i Sell k w u' new)) (omega (arith, same, bids.later))) same in
          let offers = side_goes v.combinations ready.rising Good ready.steps offer bids.good (ready.offered p i q r k w passes) offer_known in
          told_report reading h v.combinations
          (told_then reading h v.combinations goes.told (told_then reading h v.combinations bids.told (ends_told v.combinations ready.rising Good ready.steps offers round)))

      all_known : All (Known reading h) v.book.orders
      all_known = lasts.knows v.book.orders (ready.steps.fit v.book ready.good)

      taken_out_told : (p n : ℕ) (e : Ending BookState) → Cancels v.book p n e → ToldDone (at_book v e)
      taken_out_told p n _ (taken_out before o behind parts others its_own) =
          let known = all_middle (Known reading h) before o behind (rw parts at all_known) in
          cancels_told v.combinations (o ∷ []) (All-cons (Known reading h) o [] known (All-nil (Known reading h)))

      does_told : (c : Call) (e : Ending View) → Does shares v c e → SeenDone v c e → ToldDone e
      does_told c _ (at_fault _ e fails) seen = tt
      does_told _ _ (enters p i s q r d e passes k) seen = enters_told p i s q r d e passes k seen
      does_told _ _ (amends p n q r e passes k) seen = amends_told p n q r e passes k seen
      does_told _ _ (quotes p i q r k w e passes d) seen = quotes_told p i q r k w e passes d seen
      does_told _ _ (cancels p n e passes k) seen = taken_out_told p n e k
      does_told _ _ (finds p legs c passes k) seen = told_report reading h v.combinations (told_none reading h v.combinations 0)
      does_told _ _ (makes p legs passes k) seen = let cs = v.combinations ++ normal (listed legs) ∷ [] in told_report reading h cs (told_none reading h cs 0)
      does_told _ _ (switches w phase next) seen =
          cancels_told v.combinations (filter (leaves (withdraws w)) v.book.orders) (All-filter (leaves (withdraws w)) (Known reading h) v.book.orders all_known)

      seen_done : (c : Call) (e : Ending View) → SeenMade v (Ok c) e → SeenDone v c e
      seen_done c (refused e) seen = tt
      seen_done c (done e) seen = λ x said high. seen c (acceptance_numbers e.accepted) x refl refl said high

      takes_told : (r : Result Call Refusal) (e : Ending View) → Takes shares v r e → SeenMade v r e → ToldDone e
      takes_told _ _ (unread e) seen = tt
      takes_told _ _ (read c e k) seen = does_told c e k (seen_done c e seen)

      -- what the caller sees
      close_told : (room : ℕ) (r : Result Call Refusal) (e : Ending View) → Takes shares v r e → Seen v r (close v room e).answer → Reported reading h (close v room e).after.combinations (close v room e).rows
      close_told room r (refused e) k = λ seen. report_blank reading h v.combinations room
      close_told room r (done e) k =
          cond_both (ltb room (length e.rows)) _ _ (λ (o : Outcome View). Seen v r o.answer → Reported reading h o.after.combinations o.rows)
          (λ full seen. report_blank reading h v.combinations room)
          (λ fits seen. report_padded reading h e.after.combinations e.rows (room - length e.rows) (takes_told r (done e) k seen))

      pub follows_told : (t : Turn Message) (v' : View) → Follows (Takes shares v (reading t.message)) v t.room t.answer t.rows v' →
          Seen v (reading t.message) t.answer → Reported reading h v'.combinations t.rows
      follows_told t v' f seen = rw (f.reported, f.left) (close_told t.room (reading t.message) f.ending f.allowed (rw (← f.answered) seen))
