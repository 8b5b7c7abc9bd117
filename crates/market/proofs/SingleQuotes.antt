-- A participant never has more than one quote on a side of a book.
use Rattle.std.proofs.Common.{◌≡◌, ℕ, ◌+◌, ◌-◌, ◌≤◌, Bool, true, false, cond, not, ◌&&◌, eqb, ltb, List, [], ◌∷◌, length, inl, inr, Result, refl, ap, arith}
use Rattle.std.specs.List.{All, count_by}
use Rattle.std.proofs.lemmas.Bool.{cases_Bool, cond_both, and_parts, eqb-true}
use Rattle.std.proofs.lemmas.List.Elements.{All-head, All-tail}
use Rattle.market.specs.declared.arrival.Arrival.{Arrival}
use Rattle.market.specs.declared.book_id.BookId.{BookId}
use Rattle.market.specs.declared.call.Call.{Call}
use Rattle.market.specs.declared.leg.Leg.{Leg}
use Rattle.market.specs.declared.order.Order.{Order}
use Rattle.market.specs.declared.phase.Withdrawal.{Withdrawal}
use Rattle.market.specs.declared.price.Price.{Price}
use Rattle.market.specs.declared.product.Band.{Band}
use Rattle.market.specs.declared.product.Product.{Product}
use Rattle.market.specs.declared.quote.Quote.{Quote}
use Rattle.market.specs.declared.refusal.Refusal.{Refusal}
use Rattle.market.specs.declared.row.Row.{Row}
use Rattle.market.specs.declared.side.Side.{Side}
use Rattle.market.specs.declared.side.Side.TheVariants.{Buy, Sell}
use Rattle.market.specs.Amending.{Amends, Amends.in_place, Amends.no_number, Amends.arrives}
use Rattle.market.specs.BookCalls.{BookState, Settles, Settles.whole, Settles.rests, Settles.cut, Settles.killed, Enters, Enters.no_number, Enters.no_room, Enters.settled, Cancels, Cancels.taken_out, leaves, withdrawn}
use Rattle.market.specs.Endings.{Ending, refused, done, Outcome, close, Follows}
use Rattle.market.specs.Orders.{lot_book, quantity_of, sized, own, same_book, quotes as is_quote, arriving}
use Rattle.market.specs.Prices.{same_side}
use Rattle.market.specs.Quoting.{bid_of, offer_of, old_side, is_new, PlacesSide, PlacesSide.stands, PlacesSide.arrives, Quotes, Quotes.no_number, Quotes.no_room_bid, Quotes.no_room_offer, Quotes.placed}
use Rattle.market.specs.Revisions.{Revision, cancelled, Revises, Revises.none, Revises.keeps, Revises.cancels}
use Rattle.market.specs.Round.{legs_of}
use Rattle.market.specs.Venues.{View, fresh, withdraws, in_phase, at_book, Does, Does.at_fault, Does.enters, Does.amends, Does.quotes, Does.cancels, Does.finds, Does.makes, Does.switches, Takes, Takes.unread, Takes.read}
use Rattle.market.proofs.Matches.{match_thins}
use Rattle.market.proofs.Places.{same_book_is, same_side_is}
use Rattle.market.proofs.Rounds.{round_thins}
use Rattle.market.proofs.Sizes.{lot_book-sized}
use Rattle.market.proofs.Thinning.{Steady, count-cons, count-append, Thins, removed_thins, filtered_thins}

-- a participant has at most one quote on each side of a book
abbrev pub Single : List Order → Type 0
Single os = (p : ℕ) (b : BookId) (s : Side) → count_by (is_quote p b s) os ≤ 1

abbrev pub SingleQuotes : View → Type 0
SingleQuotes v = Single v.book.orders

pub fresh_single : (product : Product) (bands : List Band) → SingleQuotes (fresh product bands)
fresh_single product bands p b s = omega arith

-- ---- counting quotes

-- an order with another quantity is as much a quote
quotes_sized : (p : ℕ) (b : BookId) (s : Side) (o : Order) (k : ℕ) → is_quote p b s (sized o k) ≡ is_quote p b s o
quotes_sized p b s o k = rw (lot_book-sized o.lot k) refl

quotes_steady : (p : ℕ) (b : BookId) (s : Side) → Steady (is_quote p b s)
quotes_steady p b s o k = rw (lot_book-sized o.lot (quantity_of o - k)) refl

single_thins : {os os' : List Order} → Thins os os' → Single os → Single os'
single_thins thins h p b s = omega (arith, thins.counts (is_quote p b s) (quotes_steady p b s), h p b s)

-- where no order passes, the count is 0
count_none : (test : Order → Bool) (os : List Order) → All (λ o. test o ≡ false) os → count_by test os ≡ 0
count_none test [] a = refl
count_none test (o ∷ os) a =
    grind (arith, All-head (λ x. test x ≡ false) o os a, count-cons test o os, count_none test os (All-tail (λ x. test x ≡ false) o os a))

-- an order with another quantity counts as much
count_sized : (p : ℕ) (b : BookId) (s : Side) (o : Order) (k : ℕ) (os : List Order) → count_by (is_quote p b s) (sized o k ∷ os) ≡ count_by (is_quote p b s) (o ∷ os)
count_sized p b s o k os = grind (arith, quotes_sized p b s o k, count-cons (is_quote p b s) (sized o k) os, count-cons (is_quote p b s) o os)

-- ---- a revision

-- it adds no quote
revises_count : {test : Order → Bool} {q : ℕ} {r : Price} {os os' : List Order} {v : Revision} {rows : List Row} → Revises test q r os v rows os' →
    (p : ℕ) (b : BookId) (s : Side) → count_by (is_quote p b s) os' ≤ count_by (is_quote p b s) os
revises_count (none fail) p b s = omega arith
revises_count {q = q} (keeps before o behind is others mine stays) p b s =
    let test = is_quote p b s in
    omega (arith, ap (count_by test) is, count-append test before (o ∷ behind), count-append test before (sized o q ∷ behind), count_sized p b s o q behind)
revises_count (cancels before o behind is others mine goes) p b s =
    let test = is_quote p b s in
    omega (arith, ap (count_by test) is, count-append test before (o ∷ behind), count-append test before behind, count-cons test o behind)

revises_single : {test : Order → Bool} {q : ℕ} {r : Price} {os os' : List Order} {v : Revision} {rows : List Row} → Revises test q r os v rows os' → Single os → Single os'
revises_single revision h p b s = omega (arith, revises_count revision p b s, h p b s)

-- where the side that comes is new, none is left of at most one old side
old_gone : (a : Arrival) {test : Order → Bool} {q : ℕ} {r : Price} {os os' : List Order} {v : Revision} {rows : List Row} → Revises test q r os v rows os' →
    is_new a v ≡ true → count_by test os ≤ 1 → count_by test os' ≡ 0
old_gone a {test} {os = os} (none fail) new h = count_none test os fail
old_gone a (keeps before o behind is others mine stays) new h = absurd (cc)
old_gone a {test} (cancels before o behind is others mine goes) new h =
    grind (arith, ap (count_by test) is, count-append test before (o ∷ behind), count-append test before behind, count-cons test o behind, mine)

cancelled_passes : {test : Order → Bool} {q : ℕ} {r : Price} {os os' : List Order} {o : Order} {rows : List Row} → Revises test q r os (cancelled o) rows os' → test o ≡ true
cancelled_passes (cancels before o behind is others mine goes) = mine

-- an order that may be amended is no quote
own_no_quote : (p n : ℕ) (o : Order) → own p n o ≡ true → o.quote ≡ false
own_no_quote p n o h = grind arith

-- ---- an order that arrives

-- a side that is new finds no quote in its place
abbrev Free : Arrival → Revision → List Order → Type 0
Free a v os = is_new a v ≡ true → count_by (old_side a) os ≡ 0

-- a quote of this participant, book and side takes the place of the old one
none_there : (a : Arrival) (n : ℕ) (os : List Order) → count_by (old_side a) os ≡ 0 → (p : ℕ) (b : BookId) (s : Side) → is_quote p b s (arriving a n) ≡ true → count_by (is_quote p b s) os ≡ 0
none_there a n os free p b s h =
    let mine = and_parts (eqb a.participant p) (same_book (lot_book a.lot) b && same_side a.side s) (and_parts a.quote _ h).1 in
    let there = and_parts (same_book (lot_book a.lot) b) (same_side a.side s) mine.1 in
    rw (eqb-true a.participant p mine.0, same_book_is (lot_book a.lot) b there.0, same_side_is a.side s there.1) at free

-- where a call is accepted, it leaves single quotes
abbrev SingleEnd : Ending BookState → Type 0
SingleEnd (refused e) = Unit {0}
SingleEnd (done e) = Single e.after.orders

module _ (shares : List ℕ → ℕ → List ℕ) (cs : List (List Leg)) where
  -- an order that settles adds at most itself
  settles_count : {g : ℕ} {m : BookState} {a : Arrival} {rows : List Row} {f q : ℕ} {os : List Order} → Settles shares cs g m a rows f q os → (p : ℕ) (b : BookId) (s : Side) →
      count_by (is_quote p b s) os ≤ count_by (is_quote p b s) m.orders + cond (is_quote p b s (arriving a m.next)) 1 0
  settles_count {m = m} {a} (whole match) p b s =
      omega (arith, (match_thins shares (legs_of cs (lot_book a.lot)) (arriving a m.next) match).counts (is_quote p b s) (quotes_steady p b s))
  settles_count {m = m} {a} {q = q} (rests {os = os} day match some room) p b s =
      let test = is_quote p b s in
      let o = arriving a m.next in
      let thins = match_thins shares (legs_of cs (lot_book a.lot)) o match in
      omega (arith, thins.counts test (quotes_steady p b s), count-append test os (sized o q ∷ []), count_sized p b s o q [], count-cons test o [])
  settles_count {m = m} {a} (cut immediate match some) p b s =
      omega (arith, (match_thins shares (legs_of cs (lot_book a.lot)) (arriving a m.next) match).counts (is_quote p b s) (quotes_steady p b s))
  settles_count (killed kill match some) p b s = omega arith

  -- an order that is no quote adds none
  settles_single : {g : ℕ} {m : BookState} {a : Arrival} {rows : List Row} {f q : ℕ} {os : List Order} → Settles shares cs g m a rows f q os → a.quote ≡ false →
      Single m.orders → Single os
  settles_single settles plain h p b s = grind (arith, settles_count settles p b s, h p b s, plain)

  -- ---- a side of a quote

  -- it adds at most itself, where none was
  placed_single : {g : ℕ} {m : BookState} {a : Arrival} {v : Revision} {n : ℕ} {rows : List Row} {f : ℕ} {m' : BookState} → PlacesSide shares cs g m a v n rows f m' →
      Free a v m.orders → Single m.orders → Single m'.orders
  placed_single (stands old) free h p b s = h p b s
  placed_single {m = m} {a} (arrives new settles) free h p b s = elim (cases_Bool (is_quote p b s (arriving a m.next))) [
    | inl mine ↦ grind (arith, settles_count settles p b s, none_there a m.next m.orders (free new) p b s mine)
    | inr other ↦ grind (arith, settles_count settles p b s, h p b s, other)
  ]

  -- it adds none on the other side
  placed_elsewhere : {g : ℕ} {m : BookState} {a : Arrival} {v : Revision} {n : ℕ} {rows : List Row} {f : ℕ} {m' : BookState} → PlacesSide shares cs g m a v n rows f m' →
      (p : ℕ) (b : BookId) (s : Side) → same_side a.side s ≡ false → count_by (is_quote p b s) m'.orders ≤ count_by (is_quote p b s) m.orders
  placed_elsewhere (stands old) p b s apart = omega arith
  placed_elsewhere {m = m} {a} (arrives new settles) p b s apart =
      let other : is_quote p b s (arriving a m.next) ≡ false = grind (arith, apart) in
      grind (arith, settles_count settles p b s, other)

  -- ---- the calls of the book

  enters_single : (m : BookState) (a : Arrival) (e : Ending BookState) → a.quote ≡ false → Single m.orders → Enters shares cs m a e → SingleEnd e
  enters_single m a _ plain h (no_number k) = tt
  enters_single m a _ plain h (no_room k full) = tt
  enters_single m a _ plain h (settled k settles round) = single_thins (round_thins shares cs round) (settles_single settles plain h)

  amends_single : (m : BookState) (p n q : ℕ) (r : Price) (e : Ending BookState) → Single m.orders → Amends shares cs m p n q r e → SingleEnd e
  amends_single m p n q r _ h (in_place revision round) = single_thins (round_thins shares cs round) (revises_single revision h)
  amends_single m p n q r _ h (no_number revision spent) = tt
  amends_single m p n q r _ h (arrives {o = o} revision within settles round) =
      single_thins (round_thins shares cs round) (settles_single settles (own_no_quote p n o (cancelled_passes revision)) (revises_single revision h))

  quotes_single : (m : BookState) (quote : Quote) (e : Ending BookState) → Single m.orders → Quotes shares cs m quote e → SingleEnd e
  quotes_single m quote _ h (no_number old spent) = tt
  quotes_single m quote _ h (no_room_bid old within new full) = tt
  quotes_single m quote _ h (no_room_offer old within bid new full) = tt
  quotes_single m quote _ h (placed {u} {v} {os = os} {m' = m'} old within bid offer round) =
      let a = bid_of quote in
      let z = offer_of quote in
      let p = quote.participant in
      let between = revises_single old.revises_bid h in
      let bid_free : Free a u os = λ new. omega (arith, old_gone a old.revises_bid new (h p (lot_book a.lot) Buy), revises_count old.revises_offer p (lot_book a.lot) Buy) in
      let offer_free : Free z v m'.orders = λ new.
      omega (arith, old_gone z old.revises_offer new (between p (lot_book z.lot) Sell), placed_elsewhere bid p (lot_book z.lot) Sell refl) in
      single_thins (round_thins shares cs round) (placed_single offer offer_free (placed_single bid bid_free (revises_single old.revises_offer between)))

cancels_single : (m : BookState) (p n : ℕ) (e : Ending BookState) → Single m.orders → Cancels m p n e → SingleEnd e
cancels_single m p n _ h (taken_out before o behind is others mine) = single_thins (removed_thins before o behind) (rw is at h)

withdrawn_single : (w : Withdrawal) (m : BookState) → Single m.orders → SingleEnd (withdrawn w m)
withdrawn_single w m h = single_thins (filtered_thins (λ o. not (leaves w o)) m.orders) h

-- ---- the calls of a venue

-- where a call is accepted, it leaves the venue with single quotes
abbrev SingleDone : Ending View → Type 0
SingleDone (refused e) = Unit {0}
SingleDone (done e) = SingleQuotes e.after

at_book_single : (v : View) (e : Ending BookState) → SingleEnd e → SingleDone (at_book v e)
at_book_single v (refused e) h = tt
at_book_single v (done e) h = h

close_single : (v : View) (room : ℕ) (e : Ending View) → SingleQuotes v → SingleDone e → SingleQuotes (close v room e).after
close_single v room (refused e) h d = h
close_single v room (done e) h d = cond_both (ltb room (length e.rows)) _ _ (λ (r : Outcome View). SingleQuotes r.after) (λ _. h) (λ _. d)

module _ (shares : List ℕ → ℕ → List ℕ) where
  does_single : (v : View) (c : Call) (e : Ending View) → SingleQuotes v → Does shares v c e → SingleDone e
  does_single v c _ h (at_fault _ e k) = tt
  does_single v _ _ h (enters p i side q r d e k m) = at_book_single v e (enters_single shares v.combinations v.book _ e refl h m)
  does_single v _ _ h (amends p n q r e k m) = at_book_single v e (amends_single shares v.combinations v.book p n q r e h m)
  does_single v _ _ h (quotes p i q r k w e f m) = at_book_single v e (quotes_single shares v.combinations v.book _ e h m)
  does_single v _ _ h (cancels p n e k m) = at_book_single v e (cancels_single v.book p n e h m)
  does_single v _ _ h (finds p legs c k m) = h
  does_single v _ _ h (makes p legs k m) = h
  does_single v _ _ h (switches w phase k) = at_book_single (in_phase v phase) (withdrawn (withdraws w) v.book) (withdrawn_single (withdraws w) v.book h)

  takes_single : (v : View) (r : Result Call Refusal) (e : Ending View) → SingleQuotes v → Takes shares v r e → SingleDone e
  takes_single v _ _ h (unread e) = tt
  takes_single v _ _ h (read c e d) = does_single v c e h d

  -- a call that follows the rules keeps it
  pub follows_single : (u v : View) (r : Result Call Refusal) (room : ℕ) (answer : Result (ℕ × ℕ) Refusal) (rows : List Row) → SingleQuotes u →
      Follows (Takes shares u r) u room answer rows v → SingleQuotes v
  follows_single u v r room answer rows h f = rw f.left (close_single u room f.ending h (takes_single u r f.ending h f.allowed))
