-- Each call that is accepted leaves the round nothing to do.
use Rattle.std.proofs.Common.{◌≡◌, ℕ, ◌-◌, ◌<◌, false, not, ltb, List, [], ◌∷◌, ◌++◌, length, get_or, Some, None, Result, inl, inr, refl, sym, ap, ◌∙◌, arith}
use Rattle.std.specs.List.{All}
use Rattle.std.proofs.lemmas.Bool.{cases_Bool, cond_both, false_from_ne_true, both_ways}
use Rattle.std.proofs.lemmas.List.{length-append, get_or_append_left}
use Rattle.std.proofs.lemmas.List.Elements.{All-weaker}
use Rattle.std.proofs.lemmas.Option.{slice_get_within, slice_get-get_or}
use Rattle.market.specs.declared.arrival.Arrival.{Arrival}
use Rattle.market.specs.declared.book_id.BookId.{BookId}
use Rattle.market.specs.declared.book_id.BookId.TheVariants.{Instrument, Combination}
use Rattle.market.specs.declared.call.Call.{Call}
use Rattle.market.specs.declared.leg.Leg.{Leg}
use Rattle.market.specs.declared.order.Order.{Order}
use Rattle.market.specs.declared.phase.Withdrawal.{Withdrawal}
use Rattle.market.specs.declared.price.Price.{Price}
use Rattle.market.specs.declared.quote.Quote.{Quote}
use Rattle.market.specs.declared.refusal.Refusal.{Refusal}
use Rattle.market.specs.declared.row.Row.{Row}
use Rattle.market.specs.Amending.{Amends, Amends.in_place, Amends.no_number, Amends.arrives}
use Rattle.market.specs.BookCalls.{BookState, Enters, Enters.no_number, Enters.no_room, Enters.settled, Cancels, Cancels.taken_out, leaves, withdrawn}
use Rattle.market.specs.Combinations.{normal}
use Rattle.market.specs.Endings.{Ending, refused, done, Outcome, close, Follows}
use Rattle.market.specs.Ladders.{net_to, wanted}
use Rattle.market.specs.Legs.{listed}
use Rattle.market.specs.Orders.{lot_book}
use Rattle.market.specs.Quoting.{Quotes, Quotes.no_number, Quotes.no_room_bid, Quotes.no_room_offer, Quotes.placed}
use Rattle.market.specs.Round.{legs_of, eligible, Round, Round.over, Round.takes}
use Rattle.market.specs.Sessions.{Exists}
use Rattle.market.specs.Venues.{View, withdraws, in_phase, at_book, Does, Does.at_fault, Does.enters, Does.amends, Does.quotes, Does.cancels, Does.finds, Does.makes, Does.switches, Takes, Takes.unread, Takes.read}
use Rattle.market.proofs.Thinner.{Thinner, thinner_without, thinner_filter, thinner_all, eligible_before}

-- no resting order, quotes apart, has a unit 1 within its limit
abbrev pub Quiet : List (List Leg) → List Order → Type 0
Quiet cs os = All (λ o. eligible cs os o ≡ false) os

-- each rests in what exists
abbrev pub AllExist : List (List Leg) → List Order → Type 0
AllExist cs os = All (λ o. Exists cs (lot_book o.lot)) os

pub quiet_thinner : (cs : List (List Leg)) {os os' : List Order} → Thinner os os' → Quiet cs os → Quiet cs os'
quiet_thinner cs {os} {os'} t q =
    All-weaker (λ o. eligible cs os o ≡ false) (λ o. eligible cs os' o ≡ false)
    (λ o h. false_from_ne_true (eligible cs os' o) (λ g. both_ways (eligible cs os o) h (eligible_before cs t o g)))
    os' (thinner_all (λ o. eligible cs os o ≡ false) t q)

-- ---- one combination more

legs_of_more : (cs : List (List Leg)) (legs : List Leg) (b : BookId) → Exists cs b → legs_of (cs ++ legs ∷ []) b ≡ legs_of cs b
legs_of_more cs legs (Instrument i) h = refl
legs_of_more cs legs (Combination c) (l, h) = elim (cases_Bool (ltb c 1001)) [
  | inl low ↦ rw low
  | inr high ↦
      let within : c - 1001 < length cs = slice_get_within cs (c - 1001) l (rw high at h) in
      rw high (slice_get-get_or (cs ++ legs ∷ []) (c - 1001) [] (omega (arith, length-append cs (legs ∷ [])))
      ∙ ap Some (get_or_append_left cs (legs ∷ []) [] (c - 1001) within)
      ∙ sym (slice_get-get_or cs (c - 1001) [] within))
]

-- an order in what exists is as eligible with one combination more
pub eligible_more : (cs : List (List Leg)) (legs : List Leg) (os : List Order) (o : Order) → Exists cs (lot_book o.lot) → eligible (cs ++ legs ∷ []) os o ≡ eligible cs os o
eligible_more cs legs os o h = ap (λ l. wanted o.side o.price None (net_to o l os 1)) (legs_of_more cs legs (lot_book o.lot) h)

pub quiet_more : (cs : List (List Leg)) (legs : List Leg) (os : List Order) → AllExist cs os → Quiet cs os → Quiet (cs ++ legs ∷ []) os
quiet_more cs legs os x q = λ k o at. eligible_more cs legs os (get_or os k o) (x k o at) ∙ q k o at

-- ---- the calls of the book

-- where a call is accepted, it leaves the book quiet
abbrev QuietEnd : List (List Leg) → Ending BookState → Type 0
QuietEnd cs (refused e) = Unit {0}
QuietEnd cs (done e) = Quiet cs e.after.orders

cancels_quiet : (cs : List (List Leg)) (m : BookState) (participant number : ℕ) (e : Ending BookState) → Quiet cs m.orders →
    Cancels m participant number e → QuietEnd cs e
cancels_quiet cs m participant number _ q (taken_out before o behind is others mine) = quiet_thinner cs (thinner_without before o behind) (rw is at q)

withdrawn_quiet : (cs : List (List Leg)) (w : Withdrawal) (m : BookState) → Quiet cs m.orders → QuietEnd cs (withdrawn w m)
withdrawn_quiet cs w m q = quiet_thinner cs (thinner_filter (λ o. not (leaves w o)) m.orders) q

module _ (shares : List ℕ → ℕ → List ℕ) where
  -- the round ends when no order is eligible
  pub round_quiet : (cs : List (List Leg)) {f f' : ℕ} {os os' : List Order} {rows : List Row} → Round shares cs f os rows f' os' → Quiet cs os'
  round_quiet cs (over q) = q
  round_quiet cs (takes ahead o behind legs first is fill more) = round_quiet cs more

  enters_quiet : (cs : List (List Leg)) (m : BookState) (a : Arrival) (e : Ending BookState) → Enters shares cs m a e → QuietEnd cs e
  enters_quiet cs m a _ (no_number h) = tt
  enters_quiet cs m a _ (no_room h full) = tt
  enters_quiet cs m a _ (settled h settles round) = round_quiet cs round

  amends_quiet : (cs : List (List Leg)) (m : BookState) (p n q : ℕ) (r : Price) (e : Ending BookState) → Amends shares cs m p n q r e → QuietEnd cs e
  amends_quiet cs m p n q r _ (in_place h round) = round_quiet cs round
  amends_quiet cs m p n q r _ (no_number h spent) = tt
  amends_quiet cs m p n q r _ (arrives h within settles round) = round_quiet cs round

  quotes_quiet : (cs : List (List Leg)) (m : BookState) (quote : Quote) (e : Ending BookState) → Quotes shares cs m quote e → QuietEnd cs e
  quotes_quiet cs m quote _ (no_number old spent) = tt
  quotes_quiet cs m quote _ (no_room_bid old within new full) = tt
  quotes_quiet cs m quote _ (no_room_offer old within bid new full) = tt
  quotes_quiet cs m quote _ (placed old within bid offer round) = round_quiet cs round

-- ---- the calls of a venue

-- a venue with nothing for the round to do
abbrev pub QuietView : View → Type 0
QuietView v = Quiet v.combinations v.book.orders

-- where a call is accepted, it leaves the venue quiet
abbrev QuietDone : Ending View → Type 0
QuietDone (refused e) = Unit {0}
QuietDone (done e) = QuietView e.after

at_book_quiet : (v : View) (e : Ending BookState) → QuietEnd v.combinations e → QuietDone (at_book v e)
at_book_quiet v (refused e) q = tt
at_book_quiet v (done e) q = q

close_quiet : (v : View) (room : ℕ) (e : Ending View) → QuietView v → QuietDone e → QuietView (close v room e).after
close_quiet v room (refused e) q d = q
close_quiet v room (done e) q d = cond_both (ltb room (length e.rows)) _ _ (λ (r : Outcome View). QuietView r.after) (λ _. q) (λ _. d)

module _ (shares : List ℕ → ℕ → List ℕ) (v : View) (q : QuietView v) (x : AllExist v.combinations v.book.orders) where
  does_quiet : (c : Call) (e : Ending View) → Does shares v c e → QuietDone e
  does_quiet c _ (at_fault _ e h) = tt
  does_quiet _ _ (enters p i side n r d e h m) = at_book_quiet v e (enters_quiet shares v.combinations v.book _ e m)
  does_quiet _ _ (amends p n k r e h m) = at_book_quiet v e (amends_quiet shares v.combinations v.book p n k r e m)
  does_quiet _ _ (quotes p i n r k w e h m) = at_book_quiet v e (quotes_quiet shares v.combinations v.book _ e m)
  does_quiet _ _ (cancels p n e h m) = at_book_quiet v e (cancels_quiet v.combinations v.book p n e q m)
  does_quiet _ _ (finds p legs c h k) = q
  does_quiet _ _ (makes p legs h k) = quiet_more v.combinations (normal (listed legs)) v.book.orders x q
  does_quiet _ _ (switches w phase h) =
      at_book_quiet (in_phase v phase) (withdrawn (withdraws w) v.book) (withdrawn_quiet v.combinations (withdraws w) v.book q)

  ends_quiet : (r : Result Call Refusal) (e : Ending View) → Takes shares v r e → QuietDone e
  ends_quiet _ _ (unread e) = tt
  ends_quiet _ _ (read c e d) = does_quiet c e d

  -- and so does every call, as its caller sees it
  pub follows_quiet : (r : Result Call Refusal) (room : ℕ) (answer : Result (ℕ × ℕ) Refusal) (rows : List Row) (v' : View) →
      Follows (Takes shares v r) v room answer rows v' → QuietView v'
  follows_quiet r room answer rows v' f = rw f.left (close_quiet v room f.ending q (ends_quiet r f.ending f.allowed))
