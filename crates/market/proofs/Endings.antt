-- The rules allow a message at most one ending.
use Rattle.std.proofs.Common.{◌≡◌, ℕ, ◌+◌, ◌<◌, ◌≤◌, Bool, true, false, List, [], ◌∷◌, ◌++◌, length, inl, inr, refl, ap, arith}
use Rattle.std.specs.List.{All}
use Rattle.std.proofs.lemmas.Bool.{cases_lt, both_ways}
use Rattle.std.proofs.lemmas.List.Elements.{All-head, All-tail}
use Rattle.market.specs.declared.arrival.Arrival.{Arrival}
use Rattle.market.specs.declared.call.Call.{Call}
use Rattle.market.specs.declared.leg.Leg.{Leg}
use Rattle.market.specs.declared.order.Order.{Order}
use Rattle.market.specs.declared.price.Price.{Price}
use Rattle.market.specs.declared.quote.Quote.{Quote}
use Rattle.market.specs.declared.row.Row.{Row}
use Rattle.market.specs.Amending.{Amends, Amends.in_place, Amends.no_number, Amends.arrives}
use Rattle.market.specs.BookCalls.{BookState, Matches, Settles, Settles.whole, Settles.rests, Settles.cut, Settles.killed, NoRoom, Enters, Enters.no_number, Enters.no_room, Enters.settled, Cancels, Cancels.taken_out}
use Rattle.market.specs.Combinations.{FirstMade}
use Rattle.market.specs.Endings.{Ending}
use Rattle.market.specs.Legs.{listed}
use Rattle.market.specs.Orders.{lot_book, lot_size, arriving, own, anew}
use Rattle.market.specs.Quoting.{bid_of, offer_of, old_side, RevisesOld, is_new, needs, PlacesSide, PlacesSide.stands, PlacesSide.arrives, Quotes, Quotes.no_number, Quotes.no_room_bid, Quotes.no_room_offer, Quotes.placed}
use Rattle.market.specs.Revisions.{cut_rows, Revision, kept, cancelled, Revises, Revises.none, Revises.keeps, Revises.cancels}
use Rattle.market.specs.Round.{legs_of}
use Rattle.market.specs.Rows.{cancel_row}
use Rattle.market.specs.Unique.{RulesDetermine}
use Rattle.market.specs.Venues.{View, at_book, defined, Does, Does.at_fault, Does.enters, Does.amends, Does.quotes, Does.cancels, Does.finds, Does.makes, Does.switches, Takes.unread, Takes.read}
use Rattle.market.proofs.Lists.{all_middle}
use Rattle.market.proofs.Unique.{Same, match_unique}
use Rattle.market.proofs.UniqueRound.{SamePart, round_unique}

-- ---- an order that arrives

module _ (shares : List ℕ → ℕ → List ℕ) (cs : List (List Leg)) (g : ℕ) (m : BookState) (a : Arrival) where
  same_match : {rows : List Row} {f q : ℕ} {os : List Order} → Matches shares cs g m a rows f q os →
      {rows₂ : List Row} {f₂ q₂ : ℕ} {os₂ : List Order} → Matches shares cs g m a rows₂ f₂ q₂ os₂ → Same rows rows₂ f f₂ q q₂ os os₂
  same_match match other = match_unique shares (legs_of cs (lot_book a.lot)) (arriving a m.next) match other

  -- an order that trades whole leaves nothing open
  none_left : {rows : List Row} {f : ℕ} {os : List Order} → Matches shares cs g m a rows f 0 os →
      {rows₂ : List Row} {f₂ q₂ : ℕ} {os₂ : List Order} → Matches shares cs g m a rows₂ f₂ q₂ os₂ → 0 < q₂ → ⊥
  none_left match other some = let s = same_match match other in omega arith

  settles_unique : {rows : List Row} {f q : ℕ} {os : List Order} → Settles shares cs g m a rows f q os →
      {rows₂ : List Row} {f₂ q₂ : ℕ} {os₂ : List Order} → Settles shares cs g m a rows₂ f₂ q₂ os₂ → Same rows rows₂ f f₂ q q₂ os os₂
  settles_unique (whole match) (whole match') = same_match match match'
  settles_unique (whole match) (rests day match' some room) = absurd (none_left match match' some)
  settles_unique (whole match) (cut immediate match' some) = absurd (none_left match match' some)
  settles_unique (whole match) (killed kill match' some) = absurd (none_left match match' some)
  settles_unique (rests day match some room) (whole match') = absurd (none_left match' match some)
  settles_unique (rests day match some room) (rests day' match' some' room') =
      let s = same_match match match' in record { rows_are = s.rows_are; fill_is = s.fill_is; left_is = s.left_is; book_is = cc (s.book_is, s.left_is) }
  settles_unique (rests day match some room) (cut immediate match' some') = cc
  settles_unique (rests day match some room) (killed kill match' some') = cc
  settles_unique (cut immediate match some) (whole match') = absurd (none_left match' match some)
  settles_unique (cut immediate match some) (rests day match' some' room') = cc
  settles_unique (cut immediate match some) (cut immediate' match' some') =
      let s = same_match match match' in record { rows_are = cc (s.rows_are, s.left_is); fill_is = s.fill_is; left_is = s.left_is; book_is = s.book_is }
  settles_unique (cut immediate match some) (killed kill match' some') = cc
  settles_unique (killed kill match some) (whole match') = absurd (none_left match' match some)
  settles_unique (killed kill match some) (rests day match' some' room') = cc
  settles_unique (killed kill match some) (cut immediate match' some') = cc
  settles_unique (killed kill match some) (killed kill' match' some') = search

  -- an order that settles finds room where it is to rest
  room_found : {rows : List Row} {f q : ℕ} {os : List Order} → Settles shares cs g m a rows f q os → NoRoom shares cs g m a → ⊥
  room_found (whole match) full = none_left match full.matches full.some
  room_found (rests day match some room) full = let s = same_match match full.matches in omega (arith, full.full, ap length s.book_is)
  room_found (cut immediate match some) full = let day = full.day in cc
  room_found (killed kill match some) full = let day = full.day in cc

-- ---- enter

module _ (shares : List ℕ → ℕ → List ℕ) (cs : List (List Leg)) (m : BookState) (a : Arrival) where
  pub enters_unique : {e e' : Ending BookState} → Enters shares cs m a e → Enters shares cs m a e' → e ≡ e'
  enters_unique (no_number h) (no_number h') = refl
  enters_unique (no_number h) (no_room h' full) = absurd (omega arith)
  enters_unique (no_number h) (settled h' s round) = absurd (omega arith)
  enters_unique (no_room h full) (no_number h') = absurd (omega arith)
  enters_unique (no_room h full) (no_room h' full') = refl
  enters_unique (no_room h full) (settled h' s round) = absurd (room_found shares cs 1 m a s full)
  enters_unique (settled h s round) (no_number h') = absurd (omega arith)
  enters_unique (settled h s round) (no_room h' full) = absurd (room_found shares cs 1 m a s full)
  enters_unique (settled h s round) (settled h' s' round') =
      let same = settles_unique shares cs 1 m a s s' in
      let r = round_unique shares cs round (rw (← same.fill_is, ← same.book_is) at round') in
      cc (same.rows_are, same.left_is, r.rows_are, r.book_is)

-- ---- the first order that passes a test

first_unique : (test : Order → Bool) (xs : List Order) (o : Order) (ys xs' : List Order) (o' : Order) (ys' : List Order) → xs ++ (o ∷ ys) ≡ xs' ++ (o' ∷ ys') →
    All (λ x. test x ≡ false) xs → All (λ x. test x ≡ false) xs' → test o ≡ true → test o' ≡ true → SamePart xs xs' o o' ys ys'
first_unique test [] o ys [] o' ys' e a a' h h' = record { ahead_is = refl; order_is = cc; behind_is = cc }
first_unique test [] o ys (x ∷ xs') o' ys' e a a' h h' = let no = All-head (λ y. test y ≡ false) x xs' a' in absurd (cc)
first_unique test (x ∷ xs) o ys [] o' ys' e a a' h h' = let no = All-head (λ y. test y ≡ false) x xs a in absurd (cc)
first_unique test (x ∷ xs) o ys (x' ∷ xs') o' ys' e a a' h h' =
    let r = first_unique test xs o ys xs' o' ys' (cc) (All-tail (λ y. test y ≡ false) x xs a) (All-tail (λ y. test y ≡ false) x' xs' a') h h' in
    record { ahead_is = cc (r.ahead_is, e); order_is = r.order_is; behind_is = r.behind_is }

-- an order that passes is not among those of which none does
none_passes : (test : Order → Bool) (os before : List Order) (o : Order) (behind : List Order) → All (λ x. test x ≡ false) os → os ≡ before ++ (o ∷ behind) → test o ≡ true → ⊥
none_passes test os before o behind fail is h =
    let no = all_middle (λ x. test x ≡ false) before o behind (rw is at fail) in cc

-- ---- cancel

pub cancels_unique : (m : BookState) (p n : ℕ) {e e' : Ending BookState} → Cancels m p n e → Cancels m p n e' → e ≡ e'
cancels_unique m p n (taken_out xs o ys is others mine) (taken_out xs' o' ys' is' others' mine') =
    let r = first_unique (own p n) xs o ys xs' o' ys' (cc) others others' mine mine' in
    cc (r.ahead_is, r.order_is, r.behind_is)

-- ---- a revision

-- two ends of a revision are the same
record SameRevision (u v : Revision) (rows rows' : List Row) (os os' : List Order) : Type 0 where
  revision_is : u ≡ v
  rows_are : rows ≡ rows'
  book_is : os ≡ os'

module _ (test : Order → Bool) (q : ℕ) (r : Price) (os : List Order) where
  revises_unique : {u : Revision} {rows : List Row} {os₁ : List Order} → Revises test q r os u rows os₁ →
      {v : Revision} {rows₂ : List Row} {os₂ : List Order} → Revises test q r os v rows₂ os₂ → SameRevision u v rows rows₂ os₁ os₂
  revises_unique (none fail) (none fail') = record { revision_is = refl; rows_are = refl; book_is = refl }
  revises_unique (none fail) (keeps xs o ys is others mine stays) = absurd (none_passes test os xs o ys fail is mine)
  revises_unique (none fail) (cancels xs o ys is others mine goes) = absurd (none_passes test os xs o ys fail is mine)
  revises_unique (keeps xs o ys is others mine stays) (none fail) = absurd (none_passes test os xs o ys fail is mine)
  revises_unique (keeps xs o ys is others mine stays) (keeps xs' o' ys' is' others' mine' stays') =
      let s = first_unique test xs o ys xs' o' ys' (cc) others others' mine mine' in
      record { revision_is = ap (λ x. kept x.number) s.order_is; rows_are = ap (λ x. cut_rows x q) s.order_is; book_is = cc (s.ahead_is, s.order_is, s.behind_is) }
  revises_unique (keeps xs o ys is others mine stays) (cancels xs' o' ys' is' others' mine' goes) =
      let s = first_unique test xs o ys xs' o' ys' (cc) others others' mine mine' in absurd (cc (s.order_is, stays, goes))
  revises_unique (cancels xs o ys is others mine goes) (none fail) = absurd (none_passes test os xs o ys fail is mine)
  revises_unique (cancels xs o ys is others mine goes) (keeps xs' o' ys' is' others' mine' stays) =
      let s = first_unique test xs o ys xs' o' ys' (cc) others others' mine mine' in absurd (cc (s.order_is, stays, goes))
  revises_unique (cancels xs o ys is others mine goes) (cancels xs' o' ys' is' others' mine' goes') =
      let s = first_unique test xs o ys xs' o' ys' (cc) others others' mine mine' in
      record { revision_is = ap cancelled s.order_is; rows_are = ap (λ x. cancel_row x ∷ []) s.order_is; book_is = cc (s.ahead_is, s.behind_is) }

-- ---- amend

module _ (shares : List ℕ → ℕ → List ℕ) (cs : List (List Leg)) (m : BookState) (p n q : ℕ) (r : Price) where
  -- an order does not both keep its place and go
  kept_or_gone : {k : ℕ} {o : Order} {rows rows₂ : List Row} {os os₂ : List Order} → Revises (own p n) q r m.orders (kept k) rows os →
      Revises (own p n) q r m.orders (cancelled o) rows₂ os₂ → ⊥
  kept_or_gone h k = let s = revises_unique (own p n) q r m.orders h k in let e = s.revision_is in cc

  pub amends_unique : {e e' : Ending BookState} → Amends shares cs m p n q r e → Amends shares cs m p n q r e' → e ≡ e'
  amends_unique (in_place h round) (in_place h' round') =
      let s = revises_unique (own p n) q r m.orders h h' in
      let t = round_unique shares cs round (rw (← s.book_is) at round') in
      cc (s.revision_is, s.rows_are, t.rows_are, t.book_is)
  amends_unique (in_place h round) (no_number h' over) = absurd (kept_or_gone h h')
  amends_unique (in_place h round) (arrives h' within settles round') = absurd (kept_or_gone h h')
  amends_unique (no_number h over) (in_place h' round) = absurd (kept_or_gone h' h)
  amends_unique (no_number h over) (no_number h' over') = refl
  amends_unique (no_number h over) (arrives h' within settles round) = absurd (omega arith)
  amends_unique (arrives h within settles round) (in_place h' round') = absurd (kept_or_gone h' h)
  amends_unique (arrives h within settles round) (no_number h' over) = absurd (omega arith)
  amends_unique (arrives {o = o} {os = os} h within settles round) (arrives {o = o'} h' within' settles' round') =
      let s = revises_unique (own p n) q r m.orders h h' in
      let one : o' ≡ o = cc (s.revision_is) in
      let t = settles_unique shares cs 1 (record { orders = os; next = m.next }) (anew o q r) settles (rw (one, ← s.book_is) at settles') in
      let u = round_unique shares cs round (rw (← t.fill_is, ← t.book_is) at round') in
      cc (s.rows_are, t.rows_are, t.left_is, u.rows_are, u.book_is)

-- ---- quote

-- two ends of the old sides are the same
record SameOld (u u' v v' : Revision) (rows rows' : List Row) (os os' : List Order) : Type 0 where
  bid_is : u ≡ u'
  offer_is : v ≡ v'
  rows_are : rows ≡ rows'
  book_is : os ≡ os'

settles_old_unique : {bid offer : Arrival} {os : List Order} {u v : Revision} {rows : List Row} {os₁ : List Order} → RevisesOld bid offer os u v rows os₁ →
    {u' v' : Revision} {rows' : List Row} {os₂ : List Order} → RevisesOld bid offer os u' v' rows' os₂ → SameOld u u' v v' rows rows' os₁ os₂
settles_old_unique {bid} {offer} {os} old other =
    let b = revises_unique (old_side bid) (lot_size bid.lot) bid.price os old.revises_bid other.revises_bid in
    let o = revises_unique (old_side offer) (lot_size offer.lot) offer.price old.between old.revises_offer (rw (← b.book_is) at other.revises_offer) in
    record { bid_is = b.revision_is; offer_is = o.revision_is; rows_are = cc (old.reports, other.reports, b.rows_are, o.rows_are); book_is = o.book_is }

-- two ends of a side are the same
record SamePlace (n n' : ℕ) (rows rows' : List Row) (f f' : ℕ) (m m' : BookState) : Type 0 where
  number_is : n ≡ n'
  rows_are : rows ≡ rows'
  fill_is : f ≡ f'
  book_is : m ≡ m'

module _ (shares : List ℕ → ℕ → List ℕ) (cs : List (List Leg)) where
  places_side_unique : {g : ℕ} {m : BookState} {a : Arrival} {v : Revision} {n : ℕ} {rows : List Row} {f : ℕ} {m₁ : BookState} → PlacesSide shares cs g m a v n rows f m₁ →
      {n' : ℕ} {rows' : List Row} {f' : ℕ} {m₂ : BookState} → PlacesSide shares cs g m a v n' rows' f' m₂ → SamePlace n n' rows rows' f f' m₁ m₂
  places_side_unique (stands old) (stands old') = record { number_is = refl; rows_are = refl; fill_is = refl; book_is = refl }
  places_side_unique (stands old) (arrives new settles) = absurd (both_ways _ old new)
  places_side_unique (arrives new settles) (stands old) = absurd (both_ways _ old new)
  places_side_unique {g} {m} {a} (arrives new settles) (arrives new' settles') =
      let s = settles_unique shares cs g m a settles settles' in
      record { number_is = refl; rows_are = s.rows_are; fill_is = s.fill_is; book_is = cc (s.book_is) }

  -- a side that is placed finds room if it is new
  side_room : {g : ℕ} {m : BookState} {a : Arrival} {v : Revision} {n f : ℕ} {rows : List Row} {m' : BookState} →
      PlacesSide shares cs g m a v n rows f m' → is_new a v ≡ true → NoRoom shares cs g m a → ⊥
  side_room (stands old) new full = both_ways _ old new
  side_room {g} {m} {a} (arrives new' settles) new full = room_found shares cs g m a settles full

  module _ (m : BookState) (quote : Quote) where
    -- the old sides of this quote
    abbrev Old : Revision → Revision → List Row → List Order → Type 0
    Old u v rows os = RevisesOld (bid_of quote) (offer_of quote) m.orders u v rows os

    -- the number after those that it needs
    abbrev after : Revision → Revision → ℕ
    after u v = m.next + (needs (bid_of quote) u + needs (offer_of quote) v)

    -- the numbers that it needs do not both fit and go over
    not_over : {u v u' v' : Revision} {rows rows' : List Row} {os os' : List Order} → Old u v rows os → 100000 < after u v → Old u' v' rows' os' → after u' v' ≤ 100000 → ⊥
    not_over old over other within = let s = settles_old_unique old other in omega (arith, ap (needs (bid_of quote)) s.bid_is, ap (needs (offer_of quote)) s.offer_is)

    -- a quote that is placed finds room for its bid
    bid_room : {u v u' v' : Revision} {rows rows' bid_rows : List Row} {os os' : List Order} {n f : ℕ} {m' : BookState} → Old u v rows os → is_new (bid_of quote) u ≡ true →
        NoRoom shares cs 1 (record { orders = os; next = m.next }) (bid_of quote) →
        Old u' v' rows' os' → PlacesSide shares cs 1 (record { orders = os'; next = m.next }) (bid_of quote) u' n bid_rows f m' → ⊥
    bid_room old new full other bid =
        let s = settles_old_unique other old in
        side_room (rw (s.bid_is, s.book_is) at bid) new full

    -- and, once that is placed, for its offer
    offer_room : {u v u' v' : Revision} {rows rows' bid_rows bid_rows' offer_rows : List Row} {os os' : List Order} {b b' o f f' f'' : ℕ} {m₁ m₂ m₃ : BookState} →
        Old u v rows os → PlacesSide shares cs 1 (record { orders = os; next = m.next }) (bid_of quote) u b bid_rows f m₁ → is_new (offer_of quote) v ≡ true → NoRoom shares cs f m₁ (offer_of quote) →
        Old u' v' rows' os' → PlacesSide shares cs 1 (record { orders = os'; next = m.next }) (bid_of quote) u' b' bid_rows' f' m₂ → PlacesSide shares cs f' m₂ (offer_of quote) v' o offer_rows f'' m₃ → ⊥
    offer_room old bid new full other bid' offer =
        let s = settles_old_unique other old in
        let t = places_side_unique bid (rw (s.bid_is, s.book_is) at bid') in
        side_room (rw (s.offer_is, ← t.fill_is, ← t.book_is) at offer) new full

    pub quotes_unique : {e e' : Ending BookState} → Quotes shares cs m quote e → Quotes shares cs m quote e' → e ≡ e'
    quotes_unique (no_number old over) (no_number old' over') = refl
    quotes_unique (no_number old over) (no_room_bid old' within new full) = absurd (not_over old over old' within)
    quotes_unique (no_number old over) (no_room_offer old' within bid new full) = absurd (not_over old over old' within)
    quotes_unique (no_number old over) (placed old' within bid offer round) = absurd (not_over old over old' within)
    quotes_unique (no_room_bid old within new full) (no_number old' over) = absurd (not_over old' over old within)
    quotes_unique (no_room_bid old within new full) (no_room_bid old' within' new' full') = refl
    quotes_unique (no_room_bid old within new full) (no_room_offer old' within' bid new' full') = refl
    quotes_unique (no_room_bid old within new full) (placed old' within' bid offer round) = absurd (bid_room old new full old' bid)
    quotes_unique (no_room_offer old within bid new full) (no_number old' over) = absurd (not_over old' over old within)
    quotes_unique (no_room_offer old within bid new full) (no_room_bid old' within' new' full') = refl
    quotes_unique (no_room_offer old within bid new full) (no_room_offer old' within' bid' new' full') = refl
    quotes_unique (no_room_offer old within bid new full) (placed old' within' bid' offer round) = absurd (offer_room old bid new full old' bid' offer)
    quotes_unique (placed old within bid offer round) (no_number old' over) = absurd (not_over old' over old within)
    quotes_unique (placed old within bid offer round) (no_room_bid old' within' new full) = absurd (bid_room old' new full old bid)
    quotes_unique (placed old within bid offer round) (no_room_offer old' within' bid' new full) = absurd (offer_room old' bid' new full old bid offer)
    quotes_unique (placed old within bid offer round) (placed old' within' bid' offer' round') =
        let s = settles_old_unique old' old in
        let b = places_side_unique bid (rw (s.bid_is, s.book_is) at bid') in
        let o = places_side_unique offer (rw (s.offer_is, ← b.fill_is, ← b.book_is) at offer') in
        let t = round_unique shares cs round (rw (← o.fill_is, ← o.book_is) at round') in
        cc (s.rows_are, b.number_is, b.rows_are, o.number_is, o.rows_are, o.book_is, t.rows_are, t.book_is)

-- ---- define

first_made_unique : (cs : List (List Leg)) (legs : List Leg) (b c : ℕ) → FirstMade cs legs b → FirstMade cs legs c → b ≡ c
first_made_unique cs legs b c h k = elim (cases_lt b c) [
  | inl lower ↦ absurd (k.first b lower h.there)
  | inr other ↦ elim (cases_lt c b) [ inl higher ↦ absurd (h.first c higher k.there) | inr same ↦ omega arith ]
]

-- ---- any call

module _ (shares : List ℕ → ℕ → List ℕ) (v : View) where
  does_unique : (c : Call) {e e' : Ending View} → Does shares v c e → Does shares v c e' → e ≡ e'
  does_unique _ (at_fault c e h) (at_fault _ e' h') = cc
  does_unique _ (at_fault _ e h) (enters p i s q r d e' h' n) = cc
  does_unique _ (at_fault _ e h) (amends p n q r e' h' k) = cc
  does_unique _ (at_fault _ e h) (quotes p i q r k w e' h' d) = cc
  does_unique _ (at_fault _ e h) (cancels p n e' h' k) = cc
  does_unique _ (at_fault _ e h) (finds p legs c h' k) = cc
  does_unique _ (at_fault _ e h) (makes p legs h' k) = cc
  does_unique _ (at_fault _ e h) (switches w phase h') = cc
  does_unique _ (enters p i s q r d e h n) (at_fault _ e' h') = cc
  does_unique _ (enters p i s q r d e h n) (enters _ _ _ _ _ _ e' h' n') = ap (at_book v) (enters_unique shares v.combinations v.book _ n n')
  does_unique _ (amends p n q r e h k) (at_fault _ e' h') = cc
  does_unique _ (amends p n q r e h k) (amends _ _ _ _ e' h' k') = ap (at_book v) (amends_unique shares v.combinations v.book p n q r k k')
  does_unique _ (quotes p i q r k w e h d) (at_fault _ e' h') = cc
  does_unique _ (quotes p i q r k w e h d) (quotes _ _ _ _ _ _ e' h' d') = ap (at_book v) (quotes_unique shares v.combinations v.book _ d d')
  does_unique _ (cancels p n e h k) (at_fault _ e' h') = cc
  does_unique _ (cancels p n e h k) (cancels _ _ e' h' k') = ap (at_book v) (cancels_unique v.book p n k k')
  does_unique _ (finds p legs c h k) (at_fault _ e' h') = cc
  does_unique _ (finds p legs c h k) (finds _ _ c' h' k') = ap (λ n. defined v (listed legs) n v.combinations) (first_made_unique _ _ c c' k k')
  does_unique _ (finds p legs c h k) (makes _ _ h' k') = absurd (k' c k.there)
  does_unique _ (makes p legs h k) (at_fault _ e' h') = cc
  does_unique _ (makes p legs h k) (finds _ _ c' h' k') = absurd (k c' k'.there)
  does_unique _ (makes p legs h k) (makes _ _ h' k') = refl
  does_unique _ (switches w phase h) (at_fault _ e' h') = cc
  does_unique _ (switches w phase h) (switches _ phase' h') = cc

pub rules_determine : RulesDetermine
rules_determine shares v _ _ _ (unread e) (unread _) = refl
rules_determine shares v _ _ _ (read c e d) (read _ e' d') = does_unique shares v c d d'
