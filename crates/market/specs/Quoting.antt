-- What the book does with a quote.
use Rattle.std.specs.Prelude.{◌≡◌, ℕ, ◌+◌, ◌<◌, ◌≤◌, Bool, true, false, cond, List, [], ◌++◌, nat_lt}
use Rattle.market.specs.declared.acceptance.Acceptance.TheVariants.{Quoted}
use Rattle.market.specs.declared.arrival.Arrival.{Arrival}
use Rattle.market.specs.declared.leg.Leg.{Leg}
use Rattle.market.specs.declared.order.Order.{Order}
use Rattle.market.specs.declared.quote.Quote.{Quote}
use Rattle.market.specs.declared.refusal.Refusal.TheVariants.{NumbersSpent, BookFull}
use Rattle.market.specs.declared.row.Row.{Row}
use Rattle.market.specs.declared.side.Side.TheVariants.{Buy, Sell}
use Rattle.market.specs.BookCalls.{BookState, Settles, NoRoom}
use Rattle.market.specs.Endings.{Ending, refused, done}
use Rattle.market.specs.Orders.{lot_book, lot_size, quotes, quote_side}
use Rattle.market.specs.Revisions.{Revision, absent, kept, cancelled, Revises}
use Rattle.market.specs.Round.{Round}

-- the bid, as it arrives if it is new
abbrev pub bid_of : Quote → Arrival
bid_of k = quote_side k.participant Buy k.bid

-- the offer, as it arrives if it is new
abbrev pub offer_of : Quote → Arrival
offer_of k = quote_side k.participant Sell k.offer

-- ---- the old sides

-- the participant's old quote on the side of a new one, in its book
abbrev pub old_side : Arrival → Order → Bool
old_side a = quotes a.participant (lot_book a.lot) a.side

-- first the old bid and then the old offer, where there are such, keep their place or are cancelled, each for itself: u and v are what becomes of them, with these rows, and os' are the orders then
pub record RevisesOld (bid offer : Arrival) (os : List Order) (u v : Revision) (rows : List Row) (os' : List Order) : Type 0 where
  pub bid_rows : List Row
  pub between : List Order
  pub offer_rows : List Row
  pub revises_bid : Revises (old_side bid) (lot_size bid.lot) bid.price os u bid_rows between
  pub revises_offer : Revises (old_side offer) (lot_size offer.lot) offer.price between v offer_rows os'
  pub reports : rows ≡ bid_rows ++ offer_rows

-- ---- the new sides

-- a side arrives as a new order: something is wanted, and no old side has kept its place
abbrev pub is_new : Arrival → Revision → Bool
is_new a absent = nat_lt 0 (lot_size a.lot)
is_new a (kept n) = false
is_new a (cancelled o) = nat_lt 0 (lot_size a.lot)

-- how many numbers a side needs
abbrev pub needs : Arrival → Revision → ℕ
needs a v = cond (is_new a v) 1 0

-- the number of a side that is not new: that of the old side which has kept its place, or 0 where nothing is wanted
abbrev pub old_number : Revision → ℕ
old_number absent = 0
old_number (kept n) = n
old_number (cancelled o) = 0

module _ (shares : List ℕ → ℕ → List ℕ) (cs : List (List Leg)) where
  -- PlacesSide g m a v n rows f m': once the old sides are dealt with, a side comes, from the fill g on, to the number n, these rows, the next fill f and the book m'
  pub data PlacesSide (g : ℕ) (m : BookState) (a : Arrival) (v : Revision) : ℕ → List Row → ℕ → BookState → Type 0 where
    -- it is not new
    stands : is_new a v ≡ false → PlacesSide g m a v (old_number v) [] g m
    -- it is new: it trades what it can, and what is open rests
    arrives : {rows : List Row} {f q : ℕ} {os : List Order} → is_new a v ≡ true → Settles shares cs g m a rows f q os →
        PlacesSide g m a v m.next rows f (record { orders = os; next = m.next + 1 })

  -- what a quote does; the round ends the call
  pub data Quotes (m : BookState) (quote : Quote) : Ending BookState → Type 0 where
    -- the last of the numbers that it needs is over 99,999
    no_number : {u v : Revision} {rows : List Row} {os : List Order} → RevisesOld (bid_of quote) (offer_of quote) m.orders u v rows os →
        100000 < m.next + (needs (bid_of quote) u + needs (offer_of quote) v) → Quotes m quote (refused NumbersSpent)
    -- no room is left for a new bid
    no_room_bid : {u v : Revision} {rows : List Row} {os : List Order} → RevisesOld (bid_of quote) (offer_of quote) m.orders u v rows os →
        m.next + (needs (bid_of quote) u + needs (offer_of quote) v) ≤ 100000 →
        is_new (bid_of quote) u ≡ true → NoRoom shares cs 1 (record { orders = os; next = m.next }) (bid_of quote) → Quotes m quote (refused BookFull)
    -- no room is left for a new offer, once the bid is placed
    no_room_offer : {u v : Revision} {b f : ℕ} {rows rows' : List Row} {os : List Order} {m' : BookState} → RevisesOld (bid_of quote) (offer_of quote) m.orders u v rows os →
        m.next + (needs (bid_of quote) u + needs (offer_of quote) v) ≤ 100000 → PlacesSide 1 (record { orders = os; next = m.next }) (bid_of quote) u b rows' f m' →
        is_new (offer_of quote) v ≡ true → NoRoom shares cs f m' (offer_of quote) → Quotes m quote (refused BookFull)
    -- the old sides are dealt with, then the bid and then the offer are placed, and then the round
    placed : {u v : Revision} {b o f f' f'' : ℕ} {rows rows' rows'' rows''' : List Row} {os os' : List Order} {m' m'' : BookState} →
        RevisesOld (bid_of quote) (offer_of quote) m.orders u v rows os → m.next + (needs (bid_of quote) u + needs (offer_of quote) v) ≤ 100000 →
        PlacesSide 1 (record { orders = os; next = m.next }) (bid_of quote) u b rows' f m' → PlacesSide f m' (offer_of quote) v o rows'' f' m'' →
        Round shares cs f' m''.orders rows''' f'' os' →
        Quotes m quote (done (record { accepted = Quoted b o; rows = rows ++ (rows' ++ (rows'' ++ rows''')); after = record { orders = os'; next = m''.next } }))
