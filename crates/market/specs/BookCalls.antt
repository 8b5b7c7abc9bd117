-- What the book does with an order that arrives, is cancelled or is withdrawn.
use Rattle.std.specs.Prelude.{◌≡◌, ℕ, ◌+◌, ◌-◌, ◌<◌, ◌≤◌, Bool, true, false, not, List, [], ◌∷◌, ◌++◌, map, length, filter}
use Rattle.std.specs.List.{All}
use Rattle.market.specs.declared.acceptance.Acceptance.TheVariants.{Entered, Cancelled, Switched}
use Rattle.market.specs.declared.arrival.Arrival.{Arrival}
use Rattle.market.specs.declared.call.Duration.TheVariants.{Day, Immediate, FillOrKill}
use Rattle.market.specs.declared.leg.Leg.{Leg}
use Rattle.market.specs.declared.order.Order.{Order}
use Rattle.market.specs.declared.phase.Withdrawal.{Withdrawal}
use Rattle.market.specs.declared.phase.Withdrawal.TheVariants.{Nothing, Quotes, Everything}
use Rattle.market.specs.declared.refusal.Refusal.TheVariants.{NumbersSpent, BookFull}
use Rattle.market.specs.declared.row.Row.{Row}
use Rattle.market.specs.Endings.{Ending, refused, done}
use Rattle.market.specs.Matching.{Match}
use Rattle.market.specs.Orders.{lot_book, lot_size, quantity_of, sized, arriving, own}
use Rattle.market.specs.Round.{legs_of, Round}
use Rattle.market.specs.Rows.{cancel_row}

-- the resting orders in order of arrival, and the number that the next order gets
pub record BookState : Type 0 where
  pub orders : List Order
  pub next : ℕ

-- an order of q has entered under the next number and, before the round, traded all but what was left
abbrev pub entered : BookState → ℕ → ℕ → List Row → List Order → Ending BookState
entered m q left rows os = done (record { accepted = Entered m.next (q - left); rows = rows; after = record { orders = os; next = m.next + 1 } })

module _ (shares : List ℕ → ℕ → List ℕ) (cs : List (List Leg)) where
  -- the match of an order that arrives, from the fill g on
  abbrev pub Matches : ℕ → BookState → Arrival → List Row → ℕ → ℕ → List Order → Type 0
  Matches g m a rows f q os = Match shares (legs_of cs (lot_book a.lot)) (arriving a m.next) g (lot_size a.lot) m.orders rows f q os

  -- Settles g m a rows f q os: before the round, an order that arrives has, from the fill g on, come to these rows, the next fill f, q not traded, and the book os
  pub data Settles (g : ℕ) (m : BookState) (a : Arrival) : List Row → ℕ → ℕ → List Order → Type 0 where
    -- it trades whole
    whole : {rows : List Row} {f : ℕ} {os : List Order} → Matches g m a rows f 0 os → Settles g m a rows f 0 os
    -- D: what is open rests, as the last in the book
    rests : {rows : List Row} {f q : ℕ} {os : List Order} → a.duration ≡ Day → Matches g m a rows f q os → 0 < q → length os < 256 →
        Settles g m a rows f q (os ++ sized (arriving a m.next) q ∷ [])
    -- I: what is open is cancelled
    cut : {rows : List Row} {f q : ℕ} {os : List Order} → a.duration ≡ Immediate → Matches g m a rows f q os → 0 < q →
        Settles g m a (rows ++ cancel_row (sized (arriving a m.next) q) ∷ []) f q os
    -- F: it would not trade whole, so it trades nothing and is cancelled whole
    killed : {rows : List Row} {f q : ℕ} {os : List Order} → a.duration ≡ FillOrKill → Matches g m a rows f q os → 0 < q →
        Settles g m a (cancel_row (arriving a m.next) ∷ []) g (lot_size a.lot) m.orders

  -- NoRoom g m a: a day order that arrives is to rest after its match, from the fill g on, and 256 do
  pub record NoRoom (g : ℕ) (m : BookState) (a : Arrival) : Type 0 where
    pub day : a.duration ≡ Day
    pub rows : List Row
    pub fill : ℕ
    pub left : ℕ
    pub orders : List Order
    pub matches : Matches g m a rows fill left orders
    pub some : 0 < left
    pub full : 256 ≤ length orders

  -- an order arrives, trades what it can, and what is open then rests or is cancelled; the round ends the call
  pub data Enters (m : BookState) (a : Arrival) : Ending BookState → Type 0 where
    -- the number that it needs is over 99,999
    no_number : 99999 < m.next → Enters m a (refused NumbersSpent)
    -- no room is left for it
    no_room : m.next ≤ 99999 → NoRoom 1 m a → Enters m a (refused BookFull)
    -- it settles, and then the round
    settled : {rows rows' : List Row} {f q f' : ℕ} {os os' : List Order} → m.next ≤ 99999 → Settles 1 m a rows f q os →
        Round shares cs f os rows' f' os' → Enters m a (entered m (lot_size a.lot) q (rows ++ rows') os')

-- the participant's order of that number is taken out; all others stay as found
pub data Cancels (m : BookState) (participant number : ℕ) : Ending BookState → Type 0 where
  taken_out : (before : List Order) (o : Order) (behind : List Order) → m.orders ≡ before ++ (o ∷ behind) →
      All (λ x. own participant number x ≡ false) before → own participant number o ≡ true →
      Cancels m participant number (done (record { accepted = Cancelled number (quantity_of o); rows = cancel_row o ∷ []; after = record { orders = before ++ behind; next = m.next } }))

-- the orders that are withdrawn
abbrev pub leaves : Withdrawal → Order → Bool
leaves Nothing o = false
leaves Quotes o = o.quote
leaves Everything o = true

-- they are cancelled in book order; all others stay as found
abbrev pub withdrawn : Withdrawal → BookState → Ending BookState
withdrawn w m = done (record {
  accepted = Switched (length (filter (leaves w) m.orders));
  rows = map cancel_row (filter (leaves w) m.orders);
  after = record { orders = filter (λ o. not (leaves w o)) m.orders; next = m.next };
})
