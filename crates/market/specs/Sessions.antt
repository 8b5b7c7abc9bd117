-- A session: what was asked and answered since a venue was built, and the law that holds of every one.
use Rattle.std.specs.Prelude.{◌≡◌, ℕ, ◌+◌, ◌<◌, ◌≤◌, true, false, List, [], ◌∷◌, ◌<ℤ◌, Some, Result}
use Rattle.std.specs.List.{All, count_by}
use Rattle.market.specs.declared.book_id.BookId.{BookId}
use Rattle.market.specs.declared.book_id.BookId.TheVariants.{Instrument, Combination}
use Rattle.market.specs.declared.call.Call.{Call}
use Rattle.market.specs.declared.leg.Leg.{Leg}
use Rattle.market.specs.declared.order.Order.{Order}
use Rattle.market.specs.declared.refusal.Refusal.{Refusal}
use Rattle.market.specs.declared.side.Side.{Side}
use Rattle.market.specs.declared.side.Side.TheVariants.{Buy, Sell}
use Rattle.market.specs.Combinations.{made, SoundTable}
use Rattle.market.specs.Endings.{Follows}
use Rattle.market.specs.Orders.{is_instrument, lot_book, book_number, quotes}
use Rattle.market.specs.Round.{eligible}
use Rattle.market.specs.Venues.{View, fresh, Takes}
use Rattle.market.specs.Turns.{Turn, is_cancellation, trades, resting, over}
use Rattle.market.specs.Parties.{Named}
use Rattle.market.specs.Entries.{Entry, Given, Entered}
use Rattle.market.specs.FairTrades.{EachFair}

-- of one book, the buy's price is below the sell's
abbrev pub Apart : Order → Order → Type 0
Apart x y = lot_book x.lot ≡ lot_book y.lot → x.side ≡ Buy → y.side ≡ Sell → x.price.0 <ℤ y.price.0

-- each order has a lower number than all behind it
abbrev pub ByArrival : List Order → Type 0
ByArrival [] = Unit {0}
ByArrival (o ∷ os) = All (λ x. o.number < x.number) os × ByArrival os

-- the combination that a book is for exists; an instrument has the number of one
abbrev pub Exists : List (List Leg) → BookId → Type 0
Exists cs (Instrument i) = is_instrument i ≡ true
Exists cs (Combination c) = (legs : List Leg) × (made cs c ≡ Some legs)

-- messages of any kind, by how they are read
module _ {Message : Type 0} (reading : Message → Result Call Refusal) where
  -- the turns, newest first, lead from a venue just built to the venue v, each as the rules say
  pub data Reached (shares : List ℕ → ℕ → List ℕ) : List (Turn Message) → View → Type 0 where
    built : {v : View} → v ≡ fresh v.product v.bands → Reached shares [] v
    turn : {t : Turn Message} {h : List (Turn Message)} {u v : View} → Reached shares h u →
        Follows (Takes shares u (reading t.message)) u t.room t.answer t.rows v → Reached shares (t ∷ h) v

  -- the order has the number, the participant, the book, the side and the price that were entered, and is a side of a quote if that was entered
  pub record AsEntered (h : List (Turn Message)) (o : Order) : Type 0 where
    pub entry : Entry
    pub entered : Entered reading h entry
    pub number : entry.number ≡ o.number
    pub participant : entry.participant ≡ o.participant
    pub book : entry.book ≡ book_number (lot_book o.lot)
    pub side : entry.side ≡ o.side
    pub limit : entry.limit ≡ o.price
    pub quote : entry.quote ≡ o.quote

  -- the law over sessions
  pub record Sound (h : List (Turn Message)) (v : View) : Type 0 where
    -- of each order: what was entered is what was traded, what was cancelled, and what rests
    pub conserved : (e : Entry) → Entered reading h e → e.quantity ≡ over (trades e.book) e.number h + over is_cancellation e.number h + resting e.number v.book.orders
    -- the numbers given are exactly those from 1 to the next less 1
    pub numbered : (n : ℕ) → 1 ≤ n → n < v.book.next → (e : Entry) × (e.number ≡ n) × Entered reading h e
    pub no_other : (n : ℕ) → Given reading h n → (1 ≤ n) × (n < v.book.next)
    -- every row names the orders that its kind asks for, each entered, in that book or for that leg, on its side; as the law holds after each turn, no later than in that turn
    pub named : All (λ t. All (Named reading h v.combinations) t.rows) h
    -- resting orders stand in order of arrival, each under a number of its own
    pub by_arrival : ByArrival v.book.orders
    -- every resting order stands as its line had it, but for its quantity
    pub rests_entered : All (AsEntered h) v.book.orders
    -- a participant has at most one quote on each side of an instrument or combination
    pub single_quotes : (p : ℕ) (b : BookId) (s : Side) → count_by (quotes p b s) v.book.orders ≤ 1
    -- every resting combination order is in a combination that exists
    pub rests_made : All (λ o. Exists v.combinations (lot_book o.lot)) v.book.orders
    -- every combination trade reported is fair, by the combinations that stand now, as none ever goes: a limit is from its own turn's line or an earlier one
    pub fair : EachFair reading v.combinations h
    -- no resting buy has a price at or above that of a resting sell of the same book
    pub uncrossed : All (λ x. All (λ y. Apart x y) v.book.orders) v.book.orders
    -- no resting combination order, quotes apart, has a unit 1 within its limit
    pub quiet : All (λ o. eligible v.combinations v.book.orders o ≡ false) v.book.orders
    -- every combination has the form that one must have, and no two are equal
    pub table : SoundTable v.product v.bands v.combinations
