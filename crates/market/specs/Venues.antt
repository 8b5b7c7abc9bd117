-- A venue as a member meets it: what it refuses, and what each call does.
use Rattle.std.specs.Prelude.{◌≡◌, ℕ, ◌+◌, ◌-◌, Bool, true, false, cond, ◌&&◌, ◌||◌, List, [], ◌∷◌, ◌++◌, length, pos, neg_ℤ, Some, None, Ok, Err, Option, Result, ◌==◌, int_le, nat_lt, nat_le, int_lt}
use Rattle.std.specs.List.{slice_get, list_any}
use Rattle.std.specs.Option.{is_some, option_map}
use Rattle.market.specs.declared.acceptance.Acceptance.TheVariants.{Defined}
use Rattle.market.specs.declared.call.Call.{Call}
use Rattle.market.specs.declared.call.Call.TheVariants.{Enter, Amend, Cancel, Quote, Define, Switch}
use Rattle.market.specs.declared.call.Duration.{Duration}
use Rattle.market.specs.declared.leg.Leg.{Leg}
use Rattle.market.specs.declared.legs.Legs.{Legs}
use Rattle.market.specs.declared.order.Order.{Order}
use Rattle.market.specs.declared.phase.Event.{Event}
use Rattle.market.specs.declared.phase.Event.TheVariants.{Open, Halt, Resume, Close}
use Rattle.market.specs.declared.phase.Phase.{Phase}
use Rattle.market.specs.declared.phase.Phase.TheVariants.{PreOpen, Continuous, Halted, Closed}
use Rattle.market.specs.declared.phase.Withdrawal.{Withdrawal}
use Rattle.market.specs.declared.phase.Withdrawal.TheVariants as withdrawal
use Rattle.market.specs.declared.price.Price.{Price}
use Rattle.market.specs.declared.product.Band.{Band}
use Rattle.market.specs.declared.product.Product.{Product}
use Rattle.market.specs.declared.refusal.Refusal.{Refusal}
use Rattle.market.specs.declared.refusal.Refusal.TheVariants as refusal
use Rattle.market.specs.declared.side.Side.{Side}
use Rattle.market.specs.Amending.{Amends}
use Rattle.market.specs.BookCalls.{BookState, Enters, Cancels, withdrawn}
use Rattle.market.specs.Combinations.{normal, turns, broken_leg, exists, same_legs, NoneMade, FirstMade}
use Rattle.market.specs.Endings.{Ending, refused, done}
use Rattle.market.specs.Legs.{listed}
use Rattle.market.specs.Orders.{lot_book, book_number, own_order, is_instrument, lot_of}
use Rattle.market.specs.Quoting.{Quotes}
use Rattle.market.specs.Tables.{unless, topmost, first_broken}

-- what a venue is: its product, its phase, a price band for each instrument, the legs of each combination in the order in which they were made, and its book
pub record View : Type 0 where
  pub product : Product
  pub phase : Phase
  pub bands : List Band
  pub combinations : List (List Leg)
  pub book : BookState

-- a venue just built
abbrev pub fresh : Product → List Band → View
fresh product bands = record { product = product; phase = PreOpen; bands = bands; combinations = []; book = record { orders = []; next = 1 } }

-- ---- what is refused

-- a number from low to high
abbrev pub between : ℕ → ℕ → ℕ → Bool
between low high n = nat_le low n && nat_le n high

-- enter, amend, quote and define run in Continuous only
abbrev pub trading : Phase → Bool
trading PreOpen = false
trading Continuous = true
trading Halted = false
trading Closed = false

-- cancel runs in every phase but Closed
abbrev pub serving : Phase → Bool
serving PreOpen = true
serving Continuous = true
serving Halted = true
serving Closed = false

-- the band of an instrument, where there is such an instrument: they are numbered from 1
abbrev pub band_of : List Band → ℕ → Option Band
band_of bands i = cond (i == 0) None (slice_get bands (i - 1))

-- there is such an instrument
abbrev pub known : Option Band → Bool
known None = false
known (Some b) = true

-- the price is neither below the band nor above it
abbrev pub within_band : Option Band → Price → Bool
within_band None p = false
within_band (Some b) p = int_le (pos b.low) p.0 && int_le p.0 (pos b.high)

-- there is such an instrument or combination
abbrev pub tradable : View → ℕ → Bool
tradable v i = cond (is_instrument i) (known (band_of v.bands i)) (exists v.combinations i)

-- a net price lies from -99,999,900 to 99,999,900
abbrev pub within_net_band : Price → Bool
within_net_band p = int_le (neg_ℤ (pos 99999900)) p.0 && int_le p.0 (pos 99999900)

-- the price of an order lies in the instrument's band, a net price in that of net prices
abbrev pub price_fits : View → ℕ → Price → Bool
price_fits v i p = cond (is_instrument i) (within_band (band_of v.bands i) p) (within_net_band p)

-- the phase that an event turns a phase into; any other pair is refused
abbrev pub next_phase : Phase → Event → Option Phase
next_phase PreOpen Open = Some Continuous
next_phase PreOpen Halt = None
next_phase PreOpen Resume = None
next_phase PreOpen Close = None
next_phase Continuous Open = None
next_phase Continuous Halt = Some Halted
next_phase Continuous Resume = None
next_phase Continuous Close = Some Closed
next_phase Halted Open = None
next_phase Halted Halt = None
next_phase Halted Resume = Some Continuous
next_phase Halted Close = Some Closed
next_phase Closed Open = None
next_phase Closed Halt = None
next_phase Closed Resume = None
next_phase Closed Close = None

-- an event that turns nothing is refused for the phase
abbrev pub switch_fault : Option Phase → Option Refusal
switch_fault None = Some refusal.Phase
switch_fault (Some phase) = None

-- the refusal of an amend, once the participant is known: the price must fit the book of the order that is amended
abbrev pub amend_fault : View → Option Order → ℕ → Price → Option Refusal
amend_fault v None q r = Some refusal.Order
amend_fault v (Some o) q r = topmost (
    unless (between 1 10000 q) (refusal.Quantity 3)
    ∷ unless (price_fits v (book_number (lot_book o.lot)) r) (refusal.Price 4)
    ∷ [])

-- a side of a quote fits: its price does, or nothing is wanted
abbrev pub side_fits : View → ℕ → ℕ → Price → Bool
side_fits v i q r = q == 0 || price_fits v i r

-- the bid is below the offer, or one of them is not there
abbrev pub bid_below_offer : ℕ → Price → ℕ → Price → Bool
bid_below_offer q r k w = (q == 0 || k == 0) || int_lt r.0 w.0

-- the refusal of a request for a combination, whichever exist
abbrev pub request_fault : View → ℕ → List Leg → Option Refusal
request_fault v p legs = topmost (
    unless (trading v.phase) refusal.Phase
    ∷ unless (between 1 999 p) refusal.Participant
    ∷ option_map refusal.Unknown (first_broken (λ l. known (band_of v.bands l.instrument)) legs 3)
    ∷ option_map refusal.Legs (broken_leg v.product legs)
    ∷ [])

-- the refusal that the gate has for a call, if any; a place is that of the field at fault, counted from 0
abbrev pub fault : View → Call → Option Refusal
fault v (Enter p i s q r d) = topmost (
    unless (trading v.phase) refusal.Phase
    ∷ unless (between 1 999 p) refusal.Participant
    ∷ unless (tradable v i) (refusal.Unknown 2)
    ∷ unless (between 1 10000 q) (refusal.Quantity 4)
    ∷ unless (price_fits v i r) (refusal.Price 5)
    ∷ [])
fault v (Cancel p n) = topmost (
    unless (serving v.phase) refusal.Phase
    ∷ unless (between 1 999 p) refusal.Participant
    ∷ unless (is_some (own_order p n v.book.orders)) refusal.Order
    ∷ [])
fault v (Switch w) = switch_fault (next_phase v.phase w)
fault v (Amend p n q r) = topmost (
    unless (trading v.phase) refusal.Phase
    ∷ unless (between 1 999 p) refusal.Participant
    ∷ amend_fault v (own_order p n v.book.orders) q r
    ∷ [])
fault v (Quote p i q r k w) = topmost (
    unless (trading v.phase) refusal.Phase
    ∷ unless (between 1 999 p) refusal.Participant
    ∷ unless (tradable v i) (refusal.Unknown 2)
    ∷ unless (between 0 10000 q) (refusal.Quantity 3)
    ∷ unless (between 0 10000 k) (refusal.Quantity 5)
    ∷ unless (side_fits v i q r) (refusal.Price 4)
    ∷ unless (side_fits v i k w) (refusal.Price 6)
    ∷ unless (bid_below_offer q r k w) refusal.Crossed
    ∷ [])
fault v (Define p legs) = topmost (
    request_fault v p (listed legs)
    ∷ unless (nat_lt (length v.combinations) 32 || list_any (same_legs (normal (listed legs))) v.combinations) refusal.CombinationsSpent
    ∷ [])

-- ---- what is done

-- a halt withdraws all quotes, a close cancels all
abbrev pub withdraws : Event → Withdrawal
withdraws Open = withdrawal.Nothing
withdraws Halt = withdrawal.Quotes
withdraws Resume = withdrawal.Nothing
withdraws Close = withdrawal.Everything

-- the venue in another phase
abbrev pub in_phase : View → Phase → View
in_phase v phase = record { product = v.product; phase = phase; bands = v.bands; combinations = v.combinations; book = v.book }

-- what the book's ending makes of the venue
abbrev pub at_book : View → Ending BookState → Ending View
at_book v (refused e) = refused e
at_book v (done e) = done (record { accepted = e.accepted; rows = e.rows; after = record { product = v.product; phase = v.phase; bands = v.bands; combinations = v.combinations; book = e.after } })

-- the venue with these combinations
abbrev pub with_combinations : View → List (List Leg) → View
with_combinations v cs = record { product = v.product; phase = v.phase; bands = v.bands; combinations = cs; book = v.book }

-- a request for these legs is answered with the combination's number, and the venue then has these combinations; no row is told
abbrev pub defined : View → List Leg → ℕ → List (List Leg) → Ending View
defined v legs c cs = done (record { accepted = Defined c (turns legs); rows = []; after = with_combinations v cs })

module _ (shares : List ℕ → ℕ → List ℕ) where
  -- what a call does to a venue
  pub data Does (v : View) : Call → Ending View → Type 0 where
    -- a condition of the table holds
    at_fault : (c : Call) (e : Refusal) → fault v c ≡ Some e → Does v c (refused e)
    -- an order arrives in the book
    enters : (p i : ℕ) (s : Side) (q : ℕ) (r : Price) (d : Duration) (e : Ending BookState) → fault v (Enter p i s q r d) ≡ None →
        Enters shares v.combinations v.book (record { participant = p; side = s; lot = lot_of i q; price = r; duration = d; quote = false }) e →
        Does v (Enter p i s q r d) (at_book v e)
    -- a resting order gets a new quantity and price
    amends : (p n q : ℕ) (r : Price) (e : Ending BookState) → fault v (Amend p n q r) ≡ None → Amends shares v.combinations v.book p n q r e →
        Does v (Amend p n q r) (at_book v e)
    -- a participant bids and offers
    quotes : (p i q : ℕ) (r : Price) (k : ℕ) (w : Price) (e : Ending BookState) → fault v (Quote p i q r k w) ≡ None →
        Quotes shares v.combinations v.book (record { participant = p; bid = record { lot = lot_of i q; price = r }; offer = record { lot = lot_of i k; price = w } }) e →
        Does v (Quote p i q r k w) (at_book v e)
    -- a resting order is taken out
    cancels : (p n : ℕ) (e : Ending BookState) → fault v (Cancel p n) ≡ None → Cancels v.book p n e → Does v (Cancel p n) (at_book v e)
    -- a combination with these legs exists: nothing is made
    finds : (p : ℕ) (legs : Legs) (c : ℕ) → fault v (Define p legs) ≡ None → FirstMade v.combinations (normal (listed legs)) c →
        Does v (Define p legs) (defined v (listed legs) c v.combinations)
    -- none has these legs: a new one stands as the last
    makes : (p : ℕ) (legs : Legs) → fault v (Define p legs) ≡ None → NoneMade v.combinations (normal (listed legs)) →
        Does v (Define p legs) (defined v (listed legs) (1001 + length v.combinations) (v.combinations ++ normal (listed legs) ∷ []))
    -- the phase changes
    switches : (w : Event) (phase : Phase) → next_phase v.phase w ≡ Some phase → Does v (Switch w) (at_book (in_phase v phase) (withdrawn (withdraws w) v.book))

  -- what a message does, as it was read: one that cannot be read is refused
  pub data Takes (v : View) : Result Call Refusal → Ending View → Type 0 where
    unread : (e : Refusal) → Takes v (Err e) (refused e)
    read : (c : Call) (e : Ending View) → Does v c e → Takes v (Ok c) e
