-- Whatever a message says, its call keeps the book orderly and loses nothing.
use Rattle.std.proofs.Common.{◌≡◌, ℕ, ◌+◌, ◌-◌, ◌<◌, ◌≤◌, ltb, leb, true, false, List, [], ◌∷◌, length, get_or, ◌++◌, None, Some, Ok, Err, Option, Result, sym, refl, ◌∙◌, ap, inl, inr, arith}
use Rattle.std.specs.List.{All, slice_get}
use Rattle.std.proofs.lemmas.Bool.Decides.{nat_tests}
use Rattle.std.proofs.lemmas.Bool.{cases_Bool, cond_both, cond-false, and_parts, leb-true, ltb-true, le-ltb}
use Rattle.std.proofs.lemmas.List.{length-append, get_or_append_left}
use Rattle.std.proofs.lemmas.List.Elements.{All-push}
use Rattle.std.proofs.lemmas.Option.{slice_get_within, slice_get-get_or, get_or_from_slice_get}
use Rattle.rules.specs.Domain.{Laws}
use Rattle.market.specs.declared.arrival.Arrival.{Arrival}
use Rattle.market.specs.declared.call.Call.{Call}
use Rattle.market.specs.declared.call.Call.TheVariants.{Enter, Amend, Cancel, Quote, Define, Switch}
use Rattle.market.specs.declared.call.Duration.{Duration}
use Rattle.market.specs.declared.leg.Leg.{Leg}
use Rattle.market.specs.declared.phase.Phase.{Phase}
use Rattle.market.specs.declared.order.Order.{Order}
use Rattle.market.specs.declared.price.Price.{Price}
use Rattle.market.specs.declared.refusal.Refusal.{Refusal}
use Rattle.market.specs.declared.refusal.Refusal.TheVariants as refusal
use Rattle.market.specs.declared.row.Row.{Row}
use Rattle.market.specs.declared.side.Side.{Side}
use Rattle.market.specs.Acceptances.{acceptance_numbers}
use Rattle.market.specs.BookCalls.{BookState, Enters, withdrawn}
use Rattle.market.specs.Combinations.{normal, made, exists, Rising}
use Rattle.market.specs.Endings.{Effect, Ending, refused, done, Outcome, close, Follows}
use Rattle.market.specs.Orders.{lot_book, lot_size, lot_of, book_number, own_order}
use Rattle.market.specs.Rows.{blank}
use Rattle.market.specs.Entries.{Entry}
use Rattle.market.specs.Legs.{listed}
use Rattle.market.specs.Sessions.{Exists}
use Rattle.market.specs.Tables.{unless}
use Rattle.market.specs.Venues.{View, between, trading, band_of, known, tradable, price_fits, side_fits, bid_below_offer, amend_fault, fault, withdraws, in_phase, at_book, Does, Does.at_fault, Does.enters, Does.amends, Does.quotes, Does.cancels, Does.finds, Does.makes, Does.switches, Takes, Takes.unread, Takes.read}
use Rattle.market.proofs.Amending.{Agree, Traded, amends_ended}
use Rattle.market.proofs.Cancelling.{cancels_keep, withdrawn_keeps}
use Rattle.market.proofs.Entering.{entry, enters_keeps}
use Rattle.market.proofs.Lots.{lot_of_size, lot_of_book, lot_of_traded}
use Rattle.market.proofs.Making.{made_rising}
use Rattle.market.proofs.Keeping.{Orderly, Keeps, keeps_still, keeps_padded}
use Rattle.market.proofs.Quoting.{quotes_ended}
use Rattle.market.proofs.Saying.{Said, Rests, Says, Ended}
use Rattle.market.proofs.Tables.{passed, unless_none}
use Rattle.market.proofs.Telling.{SaysRead, says_read, refused_says, says_none, cancel_unsaid, define_unsaid, switch_unsaid, says_enter}

-- ---- what the gate lets pass

-- an order that the gate lets pass is of at most 10,000
pub entered_small : (v : View) (p i : ℕ) (s : Side) (q : ℕ) (r : Price) (d : Duration) → fault v (Enter p i s q r d) ≡ None → q ≤ 10000
entered_small v p i s q r d h = grind (arith, nat_tests)

pub entered_tradable : (v : View) (p i : ℕ) (s : Side) (q : ℕ) (r : Price) (d : Duration) → fault v (Enter p i s q r d) ≡ None → tradable v i ≡ true
entered_tradable v p i s q r d h = grind (arith, nat_tests)

between_most : (low high n : ℕ) → between low high n ≡ true → n ≤ high
between_most low high n h = grind (arith, nat_tests)

-- the same of an order that is amended
amend_small : (v : View) (o : Option Order) (q : ℕ) (r : Price) → amend_fault v o q r ≡ None → q ≤ 10000
amend_small v None q r h = absurd (cc)
amend_small v (Some o) q r h =
    let a = passed (unless (between 1 10000 q) (refusal.Quantity 3) ∷ unless (price_fits v (book_number (lot_book o.lot)) r) (refusal.Price 4) ∷ []) h in
    between_most 1 10000 q (unless_none _ (refusal.Quantity 3) a.0)

pub amended_small : (v : View) (p n q : ℕ) (r : Price) → fault v (Amend p n q r) ≡ None → q ≤ 10000
amended_small v p n q r h =
    let a = passed (unless (trading v.phase) refusal.Phase ∷ unless (between 1 999 p) refusal.Participant ∷ amend_fault v (own_order p n v.book.orders) q r ∷ []) h in
    amend_small v (own_order p n v.book.orders) q r a.1.1.0

-- a quote that the gate lets pass is for something that exists, and of at most 10,000 on either side
record QuoteFit (v : View) (i q k : ℕ) : Type 0 where
  trades : tradable v i ≡ true
  bid : q ≤ 10000
  offer : k ≤ 10000

quote_fit : (v : View) (p i q : ℕ) (r : Price) (k : ℕ) (w : Price) → fault v (Quote p i q r k w) ≡ None → QuoteFit v i q k
quote_fit v p i q r k w h =
    let a = passed (
    unless (trading v.phase) refusal.Phase
    ∷ unless (between 1 999 p) refusal.Participant
    ∷ unless (tradable v i) (refusal.Unknown 2)
    ∷ unless (between 0 10000 q) (refusal.Quantity 3)
    ∷ unless (between 0 10000 k) (refusal.Quantity 5)
    ∷ unless (side_fits v i q r) (refusal.Price 4)
    ∷ unless (side_fits v i k w) (refusal.Price 6)
    ∷ unless (bid_below_offer q r k w) refusal.Crossed
    ∷ []) h in
    record {
      trades = unless_none _ (refusal.Unknown 2) a.1.1.0;
      bid = between_most 0 10000 q (unless_none _ (refusal.Quantity 3) a.1.1.1.0);
      offer = between_most 0 10000 k (unless_none _ (refusal.Quantity 5) a.1.1.1.1.0);
    }

pub quoted_tradable : (v : View) (p i q : ℕ) (r : Price) (k : ℕ) (w : Price) → fault v (Quote p i q r k w) ≡ None → tradable v i ≡ true
quoted_tradable v p i q r k w h = (quote_fit v p i q r k w h).trades

pub bid_small : (v : View) (p i q : ℕ) (r : Price) (k : ℕ) (w : Price) → fault v (Quote p i q r k w) ≡ None → q ≤ 10000
bid_small v p i q r k w h = (quote_fit v p i q r k w h).bid

pub offer_small : (v : View) (p i q : ℕ) (r : Price) (k : ℕ) (w : Price) → fault v (Quote p i q r k w) ≡ None → k ≤ 10000
offer_small v p i q r k w h = (quote_fit v p i q r k w h).offer

-- a combination that exists has legs
exists_made : (cs : List (List Leg)) (c : ℕ) → exists cs c ≡ true → (legs : List Leg) × (made cs c ≡ Some legs)
exists_made cs c h =
    let parts = and_parts (leb 1001 c) (ltb c (1001 + length cs)) h in
    let from : 1001 ≤ c = leb-true 1001 c parts.0 in
    let to : c < 1001 + length cs = ltb-true c (1001 + length cs) parts.1 in
    (get_or cs (c - 1001) [], rw (le-ltb c 1001 from) (slice_get-get_or cs (c - 1001) [] (omega arith)))

pub lot_of_exists : (v : View) (i q : ℕ) → tradable v i ≡ true → Exists v.combinations (lot_book (lot_of i q))
lot_of_exists v i q h = cond_both (ltb i 1001) _ _ (λ l. Exists v.combinations (lot_book l)) (λ e. e)
    (λ e. exists_made v.combinations i (sym (cond-false (ltb i 1001) (known (band_of v.bands i)) (exists v.combinations i) e) ∙ h))

-- ---- what a call does

-- from one venue to another: the book keeps all, and what combinations there were there are
pub record Moves (v : View) (rows : List Row) (new : List Entry) (v' : View) : Type 1 where
  pub book : Keeps v.combinations v.book rows new v'.book
  pub grows : (c : ℕ) (legs : List Leg) → made v.combinations c ≡ Some legs → made v'.combinations c ≡ Some legs
  pub rising : All Rising v.combinations → All Rising v'.combinations

-- what combinations there were there are with one more
pub made_grows : (cs : List (List Leg)) (new : List Leg) (c : ℕ) (legs : List Leg) → made cs c ≡ Some legs → made (cs ++ new ∷ []) c ≡ Some legs
made_grows cs new c legs h = elim (cases_Bool (ltb c 1001)) [
  | inl low ↦ let nothing : None ≡ Some legs = rw low at h in absurd (cc)
  | inr high ↦
      let at : slice_get cs (c - 1001) ≡ Some legs = rw high at h in
      let within = slice_get_within cs (c - 1001) legs at in
      rw high
      (slice_get-get_or (cs ++ new ∷ []) (c - 1001) [] (omega (arith, length-append cs (new ∷ [])))
      ∙ ap Some (get_or_append_left cs (new ∷ []) [] (c - 1001) within ∙ get_or_from_slice_get cs (c - 1001) legs [] at))
]

pub rising_grows : (cs : List (List Leg)) (new : List Leg) → Rising new → All Rising cs → All Rising (cs ++ new ∷ [])
rising_grows cs new r a = All-push Rising cs new a r

-- a call that leaves the book as it is, and reports nothing
pub table_moves : (v v' : View) → Orderly v.book → v'.book ≡ v.book → ((c : ℕ) (legs : List Leg) → made v.combinations c ≡ Some legs → made v'.combinations c ≡ Some legs) →
    (All Rising v.combinations → All Rising v'.combinations) → Moves v [] [] v'
table_moves v v' s same grows rising = record { book = rw same (keeps_still v.combinations v.book 0 s); grows = grows; rising = rising }

-- ---- what a call that is accepted does

-- what is known of the orders at rest: each is in what exists, is traded by the rows of its book, and is alone in its number
pub record Rested (v : View) : Type 0 where
  pub exist : All (λ o. Exists v.combinations (lot_book o.lot)) v.book.orders
  pub traded : All Traded v.book.orders
  pub agree : Agree v.book.orders

-- from one venue to another, with new entries that fit what was said
pub record Comes (v : View) (Fits : List Entry → Type 0) (rows : List Row) (v' : View) : Type 1 where
  pub new : List Entry
  pub says : Fits new
  pub moves : Moves v rows new v'

-- where a call is accepted, it moves the venue, with the entries that its answer gives
abbrev Done : View → Call → Ending View → Type 1
Done v c (refused e) = Unit {1}
Done v c (done e) = Comes v (Says v.book.next v.book.orders c (acceptance_numbers e.accepted)) e.rows e.after

-- the book alone, in whatever phase
at_book_done : (v : View) (phase : Phase) (c : Call) (Fits : ℕ × ℕ → List Entry → Type 0) (e : Ending BookState) →
    ((a : ℕ × ℕ) (new : List Entry) → Fits a new → Says v.book.next v.book.orders c a new) → Ended v.combinations v.book Fits e → Done v c (at_book (in_phase v phase) e)
at_book_done v phase c Fits (refused e) fit k = tt
at_book_done v phase c Fits (done e) fit k = record {
  new = k.new;
  says = fit (acceptance_numbers e.accepted) k.new k.fits;
  moves = record { book = k.keeps; grows = λ i legs h. h; rising = λ h. h };
}

-- the same of a message, as it was read
abbrev Accepted : View → Result Call Refusal → Ending View → Type 1
Accepted v r (refused e) = Unit {1}
Accepted v r (done e) = Comes v (SaysRead v.book.next v.book.orders r (Ok (acceptance_numbers e.accepted))) e.rows e.after

accepted_read : (v : View) (c : Call) (e : Ending View) → Done v c e → Accepted v (Ok c) e
accepted_read v c (refused e) k = tt
accepted_read v c (done e) k = record { new = k.new; says = says_read v.book.next v.book.orders c (acceptance_numbers e.accepted) k.new k.says; moves = k.moves }

-- a call of the table alone
table_done : (v v' : View) (c : Call) (a : ℕ × ℕ) → ((x : Entry) → Said v.book.orders c a x → ⊥) → Rests v.book.orders c → Moves v [] [] v' → Comes v (Says v.book.next v.book.orders c a) [] v'
table_done v v' c a none rests moves = record { new = []; says = says_none v.book.next v.book.orders c a none rests [] refl; moves = moves }

-- an order as the line has it
abbrev arrival : ℕ → ℕ → Side → ℕ → Price → Duration → Arrival
arrival p i s q r d = record { participant = p; side = s; lot = lot_of i q; price = r; duration = d; quote = false }

module _ (shares : List ℕ → ℕ → List ℕ) (laws : Laws shares) where
  module _ (v : View) (orderly : Orderly v.book) (p i : ℕ) (s : Side) (q : ℕ) (r : Price) (d : Duration) (passes : fault v (Enter p i s q r d) ≡ None) where
    arrives_small : lot_size (lot_of i q) ≤ 10000
    arrives_small = rw (lot_of_size i q) (entered_small v p i s q r d passes)

    arrives_exists : Exists v.combinations (lot_book (lot_of i q))
    arrives_exists = lot_of_exists v i q (entered_tradable v p i s q r d passes)

    arrival_enters : (e : Ending BookState) → Enters shares v.combinations v.book (arrival p i s q r d) e →
        Ended v.combinations v.book (λ a new. (a.0 ≡ v.book.next) × (new ≡ entry (arrival p i s q r d) v.book.next ∷ [])) e
    arrival_enters = enters_keeps shares laws v.combinations v.book orderly (arrival p i s q r d) arrives_small arrives_exists (lot_of_traded i q)

    arrival_says : (a : ℕ × ℕ) (new : List Entry) → (a.0 ≡ v.book.next) × (new ≡ entry (arrival p i s q r d) v.book.next ∷ []) → Says v.book.next v.book.orders (Enter p i s q r d) a new
    arrival_says a new (number, is) = says_enter v.book.next v.book.orders p i s q r d a new (is ∙ rw (number, lot_of_book i q, lot_of_size i q) refl)

  module _ (v : View) (s : Orderly v.book) (rested : Rested v) where
    does_done : (c : Call) (e : Ending View) → Does shares v c e → Done v c e
    does_done c _ (at_fault _ e h) = tt
    does_done _ _ (enters p i side q r d e h m) = at_book_done v v.phase (Enter p i side q r d) _ e (arrival_says v s p i side q r d h) (arrival_enters v s p i side q r d h e m)
    does_done _ _ (amends p n q r e h m) =
        at_book_done v v.phase (Amend p n q r) (λ a new. Says v.book.next v.book.orders (Amend p n q r) a new) e (λ a new k. k)
        (amends_ended shares laws v.combinations v.book s rested.exist rested.traded rested.agree p n q r (amended_small v p n q r h) e m)
    does_done _ _ (quotes p i q r k w e h m) =
        at_book_done v v.phase (Quote p i q r k w) (λ a new. Says v.book.next v.book.orders (Quote p i q r k w) a new) e (λ a new k. k)
        (quotes_ended shares laws v.combinations v.book s p i q r k w (bid_small v p i q r k w h) (offer_small v p i q r k w h)
        (lot_of_exists v i q (quoted_tradable v p i q r k w h)) (lot_of_exists v i k (quoted_tradable v p i q r k w h)) e m)
    does_done _ _ (cancels p n e h m) =
        at_book_done v v.phase (Cancel p n) (λ a new. new ≡ []) e (λ a new. says_none v.book.next v.book.orders (Cancel p n) a cancel_unsaid tt new) (cancels_keep v.combinations v.book p n e s m)
    does_done _ _ (finds p legs c h k) = table_done v _ (Define p legs) _ define_unsaid tt (table_moves v _ s refl (λ c legs m. m) (λ r. r))
    does_done _ _ (makes p legs h k) =
        table_done v _ (Define p legs) _ define_unsaid tt
        (table_moves v _ s refl (made_grows v.combinations (normal (listed legs))) (rising_grows v.combinations (normal (listed legs)) (made_rising v p legs h)))
    does_done _ _ (switches w phase h) =
        at_book_done v phase (Switch w) (λ a new. new ≡ []) (withdrawn (withdraws w) v.book) (λ a new. says_none v.book.next v.book.orders (Switch w) a switch_unsaid tt new)
        (withdrawn_keeps v.combinations (withdraws w) v.book s)

    takes_accepted : (r : Result Call Refusal) (e : Ending View) → Takes shares v r e → Accepted v r e
    takes_accepted _ _ (unread e) = tt
    takes_accepted _ _ (read c e d) = accepted_read v c e (does_done c e d)

    takes_moves : (r : Result Call Refusal) (e : Effect View) → Takes shares v r (done e) → Comes v (SaysRead v.book.next v.book.orders r (Ok (acceptance_numbers e.accepted))) e.rows e.after
    takes_moves r e t = takes_accepted r (done e) t

-- ---- what its caller sees

module _ (shares : List ℕ → ℕ → List ℕ) where
  -- a call changes nothing and reports zeros, or it takes effect, with zeros after the last row
  pub data Came (v : View) (r : Result Call Refusal) : Result (ℕ × ℕ) Refusal → List Row → View → Type 0 where
    nothing : (room : ℕ) (e : Refusal) → Came v r (Err e) (blank room) v
    effect : (k : ℕ) (e : Effect View) → Takes shares v r (done e) → Came v r (Ok (acceptance_numbers e.accepted)) (e.rows ++ blank k) e.after

  close_came : (v : View) (room : ℕ) (r : Result Call Refusal) (e : Ending View) → Takes shares v r e → Came v r (close v room e).answer (close v room e).rows (close v room e).after
  close_came v room r (refused e) t = nothing room e
  close_came v room r (done e) t = cond_both (ltb room (length e.rows)) _ _ (λ (o : Outcome View). Came v r o.answer o.rows o.after) (λ _. nothing room refusal.ReportFull) (λ _. effect (room - length e.rows) e t)

  pub follows_came : (v : View) (room : ℕ) (r : Result Call Refusal) (answer : Result (ℕ × ℕ) Refusal) (rows : List Row) (v' : View) → Follows (Takes shares v r) v room answer rows v' → Came v r answer rows v'
  follows_came v room r answer rows v' f = rw (f.reported, f.answered, f.left) (close_came v room r f.ending f.allowed)

-- however it came, it moves the venue, with the entries that its answer gives
pub came_moves : (shares : List ℕ → ℕ → List ℕ) → Laws shares → (v : View) (r : Result Call Refusal) → Orderly v.book → Rested v →
    {answer : Result (ℕ × ℕ) Refusal} {rows : List Row} {v' : View} → Came shares v r answer rows v' → Comes v (SaysRead v.book.next v.book.orders r answer) rows v'
came_moves shares laws v r s rested (nothing room e) = record {
  new = [];
  says = refused_says v.book.next v.book.orders r e;
  moves = record { book = keeps_still v.combinations v.book room s; grows = λ i legs h. h; rising = λ h. h };
}
came_moves shares laws v r s rested (effect k e t) =
    let c = takes_moves shares laws v s rested r e t in
    let m = c.moves in
    record {
      new = c.new;
      says = c.says;
      moves = record { book = keeps_padded v.combinations v.book e.rows c.new e.after.book k m.book; grows = m.grows; rising = m.rising };
    }
