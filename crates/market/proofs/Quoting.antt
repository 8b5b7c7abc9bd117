-- A quote: its old sides are settled, and its new sides arrive, each with an entry.
use Rattle.std.proofs.Common.{◌≡◌, ℕ, ◌<◌, ◌≤◌, Bool, true, false, cond, ◌⊎◌, List, [], ◌∷◌, ◌++◌, sym, refl, ◌∙◌, inl, inr, arith}
use Rattle.std.specs.List.{All}
use Rattle.std.proofs.lemmas.Bool.{true≢false, ltb-true}
use Rattle.std.proofs.lemmas.Bool.Decides.{nat_tests}
use Rattle.std.proofs.lemmas.List.Elements.{All-nil, All-cons, All-append, All-weaker}
use Rattle.rules.specs.Domain.{Laws}
use Rattle.market.specs.declared.arrival.Arrival.{Arrival}
use Rattle.market.specs.declared.call.Call.{Call}
use Rattle.market.specs.declared.call.Call.TheVariants.{Quote}
use Rattle.market.specs.declared.leg.Leg.{Leg}
use Rattle.market.specs.declared.order.Order.{Order}
use Rattle.market.specs.declared.price.Price.{Price}
use Rattle.market.specs.declared.quote.Quote as quote
use Rattle.market.specs.declared.row.Row.{Row}
use Rattle.market.specs.declared.side.Side.{Side}
use Rattle.market.specs.declared.side.Side.TheVariants.{Buy, Sell}
use Rattle.market.specs.BookCalls.{BookState}
use Rattle.market.specs.Endings.{Ending, refused, done}
use Rattle.market.specs.Orders.{lot_book, lot_size, lot_of, book_number, quote_side}
use Rattle.market.specs.Quoting.{bid_of, offer_of, RevisesOld, is_new, old_number, PlacesSide, PlacesSide.stands, PlacesSide.arrives, Quotes, Quotes.no_number, Quotes.no_room_bid, Quotes.no_room_offer, Quotes.placed}
use Rattle.market.specs.Revisions.{Revision, absent, kept, cancelled, Revises}
use Rattle.market.specs.Turns.{trades}
use Rattle.market.specs.Entries.{Entry}
use Rattle.market.specs.Sessions.{Exists}
use Rattle.market.proofs.Entering.{entry, round_keeps, settles_keeps}
use Rattle.market.proofs.Keeping.{Orderly, Among, Keeps, keeps_still, keeps_then, keeps_then_none}
use Rattle.market.proofs.Lists.{any_first, any_left, any_right}
use Rattle.market.proofs.Lots.{lot_of_size, lot_of_book, lot_of_traded}
use Rattle.market.proofs.Revising.{revises_thins, revises_keeps, kept_used}
use Rattle.market.proofs.Saying.{Said, said_bid, said_offer, Says, Ended}
use Rattle.market.proofs.Sizes.{book_kind}
use Rattle.market.proofs.Sums.{Used}

-- what a side gives: an entry where it is new
abbrev pub side_entries : Arrival → Revision → ℕ → List Entry
side_entries a v n = cond (is_new a v) (entry a n ∷ []) []

-- something is wanted of a side that is new
pub new_wants : (a : Arrival) (v : Revision) → is_new a v ≡ true → 0 < lot_size a.lot
new_wants a absent h = ltb-true 0 (lot_size a.lot) h
new_wants a (kept n) h = absurd (true≢false (sym h))
new_wants a (cancelled o) h = ltb-true 0 (lot_size a.lot) h

-- a side that is not new, though something is wanted, has kept its number, which is that of a resting order
old_used : {test : Order → Bool} {q next : ℕ} {r : Price} {os os' : List Order} {rows : List Row} (a : Arrival) (v : Revision) → Revises test q r os v rows os' → All (Used next) os →
    is_new a v ≡ false → 0 < lot_size a.lot → (1 ≤ old_number v) × (old_number v < next)
old_used a absent revision used old some = absurd (grind (arith, nat_tests))
old_used a (kept n) revision used old some = kept_used revision used
old_used a (cancelled o) revision used old some = absurd (grind (arith, nat_tests))

-- ---- a side

-- an arrival that a book can take: of at most 10,000, of what exists, and traded by the rows of its book
pub record Fit (cs : List (List Leg)) (a : Arrival) : Type 0 where
  pub small : lot_size a.lot ≤ 10000
  pub exists : Exists cs (lot_book a.lot)
  pub traded : trades (book_number (lot_book a.lot)) (book_kind (lot_book a.lot)) ≡ true

module _ (shares : List ℕ → ℕ → List ℕ) (cs : List (List Leg)) where
  -- a side loses nothing, and gives a number where it is new
  pub side_keeps : Laws shares → (m m' : BookState) → Orderly m → (a : Arrival) → Fit cs a → {g n f : ℕ} {v : Revision} {rows : List Row} → PlacesSide shares cs g m a v n rows f m' →
      Keeps cs m rows (side_entries a v m.next) m'
  side_keeps laws m _ s a fit (stands old) = rw old (keeps_still cs m 0 s)
  side_keeps laws m _ s a fit (arrives new settles) = rw new (settles_keeps shares laws cs m s a fit.small fit.exists fit.traded settles)

  -- the entry of a new side has the number that the side came to
  pub side_told : {g n f : ℕ} {m m' : BookState} {a : Arrival} {v : Revision} {rows : List Row} → PlacesSide shares cs g m a v n rows f m' →
      All (λ e. (0 < lot_size a.lot) × (e ≡ entry a n)) (side_entries a v m.next)
  side_told {n = n} {a = a} (stands old) = rw old (All-nil (λ e. (0 < lot_size a.lot) × (e ≡ entry a n)))
  side_told {m = m} {a = a} {v} (arrives new settles) =
      let P : Entry → Type 0 = λ e. (0 < lot_size a.lot) × (e ≡ entry a m.next) in
      rw new (All-cons P (entry a m.next) [] (new_wants a v new, refl) (All-nil P))

  -- where something is wanted, the number is one given before, or has an entry
  pub side_covered : {test : Order → Bool} {q next : ℕ} {r : Price} {os os' : List Order} {rows' : List Row} {g n f : ℕ} {m m' : BookState} {a : Arrival} {v : Revision} {rows : List Row} →
      PlacesSide shares cs g m a v n rows f m' → Revises test q r os v rows' os' → All (Used next) os → 0 < lot_size a.lot →
      ((1 ≤ n) × (n < next)) ⊎ Among (side_entries a v m.next) (entry a n)
  side_covered {a = a} {v} (stands old) revision used some = inl (old_used a v revision used old some)
  side_covered {m = m} {a = a} (arrives new settles) revision used some = inr (rw new (any_first (λ x. x ≡ entry a m.next) (entry a m.next) [] refl))

-- ---- the call

-- what a quote that is placed gives: the bid's entry and then the offer's
pub record QuoteSays (next : ℕ) (bid offer : Arrival) (a : ℕ × ℕ) (new : List Entry) : Type 0 where
  pub told : All (λ e. ((0 < lot_size bid.lot) × (e ≡ entry bid a.0)) ⊎ ((0 < lot_size offer.lot) × (e ≡ entry offer a.1))) new
  pub covers_bid : 0 < lot_size bid.lot → ((1 ≤ a.0) × (a.0 < next)) ⊎ Among new (entry bid a.0)
  pub covers_offer : 0 < lot_size offer.lot → ((1 ≤ a.1) × (a.1 < next)) ⊎ Among new (entry offer a.1)

module _ (shares : List ℕ → ℕ → List ℕ) (laws : Laws shares) (cs : List (List Leg)) (m : BookState) (s : Orderly m) where
  -- the old sides
  pub old_keeps : (bid offer : Arrival) {u v : Revision} {rows : List Row} {os : List Order} → RevisesOld bid offer m.orders u v rows os → Keeps cs m rows [] (record { orders = os; next = m.next })
  old_keeps bid offer {os = os} old =
      let first = revises_keeps cs m s old.revises_bid in
      let between : BookState = record { orders = old.between; next = m.next } in
      rw old.reports (keeps_then cs m between (record { orders = os; next = m.next }) old.bid_rows old.offer_rows [] [] first (revises_keeps cs between first.orderly old.revises_offer))

  module _ (k : quote.Quote) (bid_fits : Fit cs (bid_of k)) (offer_fits : Fit cs (offer_of k)) where
    -- a quote that is placed gives the numbers of its new sides, the bid's first, and loses nothing
    pub quotes_kept : (e : Ending BookState) → Quotes shares cs m k e → Ended cs m (QuoteSays m.next (bid_of k) (offer_of k)) e
    quotes_kept _ (no_number old h) = tt
    quotes_kept _ (no_room_bid old low new full) = tt
    quotes_kept _ (no_room_offer old low bid new full) = tt
    quotes_kept _ (placed {u} {v} {b} {o} {rows = rows} {rows'} {rows''} {rows'''} {os} {os'} {m'} {m''} old low bid offer round) =
        let m0 : BookState = record { orders = os; next = m.next } in
        let end : BookState = record { orders = os'; next = m''.next } in
        let new = side_entries (bid_of k) u m.next in
        let new' = side_entries (offer_of k) v m'.next in
        let settled = old_keeps (bid_of k) (offer_of k) old in
        let bids = side_keeps shares cs laws m0 m' settled.orderly (bid_of k) bid_fits bid in
        let offers = side_keeps shares cs laws m' m'' bids.orderly (offer_of k) offer_fits offer in
        let last = round_keeps shares laws cs m'' offers.orderly round in
        let P : Entry → Type 0 = λ e. ((0 < lot_size (bid_of k).lot) × (e ≡ entry (bid_of k) b)) ⊎ ((0 < lot_size (offer_of k).lot) × (e ≡ entry (offer_of k) o)) in
        record {
          new = new ++ new';
          fits = record {
            told = All-append P new new' (All-weaker _ P (λ e h. inl h) new (side_told shares cs bid)) (All-weaker _ P (λ e h. inr h) new' (side_told shares cs offer));
            covers_bid = λ some. elim (side_covered shares cs bid old.revises_bid s.used some) [
              | inl given ↦ inl given
              | inr among ↦ inr (any_left (λ x. x ≡ entry (bid_of k) b) new new' among)
            ];
            covers_offer = λ some. elim (side_covered shares cs offer old.revises_offer ((revises_thins old.revises_bid).keeps (Used m.next) (λ o j h. h) s.used) some) [
              | inl given ↦ inl given
              | inr among ↦ inr (any_right (λ x. x ≡ entry (offer_of k) o) new new' among)
            ];
          };
          keeps = keeps_then cs m m0 end rows (rows' ++ (rows'' ++ rows''')) [] (new ++ new') settled
              (keeps_then cs m0 m' end rows' (rows'' ++ rows''') new new' bids (keeps_then_none cs m' m'' end rows'' rows''' new' offers last));
        }

-- ---- the call as a line has it

-- the entry of a side is what the line says of it
side_entry : (p i q n : ℕ) (s : Side) (r : Price) → entry (quote_side p s (record { lot = lot_of i q; price = r })) n ≡ record { number = n; participant = p; book = i; side = s; quantity = q; limit = r; quote = true }
side_entry p i q n s r = rw (lot_of_book i q, lot_of_size i q) refl

side_fits : (cs : List (List Leg)) (p i q : ℕ) (s : Side) (r : Price) → q ≤ 10000 → Exists cs (lot_book (lot_of i q)) → Fit cs (quote_side p s (record { lot = lot_of i q; price = r }))
side_fits cs p i q s r small exists = record { small = rw (lot_of_size i q) small; exists = exists; traded = lot_of_traded i q }

-- a quote as the line has it
abbrev pub quoted : ℕ → ℕ → ℕ → Price → ℕ → Price → quote.Quote
quoted p i q r k w = record { participant = p; bid = record { lot = lot_of i q; price = r }; offer = record { lot = lot_of i k; price = w } }

module _ (next : ℕ) (os : List Order) (p i q : ℕ) (r : Price) (k : ℕ) (w : Price) (a : ℕ × ℕ) (new : List Entry) (says : QuoteSays next (bid_of (quoted p i q r k w)) (offer_of (quoted p i q r k w)) a new) where
  abbrev call : Call
  call = Quote p i q r k w

  told_of : (e : Entry) →
      ((0 < lot_size (lot_of i q)) × (e ≡ entry (bid_of (quoted p i q r k w)) a.0)) ⊎ ((0 < lot_size (lot_of i k)) × (e ≡ entry (offer_of (quoted p i q r k w)) a.1)) →
      Said os call a e
  told_of e (inl bid) = rw (bid.1 ∙ side_entry p i q a.0 Buy r) (said_bid (rw (lot_of_size i q) at bid.0))
  told_of e (inr offer) = rw (offer.1 ∙ side_entry p i k a.1 Sell w) (said_offer (rw (lot_of_size i k) at offer.0))

  covered : (x : Entry) → Said os call a x → ((1 ≤ x.number) × (x.number < next)) ⊎ Among new x
  covered _ (said_bid some) = rw (side_entry p i q a.0 Buy r) at (says.covers_bid (rw (lot_of_size i q) some))
  covered _ (said_offer some) = rw (side_entry p i k a.1 Sell w) at (says.covers_offer (rw (lot_of_size i k) some))

  -- the new entries are what the line says of new numbers
  pub quote_says : Says next os call a new
  quote_says = record { told = All-weaker _ (Said os call a) told_of new says.told; covers = covered; rests = tt }

-- what fits one way fits another that says less
pub ended_weaker : (cs : List (List Leg)) (m : BookState) (Fits Fits' : ℕ × ℕ → List Entry → Type 0) → ((a : ℕ × ℕ) (new : List Entry) → Fits a new → Fits' a new) →
    (e : Ending BookState) → Ended cs m Fits e → Ended cs m Fits' e
ended_weaker cs m Fits Fits' f (refused e) k = tt
ended_weaker cs m Fits Fits' f (done e) k = record { new = k.new; fits = f _ k.new k.fits; keeps = k.keeps }

-- what a quote line says of its numbers is true, and nothing is lost
pub quotes_ended : (shares : List ℕ → ℕ → List ℕ) → Laws shares → (cs : List (List Leg)) (m : BookState) → Orderly m → (p i q : ℕ) (r : Price) (k : ℕ) (w : Price) →
    q ≤ 10000 → k ≤ 10000 → Exists cs (lot_book (lot_of i q)) → Exists cs (lot_book (lot_of i k)) → (e : Ending BookState) → Quotes shares cs m (quoted p i q r k w) e →
    Ended cs m (λ a new. Says m.next m.orders (Quote p i q r k w) a new) e
quotes_ended shares laws cs m s p i q r k w bid_small offer_small bid_exists offer_exists e quotes =
    ended_weaker cs m _ (λ a new. Says m.next m.orders (Quote p i q r k w) a new) (λ a new says. quote_says m.next m.orders p i q r k w a new says) e
    (quotes_kept shares laws cs m s (quoted p i q r k w) (side_fits cs p i q Buy r bid_small bid_exists) (side_fits cs p i k Sell w offer_small offer_exists) e quotes)
