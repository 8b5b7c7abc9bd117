-- The report of each turn of a session is fair, and names whom it should.
use Rattle.std.proofs.Common.{◌≡◌, ℕ, ◌-◌, ◌≤◌, ltb, Bool, true, false, List, [], ◌∷◌, None, Some, Result, sym, refl, ap, ◌∙◌, inl, inr}
use Rattle.std.specs.List.{All, slice_get}
use Rattle.std.proofs.lemmas.Bool.{cases_Bool}
use Rattle.std.proofs.lemmas.List.Elements.{All-nil, All-cons, All-weaker}
use Rattle.std.proofs.lemmas.Option.{slice_get_within, get_or_from_slice_get}
use Rattle.rules.specs.Domain.{Laws}
use Rattle.market.specs.declared.arrival.Arrival.{Arrival}
use Rattle.market.specs.declared.call.Call.{Call}
use Rattle.market.specs.declared.call.Duration.{Duration}
use Rattle.market.specs.declared.call.Duration.TheVariants.{Day}
use Rattle.market.specs.declared.leg.Leg.{Leg}
use Rattle.market.specs.declared.order.Order.{Order}
use Rattle.market.specs.declared.price.Price.{Price}
use Rattle.market.specs.declared.refusal.Refusal.{Refusal}
use Rattle.market.specs.declared.row.Row.{Row}
use Rattle.market.specs.declared.side.Side.{Side}
use Rattle.market.specs.declared.side.Side.TheVariants.{Buy, Sell}
use Rattle.market.specs.BookCalls.{BookState}
use Rattle.market.specs.Combinations.{made, Rising}
use Rattle.market.specs.Endings.{Follows}
use Rattle.market.specs.Implied.{LegsTaken}
use Rattle.market.specs.Orders.{lot_book, lot_of, book_number, arriving, anew}
use Rattle.market.specs.Turns.{Turn, trades}
use Rattle.market.specs.Entries.{Entry, Entered, Accepted}
use Rattle.market.specs.FairTrades.{of_leg}
use Rattle.market.specs.Sessions.{Exists}
use Rattle.market.specs.Venues.{View, tradable, Takes}
use Rattle.market.proofs.Asking.{Bounded, bounded_thins}
use Rattle.market.proofs.Entering.{entry, settles_keeps}
use Rattle.market.proofs.FairFills.{Known, known_lasts}
use Rattle.market.proofs.FairImplied.{LegLaid, LegsLaid}
use Rattle.market.proofs.FairMatches.{Lasts}
use Rattle.market.proofs.Fairness.{Steps, follows_told}
use Rattle.market.proofs.ImpliedSums.{legs_thin}
use Rattle.market.proofs.Keeping.{Orderly, Among, EntryOf}
use Rattle.market.proofs.LaidOut.{LegTaken, legs_rows, legs_taken, legs_trades, legs_only, legs_nets}
use Rattle.market.proofs.LevelSums.{level_thins}
use Rattle.market.proofs.Lists.{all_among}
use Rattle.market.proofs.Lots.{lot_of_size, lot_of_traded}
use Rattle.market.proofs.Parties.{Reported}
use Rattle.market.proofs.Quoting.{Fit as Fitting}
use Rattle.market.proofs.Revising.{revises_thins, revises_keeps}
use Rattle.market.proofs.Saying.{Said}
use Rattle.market.proofs.Sizes.{lot_size-sized, lot_book-sized, book_kind}
use Rattle.market.proofs.Standing.{Written, written_later, Standing}
use Rattle.market.proofs.Taking.{entered_small, entered_tradable, amended_small, quoted_tradable, bid_small, offer_small, lot_of_exists}
use Rattle.market.proofs.Thinning.{Thins, left_thins}

-- a combination of the table has its legs in rising instruments
made_rising : (cs : List (List Leg)) → All Rising cs → (c : ℕ) (legs : List Leg) → made cs c ≡ Some legs → Rising legs
made_rising cs a c legs h = elim (cases_Bool (ltb c 1001)) [
  | inl low ↦ let nothing : None ≡ Some legs = rw low at h in absurd (cc)
  | inr high ↦
      let at : slice_get cs (c - 1001) ≡ Some legs = rw high at h in
      rw (get_or_from_slice_get cs (c - 1001) legs legs at) at (a (c - 1001) legs (slice_get_within cs (c - 1001) legs at))
]

-- an order as a line has it fits
line_fits : (v : View) (p i : ℕ) (s : Side) (q : ℕ) (r : Price) (d : Duration) (quote : Bool) → tradable v i ≡ true → q ≤ 10000 →
    Fitting v.combinations (record { participant = p; side = s; lot = lot_of i q; price = r; duration = d; quote = quote })
line_fits v p i s q r d quote passes small = record { small = rw (lot_of_size i q) small; exists = lot_of_exists v i q passes; traded = lot_of_traded i q }

-- an order that rests fits as it arrives anew
anew_fits : (cs : List (List Leg)) (o : Order) (q : ℕ) (r : Price) → q ≤ 10000 → Exists cs (lot_book o.lot) →
    trades (book_number (lot_book o.lot)) (book_kind (lot_book o.lot)) ≡ true → Fitting cs (anew o q r)
anew_fits cs o q r small exists traded = record { small = rw (lot_size-sized o.lot q) small; exists = rw (lot_book-sized o.lot q) exists; traded = rw (lot_book-sized o.lot q) traded }

module _ {Message : Type 0} (reading : Message → Result Call Refusal) (h : List (Turn Message)) where
  -- orders that are known, no more of them than rules are made for
  record Fit (os : List Order) : Type 0 where
    known : All (Known reading h) os
    bounded : Bounded os

  fit_thins : {os os' : List Order} → Thins os os' → Fit os → Fit os'
  fit_thins thins fit = record { known = thins.keeps (Known reading h) (known_lasts reading h) fit.known; bounded = bounded_thins thins fit.bounded }

  legs_laid : (shares : List ℕ → ℕ → List ℕ) → Laws shares → {f n u : ℕ} {s : Side} {legs : List Leg} {os os' : List Order} {rows : List Row} →
      Rising legs → Bounded os → LegsTaken shares f n s u legs os rows os' → LegsLaid f n s u legs os rows
  legs_laid shares laws {f} {n} {u} {s} {legs} {os} {os'} {rows} rising bounded taken = record {
    trades = legs_trades f n s legs rows (legs_rows shares laws f n s u taken);
    only = legs_only f n s legs rows (legs_rows shares laws f n s u taken);
    each = All-weaker (LegTaken n s u os rows os') (λ leg. LegLaid n s u leg (of_leg leg rows)) (λ leg k. record { quantity = k.quantity; named = k.named }) legs
        (legs_taken shares laws f n s u taken rising bounded);
    nets = legs_nets shares laws f n s u legs os os' rows rising bounded taken;
  }

  fit_lasts : (shares : List ℕ → ℕ → List ℕ) → Laws shares → Lasts reading h shares Fit
  fit_lasts shares laws = record {
    knows = λ os fit. fit.known;
    lays = λ rising fit taken. legs_laid shares laws rising fit.bounded taken;
    filled = λ b s p os q. fit_thins (level_thins shares b s p os q);
    taken = λ {f} {n} taken. fit_thins (legs_thin shares f n taken);
    left = λ ahead o behind k. fit_thins (left_thins ahead o behind k);
  }

  -- a newcomer is known where the order that arrives is
  newcomer_known : (cs : List (List Leg)) (a : Arrival) (n : ℕ) → Known reading h (arriving a n) → (o : Order) (e : Entry) → Among (entry a n ∷ []) e → EntryOf cs o e → Known reading h o
  newcomer_known cs a n known o e among is =
      let own : e ≡ entry a n = all_among (λ x. x ≡ entry a n) (entry a n ∷ []) e (All-cons (λ x. x ≡ entry a n) (entry a n) [] refl (All-nil (λ x. x ≡ entry a n))) among in
      let number : n ≡ o.number = ap (λ (x : Entry). x.number) (sym own) ∙ is.number in
      let limit : a.price ≡ o.price = ap (λ (x : Entry). x.limit) (sym own) ∙ is.limit in
      let book : book_number (lot_book a.lot) ≡ book_number (lot_book o.lot) = ap (λ (x : Entry). x.book) (sym own) ∙ is.book in
      let side : a.side ≡ o.side = ap (λ (x : Entry). x.side) (sym own) ∙ is.side in
      let l = known.limit in
      record { numbered = rw number at known.numbered; limit = (l.0, l.1, l.2 ∙ number, l.3 ∙ book, l.4 ∙ side, l.5 ∙ limit) }

  -- an orderly book of orders that are known
  record Good (m : BookState) : Type 0 where
    orderly : Orderly m
    known : All (Known reading h) m.orders

  good_steps : (shares : List ℕ → ℕ → List ℕ) (laws : Laws shares) (cs : List (List Leg)) (rising : (c : ℕ) (legs : List Leg) → made cs c ≡ Some legs → Rising legs) →
      Steps reading h shares Fit (fit_lasts shares laws) cs rising Good
  good_steps shares laws cs rising = record {
    numbered = λ m good. good.orderly.started;
    fit = λ m good. record { known = good.known; bounded = good.orderly.bounded };
    revises = λ m good k. record {
      orderly = (revises_keeps cs m good.orderly k).orderly;
      known = (revises_thins k).keeps (Known reading h) (known_lasts reading h) good.known;
    };
    settles = λ m a good fitting known k.
        let kept = settles_keeps shares laws cs m good.orderly a fitting.small fitting.exists fitting.traded k in
        record { orderly = kept.orderly; known = kept.comes (Known reading h) (known_lasts reading h) good.known (newcomer_known cs a m.next known) };
  }

module _ {Message : Type 0} (reading : Message → Result Call Refusal) (shares : List ℕ → ℕ → List ℕ) (laws : Laws shares) where
  -- after a turn, its report is fair and names whom it should: what its line says of new numbers is entered
  pub turn_told : (t : Turn Message) (h : List (Turn Message)) (u v : View) → Standing reading h u →
      ((c : Call) (a : ℕ × ℕ) (x : Entry) → Accepted reading t c a → Said u.book.orders c a x → u.book.next ≤ x.number → Entered reading (t ∷ h) x) →
      Follows (Takes shares u (reading t.message)) u t.room t.answer t.rows v → Reported reading (t ∷ h) v.combinations t.rows
  turn_told t h u v s seen f =
      let written = written_later reading t h u.book.orders s.written in
      let known : All (Known reading (t ∷ h)) u.book.orders = λ i o at. let w = written i o at in record { numbered = (s.orderly.used i o at).0; limit = (w.entry, w.entered, w.number, w.book, w.side, w.limit) } in
      let rising = made_rising u.combinations s.rising in
      follows_told reading (t ∷ h) shares (Fit reading (t ∷ h)) (fit_lasts reading (t ∷ h) shares laws) (Good reading (t ∷ h)) u
      (record {
        rising = rising;
        steps = good_steps reading (t ∷ h) shares laws u.combinations rising;
        good = record { orderly = s.orderly; known = known };
        entered = λ p i side q r d passes. line_fits u p i side q r d false (entered_tradable u p i side q r d passes) (entered_small u p i side q r d passes);
        amended = λ p n q r passes o there.
            let w = all_among (Written reading h) u.book.orders o s.written there in
            anew_fits u.combinations o q r (amended_small u p n q r passes) (all_among (λ x. Exists u.combinations (lot_book x.lot)) u.book.orders o s.made there) (rw w.book at w.traded);
        bid = λ p i q r k w passes. line_fits u p i Buy q r Day true (quoted_tradable u p i q r k w passes) (bid_small u p i q r k w passes);
        offered = λ p i q r k w passes. line_fits u p i Sell k w Day true (quoted_tradable u p i q r k w passes) (offer_small u p i q r k w passes);
      })
      t v f (λ c a x says answers. seen c a x (record { says = says; answers = answers }))
