-- Whom the rows of a report name: orders that were entered in the row's book, or in a combination whose leg it trades.
use Rattle.std.proofs.Common.{◌≡◌, ℕ, ◌-◌, Bool, true, false, cond, eqb, List, [], ◌∷◌, ◌++◌, map, get_or, Some, None, Option, Result, refl, sym, ap, ◌∙◌, inl, inr}
use Rattle.std.specs.List.{All, Any}
use Rattle.std.proofs.lemmas.Bool.{cond_both}
use Rattle.std.proofs.lemmas.List.Elements.{All-nil, All-cons, All-head, All-tail, All-append, All-weaker, All-map, All-replicate, All-filter}
use Rattle.market.specs.declared.book_id.BookId.{BookId}
use Rattle.market.specs.declared.call.Call.{Call}
use Rattle.market.specs.declared.leg.Leg.{Leg}
use Rattle.market.specs.declared.order.Order.{Order}
use Rattle.market.specs.declared.price.Price.{Price}
use Rattle.market.specs.declared.refusal.Refusal.{Refusal}
use Rattle.market.specs.declared.row.Row.{Row}
use Rattle.market.specs.declared.row.RowKind.{RowKind}
use Rattle.market.specs.declared.row.RowKind.TheVariants as kind
use Rattle.market.specs.declared.side.Side.{Side}
use Rattle.market.specs.Combinations.{made, is_minus}
use Rattle.market.specs.Fills.{facing, divided}
use Rattle.market.specs.Implied.{Taken, Taken.taken_all, Taken.next_level, LegsTaken, LegsTaken.no_leg, LegsTaken.next_leg, ImpliedFill}
use Rattle.market.specs.Ladders.{leg_side}
use Rattle.market.specs.Levels.{in_level}
use Rattle.market.specs.Orders.{lot_book, book_number, quantity_of, sized, less}
use Rattle.market.specs.Prices.{opposite}
use Rattle.market.specs.Revisions.{Revision, Revises, Revises.none, Revises.keeps, Revises.cancels}
use Rattle.market.specs.Round.{legs_of}
use Rattle.market.specs.Rows.{trade_row, combination_row, leg_row, implied_row, share_rows, fill_rows, cancel_row, blank_row, blank}
use Rattle.market.specs.Turns.{Turn}
use Rattle.market.specs.Entries.{Entry, Entered}
use Rattle.market.specs.FairTrades.{FairReport}
use Rattle.market.specs.Parties.{EnteredIn, TradesIn, Parties, Named}
use Rattle.market.proofs.FairFills.{legs_made, Known, known_lasts, KnownAt}
use Rattle.market.proofs.FairReports.{Silent, FairFrom, fair_none, fair_silent, fair_padded, fair_then}
use Rattle.market.proofs.Fills.{fill_each}
use Rattle.market.proofs.ImpliedSums.{taken_thins}
use Rattle.market.proofs.LevelSums.{facing_level, level_thins}
use Rattle.market.proofs.Lists.{all_middle, any_first, any_behind}
use Rattle.market.proofs.Places.{opposite_twice, both_named, alone_named}
use Rattle.market.proofs.Sizes.{lot_book-sized}

blank_silent : (k : ℕ) → All Silent (blank k)
blank_silent k = All-replicate Silent k blank_row (refl, refl)

-- ---- sides

-- on the other side of a combination, a leg is traded on its other side
leg_turned : (minus : Bool) (s : Side) → cond minus (opposite (opposite s)) (opposite s) ≡ opposite (cond minus (opposite s) s)
leg_turned true s = refl
leg_turned false s = refl

module _ {Message : Type 0} (reading : Message → Result Call Refusal) where
  -- ---- after more turns and with more combinations

  module _ (h h' : List (Turn Message)) (cs cs' : List (List Leg)) (more : (e : Entry) → Entered reading h e → Entered reading h' e)
      (grows : (c : ℕ) (legs : List Leg) → made cs c ≡ Some legs → made cs' c ≡ Some legs) where
    entered_later : {b : ℕ} {s : Side} {n : ℕ} → EnteredIn reading h b s n → EnteredIn reading h' b s n
    entered_later k = record { entry = k.entry; entered = more k.entry k.entered; number = k.number; book = k.book; side = k.side }

    trades_later : {i : ℕ} {s : Side} {n : ℕ} → TradesIn reading h cs i s n → TradesIn reading h' cs' i s n
    trades_later (inl own) = inl (entered_later own)
    trades_later (inr k) = inr (record { combination = k.combination; own_side = k.own_side; entered = entered_later k.entered; legs = k.legs; exists = grows k.combination k.legs k.exists; leg = k.leg })

    parties_later : (k : RowKind) (b buyer seller : ℕ) → Parties reading h cs k b buyer seller → Parties reading h' cs' k b buyer seller
    parties_later kind.Blank b buyer seller p = p
    parties_later kind.Trade b buyer seller p = (trades_later p.0, trades_later p.1)
    parties_later kind.Leg b buyer seller p = (trades_later p.0, trades_later p.1)
    parties_later kind.Combination b buyer seller (inl (p, inl e)) = inl (entered_later p, inl e)
    parties_later kind.Combination b buyer seller (inl (p, inr q)) = inl (entered_later p, inr (entered_later q))
    parties_later kind.Combination b buyer seller (inr p) = inr (p.0, entered_later p.1)
    parties_later kind.Cancellation b buyer seller (inl p) = inl (entered_later p.0, p.1)
    parties_later kind.Cancellation b buyer seller (inr p) = inr (p.0, entered_later p.1)

    -- rows name whom they should still
    pub named_later : (rows : List Row) → All (Named reading h cs) rows → All (Named reading h' cs') rows
    named_later = All-weaker (Named reading h cs) (Named reading h' cs') (λ row. parties_later row.kind row.book row.buyer row.seller)

  module _ (h : List (Turn Message)) where
    -- a known order was entered where it rests
    known_in : (o : Order) → Known reading h o → EnteredIn reading h (book_number (lot_book o.lot)) o.side o.number
    known_in o known = let l = known.limit in record { entry = l.0; entered = l.1; number = l.2; book = l.3; side = l.4 }

    -- the orders of a level, where all are known
    pub facing_known : (b : BookId) (s : Side) (p : Price) (os : List Order) → All (Known reading h) os → All (KnownAt reading h b (opposite s) p) (facing b s p os)
    facing_known b s p os known i x at = (All-filter (in_level b (opposite s) p) (Known reading h) os known i x at, facing_level b s p os i x at)

    module _ (cs : List (List Leg)) where
      blank_named : (k : ℕ) → All (Named reading h cs) (blank k)
      blank_named k = All-replicate (Named reading h cs) k blank_row (refl, refl)

      -- ---- cancellations

      cancel_named : (o : Order) → Known reading h o → Named reading h cs (cancel_row o)
      cancel_named o known = alone_named (EnteredIn reading h (book_number (lot_book o.lot))) o.side o.number (known_in o known)

      pub one_cancelled : (o : Order) → Known reading h o → All (Named reading h cs) (cancel_row o ∷ [])
      one_cancelled o known = All-cons (Named reading h cs) (cancel_row o) [] (cancel_named o known) (All-nil (Named reading h cs))

      pub cancels_named : (os : List Order) → All (Known reading h) os → All (Named reading h cs) (map cancel_row os)
      cancels_named os known = All-map (Named reading h cs) cancel_row os (All-weaker (Known reading h) (λ o. Named reading h cs (cancel_row o)) cancel_named os known)

      -- what is open of a known order is cancelled
      pub rest_cancelled : (o : Order) (q : ℕ) → Known reading h o → All (Named reading h cs) (cancel_row (sized o q) ∷ [])
      rest_cancelled o q known =
          let l = known.limit in
          one_cancelled (sized o q) (record { numbered = known.numbered; limit = (l.0, l.1, l.2, l.3 ∙ ap book_number (sym (lot_book-sized o.lot q)), l.4, l.5) })

      -- an order that is revised
      pub revises_named : {test : Order → Bool} {q : ℕ} {r : Price} {os os' : List Order} {v : Revision} {rows : List Row} → Revises test q r os v rows os' →
          All (Known reading h) os → All (Named reading h cs) rows
      revises_named (none others) known = All-nil (Named reading h cs)
      revises_named {q = q} (keeps before o behind is others its same) known =
          cond_both (eqb (quantity_of o - q) 0) [] (cancel_row (less o q) ∷ []) (All (Named reading h cs)) (λ e. All-nil (Named reading h cs))
          (λ e. rest_cancelled o (quantity_of o - q) (all_middle (Known reading h) before o behind (rw is at known)))
      revises_named (cancels before o behind is others its differs) known =
          one_cancelled o (all_middle (Known reading h) before o behind (rw is at known))

      -- ---- contract trades

      -- the order n trades with known orders of a level
      trades_named : (f n : ℕ) (b : BookId) (s : Side) (p : Price) → TradesIn reading h cs (book_number b) s n →
          (os : List Order) (ks : List ℕ) → All (KnownAt reading h b (opposite s) p) os → All (Named reading h cs) (fill_rows f n None os ks)
      trades_named f n b s p taker =
          fill_each (Named reading h cs) (KnownAt reading h b (opposite s) p) f n None
          (λ x k at. All-cons (Named reading h cs) (trade_row f n x k) []
          (both_named (TradesIn reading h cs (book_number (lot_book x.lot))) x.side x.number n (inl (known_in x at.0)) (rw (at.1.booked, at.1.sided, opposite_twice s) taker))
          (All-nil (Named reading h cs)))

      module _ (shares : List ℕ → ℕ → List ℕ) (f n : ℕ) where
        taken_named : {b : BookId} {s : Side} {q : ℕ} {os os' : List Order} {rows : List Row} → TradesIn reading h cs (book_number b) s n → Taken shares f n b s q os rows os' →
            All (Known reading h) os → All (Named reading h cs) rows
        taken_named taker taken_all known = All-nil (Named reading h cs)
        taken_named {b} {s} {q} {os} taker (next_level {rows = rows} p some best more) known =
            All-append (Named reading h cs) (fill_rows f n None (facing b s p os) (divided shares b s p os q)) rows
            (trades_named f n b s p taker (facing b s p os) (divided shares b s p os q) (facing_known b s p os known))
            (taken_named taker more ((level_thins shares b s p os q).keeps (Known reading h) (known_lasts reading h) known))

        -- leg by leg
        legs_named : {s : Side} {u : ℕ} {legs : List Leg} {os os' : List Order} {rows : List Row} → All (λ leg. TradesIn reading h cs leg.instrument (leg_side s leg) n) legs →
            LegsTaken shares f n s u legs os rows os' → All (Known reading h) os → All (Named reading h cs) rows
        legs_named takers no_leg known = All-nil (Named reading h cs)
        legs_named {s} takers (next_leg {leg} {legs} {rows = rows} {rows' = rows'} taken more) known =
            All-append (Named reading h cs) rows rows'
            (taken_named (All-head (λ leg. TradesIn reading h cs leg.instrument (leg_side s leg) n) leg legs takers) taken known)
            (legs_named (All-tail (λ leg. TradesIn reading h cs leg.instrument (leg_side s leg) n) leg legs takers) more ((taken_thins shares f n taken).keeps (Known reading h) (known_lasts reading h) known))

      -- ---- trades of units

      -- among these legs is one of the instrument of this one, and traded on the same side
      abbrev Among : Side → List Leg → Leg → Type 0
      Among s legs leg = Any (λ l. (l.instrument ≡ leg.instrument) × (leg_side s l ≡ leg_side s leg)) legs

      own_legs : (s : Side) (legs : List Leg) → All (Among s legs) legs
      own_legs s [] = All-nil (Among s [])
      own_legs s (leg ∷ legs) =
          All-cons (Among s (leg ∷ legs)) leg legs (any_first (λ l. (l.instrument ≡ leg.instrument) × (leg_side s l ≡ leg_side s leg)) leg legs (refl, refl))
          (All-weaker (Among s legs) (Among s (leg ∷ legs)) (λ x. any_behind (λ l. (l.instrument ≡ x.instrument) × (leg_side s l ≡ leg_side s x)) leg legs) legs (own_legs s legs))

      -- an order of a combination trades each of its legs
      trades_legs : (b : BookId) (s : Side) (n : ℕ) → EnteredIn reading h (book_number b) s n → (legs : List Leg) → legs_of cs b ≡ Some legs →
          All (λ leg. TradesIn reading h cs leg.instrument (leg_side s leg) n) legs
      trades_legs b s n own legs exists =
          All-weaker (Among s legs) (λ leg. TradesIn reading h cs leg.instrument (leg_side s leg) n)
          (λ leg at. inr (record { combination = book_number b; own_side = s; entered = own; legs = legs; exists = legs_made cs b legs exists; leg = at })) legs (own_legs s legs)

      -- the order n, which was entered in the same combination, trades with a known order of it
      module _ (f n : ℕ) (b : BookId) (s : Side) (p : Price) (taker : EnteredIn reading h (book_number b) s n) (legs : List Leg) (exists : legs_of cs b ≡ Some legs) where
        unit_named : (x : Order) (k : ℕ) → EnteredIn reading h (book_number (lot_book x.lot)) x.side x.number → EnteredIn reading h (book_number (lot_book x.lot)) (opposite x.side) n →
            Named reading h cs (combination_row f n x k)
        unit_named x k own other = let both = both_named (EnteredIn reading h (book_number (lot_book x.lot))) x.side x.number n own other in inl (both.0, inr both.1)

        leg_named : (x : Order) (k : ℕ) (leg : Leg) → TradesIn reading h cs leg.instrument (leg_side x.side leg) x.number → TradesIn reading h cs leg.instrument (leg_side (opposite x.side) leg) n →
            Named reading h cs (leg_row f n x k leg)
        leg_named x k leg own other = both_named (TradesIn reading h cs leg.instrument) (leg_side x.side leg) x.number n own (rw (← leg_turned (is_minus leg) x.side) other)

        share_named : (x : Order) (k : ℕ) → KnownAt reading h b (opposite s) p x → All (Named reading h cs) (share_rows f n (Some legs) x k)
        share_named x k (known, at) =
            let own = known_in x known in
            let other : EnteredIn reading h (book_number (lot_book x.lot)) (opposite x.side) n = rw (at.booked, at.sided, opposite_twice s) taker in
            let has : legs_of cs (lot_book x.lot) ≡ Some legs = rw at.booked exists in
            let owns = trades_legs (lot_book x.lot) x.side x.number own legs has in
            let others = trades_legs (lot_book x.lot) (opposite x.side) n other legs has in
            All-cons (Named reading h cs) (combination_row f n x k) (map (leg_row f n x k) legs) (unit_named x k own other)
            (All-map (Named reading h cs) (leg_row f n x k) legs (λ i d lt. leg_named x k (get_or legs i d) (owns i d lt) (others i d lt)))

        units_named : (os : List Order) (ks : List ℕ) → All (KnownAt reading h b (opposite s) p) os → All (Named reading h cs) (fill_rows f n (Some legs) os ks)
        units_named = fill_each (Named reading h cs) (KnownAt reading h b (opposite s) p) f n (Some legs) share_named

      -- ---- fills

      module _ (f : ℕ) (o : Order) (known : Known reading h o) where
        -- at a level that the order o faces
        pub fill_named : (p : Price) (legs : Option (List Leg)) → legs ≡ legs_of cs (lot_book o.lot) →
            (os : List Order) (ks : List ℕ) → All (KnownAt reading h (lot_book o.lot) (opposite o.side) p) os → All (Named reading h cs) (fill_rows f o.number legs os ks)
        fill_named p None e = trades_named f o.number (lot_book o.lot) o.side p (inl (known_in o known))
        fill_named p (Some legs) e = units_named f o.number (lot_book o.lot) o.side p (known_in o known) legs (sym e)

        -- out of the legs' books
        pub implied_named : (shares : List ℕ → ℕ → List ℕ) (legs : List Leg) → legs_of cs (lot_book o.lot) ≡ Some legs →
            {level : Option Price} {q u : ℕ} {os os' os'' : List Order} {rows : List Row} → ImpliedFill shares legs o level f q u os os' rows os'' → All (Known reading h) os' → All (Named reading h cs) rows
        implied_named shares legs exists {u = u} i all =
            rw i.reports
            (All-cons (Named reading h cs) (implied_row f o u i.net) i.taken
            (elim (alone_named (EnteredIn reading h (book_number (lot_book o.lot))) o.side o.number (known_in o known)) [ inl buys ↦ inl (buys.0, inl buys.1) | inr sells ↦ inr sells ])
            (legs_named shares f o.number (trades_legs (lot_book o.lot) o.side o.number (known_in o known) legs exists) i.takes all))

      -- ---- reports that are fair, and name whom they should

      -- rows of the fills from f on and before g
      pub record Told (f g : ℕ) (rows : List Row) : Type 0 where
        pub fair : FairFrom reading h cs f g rows
        pub named : All (Named reading h cs) rows

      pub told_none : (f : ℕ) → Told f f []
      told_none f = record { fair = fair_none reading h cs f; named = All-nil (Named reading h cs) }

      pub told_silent : (f : ℕ) (rows : List Row) → All Silent rows → All (Named reading h cs) rows → Told f f rows
      told_silent f rows silent named = record { fair = fair_silent reading h cs f rows silent; named = named }

      pub told_then : {f g f' : ℕ} {rows more : List Row} → Told f g rows → Told g f' more → Told f f' (rows ++ more)
      told_then {rows = rows} {more} a b = record { fair = fair_then reading h cs a.fair b.fair; named = All-append (Named reading h cs) rows more a.named b.named }

      -- a whole report
      abbrev pub Reported : List Row → Type 0
      Reported rows = FairReport reading h cs rows × All (Named reading h cs) rows

      pub told_report : {f g : ℕ} {rows : List Row} → Told f g rows → Reported rows
      told_report told = (told.fair.fair, told.named)

      -- and one that rows of zeros fill up
      pub report_padded : (rows : List Row) (k : ℕ) → Reported rows → Reported (rows ++ blank k)
      report_padded rows k report = (fair_padded reading h cs rows (blank k) (blank_silent k) report.0, All-append (Named reading h cs) rows (blank k) report.1 (blank_named k))

      pub report_blank : (k : ℕ) → Reported (blank k)
      report_blank k = told_report (told_silent 0 (blank k) (blank_silent k) (blank_named k))
