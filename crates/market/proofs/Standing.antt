-- What holds of a session from turn to turn: sums, numbers, and what rests.
use Rattle.std.proofs.Common.{◌≡◌, ℕ, zero, suc, subst, ◌+◌, ◌-◌, ◌<◌, ◌≤◌, true, false, ◌⊎◌, Bool, List, [], ◌∷◌, Some, Result, inl, inr, refl, sym, ap, ◌∙◌, arith}
use Rattle.std.specs.List.{All, Any}
use Rattle.std.proofs.lemmas.List.Sums.{sum_by-cons}
use Rattle.std.proofs.lemmas.List.Elements.{All-nil, All-weaker}
use Rattle.market.specs.declared.book_id.BookId.{BookId}
use Rattle.market.specs.declared.book_id.BookId.TheVariants.{Instrument, Combination}
use Rattle.market.specs.declared.call.Call.{Call}
use Rattle.market.specs.declared.call.Call.TheVariants.{Amend, Quote}
use Rattle.market.specs.declared.leg.Leg.{Leg}
use Rattle.market.specs.declared.order.Order.{Order}
use Rattle.market.specs.declared.price.Price.{Price}
use Rattle.market.specs.declared.refusal.Refusal.{Refusal}
use Rattle.market.specs.declared.row.RowKind.{RowKind}
use Rattle.market.specs.declared.row.RowKind.TheVariants as kind
use Rattle.market.specs.declared.side.Side.{Side}
use Rattle.market.specs.Combinations.{made, Rising}
use Rattle.market.specs.Orders.{lot_book, quantity_of, book_number}
use Rattle.market.specs.Turns.{Turn, trades, is_cancellation, over, resting}
use Rattle.market.specs.Entries.{Entry, order_numbers, numbers, Given, Accepted, Entered, Entered.by_enter, Entered.by_amend, Entered.by_bid, Entered.by_offer, Entered.earlier}
use Rattle.market.specs.Parties.{EnteredIn, TradesIn, Parties, Named}
use Rattle.market.specs.Sessions.{Apart, Exists}
use Rattle.market.specs.Venues.{View, fresh}
use Rattle.market.proofs.Keeping.{Orderly, numbers_below, Among, gives_later, gives_others_none, gives_own, gives_single, gives_alone, gives_others, gives_newest}
use Rattle.market.proofs.Lists.{any_first}
use Rattle.market.proofs.Quiet.{AllExist}
use Rattle.market.proofs.Saying.{Said, said_enter, said_amend, said_bid, said_offer, Rests}
use Rattle.market.proofs.Sizes.{lot_book-sized, Lasting, book_kind, TradedBy}
use Rattle.market.proofs.Sums.{Used, NumbersBelow, over_below, resting_below}
use Rattle.market.proofs.Taking.{Moves, Rested}
use Rattle.market.proofs.Telling.{SaysRead, said_numbers, numbers_said, numbers_accepted}

-- what exists goes on to exist
exists_grows : (cs cs' : List (List Leg)) → ((c : ℕ) (legs : List Leg) → made cs c ≡ Some legs → made cs' c ≡ Some legs) → (b : BookId) → Exists cs b → Exists cs' b
exists_grows cs cs' grows (Instrument i) h = h
exists_grows cs cs' grows (Combination c) h = (h.0, grows c h.0 h.1)

module _ {Message : Type 0} (reading : Message → Result Call Refusal) where
  -- a number in the answer to an accepted line is given
  given-now : {t : Turn Message} (h : List (Turn Message)) {c : Call} {a : ℕ × ℕ} (n : ℕ) → Accepted reading t c a → Any (λ k. k ≡ n) (order_numbers c a) → Given reading (t ∷ h) n
  given-now {t} h n accepted among = (0, t, omega arith, refl, rw (accepted.says, accepted.answers) among)

  given-later : {t : Turn Message} (h : List (Turn Message)) (n : ℕ) → Given reading h n → Given reading (t ∷ h) n
  given-later h n g = (suc g.0, g.1, omega (arith, g.2), g.3, g.4)

  pub entered-given : {h : List (Turn Message)} {e : Entry} → Entered reading h e → Given reading h e.number
  entered-given (by_enter {a = a} accepted new) = given-now _ a.0 accepted (any_first (λ k. k ≡ a.0) a.0 [] refl)
  entered-given (by_amend {a = a} accepted new entered same) = given-now _ a.0 accepted (any_first (λ k. k ≡ a.0) a.0 [] refl)
  entered-given (by_bid {p = p} {i} {q} {k} {r} {w} {a} accepted some new) = given-now _ a.0 accepted (said_numbers {os = []} {c = Quote p i q r k w} {a = a} (said_bid some))
  entered-given (by_offer {p = p} {i} {q} {k} {r} {w} {a} accepted some new) = given-now _ a.1 accepted (said_numbers {os = []} {c = Quote p i q r k w} {a = a} (said_offer some))
  entered-given (earlier {e = e} entered) = given-later _ e.number (entered-given entered)

  -- the entry of an amend, by the book and the side of the entry of the order that it names
  entered_amend : {t : Turn Message} {h : List (Turn Message)} {p n q : ℕ} {r : Price} {a : ℕ × ℕ} (old : Entry) (book : ℕ) (side : Side) → old.book ≡ book → old.side ≡ side →
      Accepted reading t (Amend p n q r) a → (Given reading h a.0 → ⊥) → Entered reading h old → old.number ≡ n →
      Entered reading (t ∷ h) (record { number = a.0; participant = p; book = book; side = side; quantity = q; limit = r; quote = false })
  entered_amend old book side is_book is_side accepted new entered named = rw (← is_book, ← is_side) (by_amend accepted new entered named)

  -- a resting order was entered with its number, its participant, its book and its limit, as a side of a quote if it is one
  pub record Written (h : List (Turn Message)) (o : Order) : Type 0 where
    pub entry : Entry
    pub entered : Entered reading h entry
    pub number : entry.number ≡ o.number
    pub participant : entry.participant ≡ o.participant
    pub book : entry.book ≡ book_number (lot_book o.lot)
    pub side : entry.side ≡ o.side
    pub limit : entry.limit ≡ o.price
    pub quote : entry.quote ≡ o.quote
    pub traded : trades entry.book (book_kind (lot_book o.lot)) ≡ true

  written_lasts : (h : List (Turn Message)) → Lasting (Written h)
  written_lasts h o k w =
      let same = lot_book-sized o.lot (quantity_of o - k) in
      record { entry = w.entry; entered = w.entered; number = w.number; participant = w.participant; book = w.book ∙ ap book_number (sym same); side = w.side; limit = w.limit; quote = w.quote; traded = rw same w.traded }

  pub written_later : (t : Turn Message) (h : List (Turn Message)) (os : List Order) → All (Written h) os → All (Written (t ∷ h)) os
  written_later t h = All-weaker (Written h) (Written (t ∷ h))
      (λ o w. record { entry = w.entry; entered = earlier w.entered; number = w.number; participant = w.participant; book = w.book; side = w.side; limit = w.limit; quote = w.quote; traded = w.traded })

  -- what holds of a session, as it is proved from turn to turn
  pub record Standing (h : List (Turn Message)) (v : View) : Type 0 where
    pub conserved : (e : Entry) → Entered reading h e → e.quantity ≡ over (trades e.book) e.number h + over is_cancellation e.number h + resting e.number v.book.orders
    pub single : (e e' : Entry) → Entered reading h e → Entered reading h e' → e.number ≡ e'.number → e ≡ e'
    pub numbered : (n : ℕ) → 1 ≤ n → n < v.book.next → (e : Entry) × (e.number ≡ n) × Entered reading h e
    pub no_other : (n : ℕ) → Given reading h n → (1 ≤ n) × (n < v.book.next)
    pub orderly : Orderly v.book
    pub written : All (Written h) v.book.orders
    pub made : AllExist v.combinations v.book.orders
    pub rising : All Rising v.combinations

  -- ---- one turn more

  -- the orders of a number that was entered are traded by the rows of its book
  traded_by : (h : List (Turn Message)) (v : View) → Standing h v → (e : Entry) → Entered reading h e → All (TradedBy (trades e.book) e.number) v.book.orders
  traded_by h v s e entered =
      All-weaker (Written h) (TradedBy (trades e.book) e.number)
      (λ o w same. rw (s.single e w.entry entered w.entered (sym same ∙ sym w.number)) w.traded) v.book.orders s.written

  -- the rows of the turns so far name whom they should
  abbrev pub PastNamed : List (Turn Message) → View → Type 0
  PastNamed h v = All (λ t. All (Named reading h v.combinations) t.rows) h

  module _ (h : List (Turn Message)) (u : View) (s : Standing h u) where
    -- an order that rests was entered
    rests_written : (o : Order) → Any (λ x. x ≡ o) u.book.orders → Written h o
    rests_written o (k, x, at, is, same) = subst (Written h) (is ∙ same) (s.written k x at)

    -- numbers below the next were given
    below_given : (n : ℕ) → 1 ≤ n → n < u.book.next → Given reading h n
    below_given n low high = let r = s.numbered n low high in subst (Given reading h) r.1 (entered-given r.2)

    -- an entry has a number that was given before, below the next
    entered_old : (e : Entry) → Entered reading h e → e.number < u.book.next
    entered_old e entered = (s.no_other e.number (entered-given entered)).1

    -- so has an order that a row names
    in_below : {b n : ℕ} {side : Side} → EnteredIn reading h b side n → n < u.book.next
    in_below k = omega (arith, k.number, entered_old k.entry k.entered)

    trades_below : {i n : ℕ} {side : Side} → TradesIn reading h u.combinations i side n → n < u.book.next
    trades_below (inl own) = in_below own
    trades_below (inr leg) = in_below leg.entered

    parties_below : (k : RowKind) (b buyer seller : ℕ) → Parties reading h u.combinations k b buyer seller → (buyer < u.book.next) × (seller < u.book.next)
    parties_below kind.Blank b buyer seller p = omega (arith, p, s.orderly.started)
    parties_below kind.Trade b buyer seller p = (trades_below p.0, trades_below p.1)
    parties_below kind.Leg b buyer seller p = (trades_below p.0, trades_below p.1)
    parties_below kind.Combination b buyer seller (inl (p, inl none)) = (in_below p, omega (arith, none, s.orderly.started))
    parties_below kind.Combination b buyer seller (inl (p, inr q)) = (in_below p, in_below q)
    parties_below kind.Combination b buyer seller (inr p) = (omega (arith, p.0, s.orderly.started), in_below p.1)
    parties_below kind.Cancellation b buyer seller (inl p) = (in_below p.0, omega (arith, p.1, s.orderly.started))
    parties_below kind.Cancellation b buyer seller (inr p) = (omega (arith, p.0, s.orderly.started), in_below p.1)

    -- the turns so far say nothing of a number that is not below the next
    past_silent : PastNamed h u → (is : RowKind → Bool) (n : ℕ) → u.book.next ≤ n → over is n h ≡ 0
    past_silent named is n high =
        over_below u.book.next n high is h
        (All-weaker (λ t. All (Named reading h u.combinations) t.rows) (λ t. All (NumbersBelow u.book.next) t.rows)
        (λ t. All-weaker (Named reading h u.combinations) (NumbersBelow u.book.next) (λ row. parties_below row.kind row.book row.buyer row.seller) t.rows) h named)

    -- two orders at rest under one number are of one book and one side
    rests_agree : (o o' : Order) → Any (λ x. x ≡ o) u.book.orders → Any (λ x. x ≡ o') u.book.orders → o.number ≡ o'.number →
        (book_number (lot_book o.lot) ≡ book_number (lot_book o'.lot)) × (o.side ≡ o'.side)
    rests_agree o o' there there' same =
        let w = rests_written o there in
        let w' = rests_written o' there' in
        let one : w.entry ≡ w'.entry = s.single w.entry w'.entry w.entered w'.entered (w.number ∙ same ∙ sym w'.number) in
        (sym w.book ∙ ap (λ (e : Entry). e.book) one ∙ w'.book, sym w.side ∙ ap (λ (e : Entry). e.side) one ∙ w'.side)

    -- what a call needs to know of the orders at rest
    pub stands_rested : Rested u
    stands_rested = record {
      exist = s.made;
      traded = All-weaker (Written h) (λ o. trades (book_number (lot_book o.lot)) (book_kind (lot_book o.lot)) ≡ true) (λ o w. rw w.book at w.traded) u.book.orders s.written;
      agree = rests_agree;
    }

    -- an amend's entry has the book and the side of the entry that the resting order of its number was given
    amended_said : {p n q : ℕ} {r : Price} {a : ℕ × ℕ} (old : Entry) → Entered reading h old → old.number ≡ n → Rests u.book.orders (Amend p n q r) →
        Said u.book.orders (Amend p n q r) a (record { number = a.0; participant = p; book = old.book; side = old.side; quantity = q; limit = r; quote = false })
    amended_said {p} {n} {q} {r} {a} old entered named (k, o, at, is, same) =
        let there : Any (λ x. x ≡ o) u.book.orders = (k, o, at, is, refl) in
        let w = rests_written o there in
        let one : w.entry ≡ old = s.single w.entry old w.entered entered (w.number ∙ same ∙ sym named) in
        rw (← one, w.book, w.side) (said_amend o there same)

    -- a number that is not below the next is new
    not_given : (n : ℕ) → u.book.next ≤ n → Given reading h n → ⊥
    not_given n high g = omega (arith, (s.no_other n g).1)

    -- what an accepted line says of a new number is entered
    pub said_entered : (t : Turn Message) (c : Call) (a : ℕ × ℕ) (x : Entry) → Accepted reading t c a → Said u.book.orders c a x → u.book.next ≤ x.number → Entered reading (t ∷ h) x
    said_entered t _ a _ accepted said_enter high = by_enter accepted (not_given a.0 high)
    said_entered t _ a _ accepted (said_amend o there same) high =
        let w = rests_written o there in
        entered_amend w.entry (book_number (lot_book o.lot)) o.side w.book w.side accepted (not_given a.0 high) w.entered (w.number ∙ same)
    said_entered t _ a _ accepted (said_bid some) high = by_bid accepted some (not_given a.0 high)
    said_entered t _ a _ accepted (said_offer some) high = by_offer accepted some (not_given a.1 high)

  module _ (t : Turn Message) (h : List (Turn Message)) (u v : View) (s : Standing h u) (named : PastNamed h u) (new : List Entry)
      (says : SaysRead u.book.next u.book.orders (reading t.message) t.answer new) (moves : Moves u t.rows new v) where
    -- an entry of this turn is entered in it
    entered_now : (e : Entry) → Among new e → Entered reading (t ∷ h) e
    entered_now e among =
        let (c, a, read, answered, said) = says.told e among in
        said_entered h u s t c a e (record { says = read; answers = answered }) said (gives_own e moves.book.gives among).0

    -- what an accepted line says of a number not given before is one of the new entries
    said_new : (c : Call) (a : ℕ × ℕ) (x : Entry) → Accepted reading t c a → Said u.book.orders c a x → (Given reading h x.number → ⊥) → Among new x
    said_new c a x accepted said fresh = elim (says.covers c a x accepted.says accepted.answers said) [
      | inl old ↦ absurd (fresh (below_given h u s x.number old.0 old.1))
      | inr among ↦ among
    ]

    -- what is entered was entered before, or is one of the new entries
    entered_new : (e : Entry) → Entered reading (t ∷ h) e → Entered reading h e ⊎ Among new e
    entered_new e (by_enter accepted fresh) = inr (said_new _ _ e accepted said_enter fresh)
    entered_new e (by_amend {old = old} accepted fresh entered named) =
        inr (said_new _ _ e accepted (amended_said h u s old entered named (says.rests _ _ accepted.says accepted.answers)) fresh)
    entered_new e (by_bid accepted some fresh) = inr (said_new _ _ e accepted (said_bid some) fresh)
    entered_new e (by_offer accepted some fresh) = inr (said_new _ _ e accepted (said_offer some) fresh)
    entered_new e (earlier entered) = inl entered

    -- an entry of an earlier turn: what this turn reports of it is what rests less
    conserved_old : (e : Entry) → Entered reading h e → e.quantity ≡ over (trades e.book) e.number (t ∷ h) + over is_cancellation e.number (t ∷ h) + resting e.number v.book.orders
    conserved_old e entered =
        let n = e.number in
        let range = s.no_other n (entered-given entered) in
        omega (arith, sum_by-cons {X = Turn Message}, moves.book.balance n e.book range.0 (traded_by h u s e entered) (gives_others n e.book moves.book.gives range.1), gives_others_none n moves.book.gives range.1, s.conserved e entered)

    -- an entry of this turn: nothing was reported of its number before
    conserved_now : (e : Entry) → Among new e → e.quantity ≡ over (trades e.book) e.number (t ∷ h) + over is_cancellation e.number (t ∷ h) + resting e.number v.book.orders
    conserved_now e among =
        let n = e.number in
        let own = gives_own e moves.book.gives among in
        let none_before = resting_below u.book.next n own.0 u.book.orders (numbers_below u.book s.orderly) in
        let untraded = past_silent h u s named (trades e.book) n own.0 in
        let uncancelled = past_silent h u s named is_cancellation n own.0 in
        let nobody = All-weaker (λ (o : Order). o.number < u.book.next) (TradedBy (trades e.book) n) (λ o low same. absurd (omega (arith, own.0))) u.book.orders (numbers_below u.book s.orderly) in
        omega (arith, sum_by-cons {X = Turn Message}, own, moves.book.balance n e.book (omega (arith, own.0, s.orderly.started)) nobody (gives_alone e moves.book.gives among))

    conserved_more : (e : Entry) → Entered reading (t ∷ h) e → e.quantity ≡ over (trades e.book) e.number (t ∷ h) + over is_cancellation e.number (t ∷ h) + resting e.number v.book.orders
    conserved_more e entered = elim (entered_new e entered) [ inl old ↦ conserved_old e old | inr among ↦ conserved_now e among ]

    single_more : (e e' : Entry) → Entered reading (t ∷ h) e → Entered reading (t ∷ h) e' → e.number ≡ e'.number → e ≡ e'
    single_more e e' entered entered' same = elim (entered_new e entered) [
      | inl old ↦ elim (entered_new e' entered') [
        | inl old' ↦ s.single e e' old old' same
        | inr among ↦ absurd (omega (arith, entered_old h u s e old, (gives_own e' moves.book.gives among).0))
      ]
      | inr among ↦ elim (entered_new e' entered') [
        | inl old ↦ absurd (omega (arith, entered_old h u s e' old, (gives_own e moves.book.gives among).0))
        | inr among' ↦ gives_single e e' moves.book.gives among among' same
      ]
    ]

    numbered_more : (n : ℕ) → 1 ≤ n → n < v.book.next → (e : Entry) × (e.number ≡ n) × Entered reading (t ∷ h) e
    numbered_more n low high = elim (gives_newest n moves.book.gives high) [
      | inl old ↦ let r = s.numbered n low old in (r.0, r.1, earlier r.2)
      | inr now ↦ (now.0, now.1, entered_now now.0 now.2)
    ]

    -- a number in the answer of this turn was given before, or is that of a new entry
    number_below : (n : ℕ) → Any (λ k. k ≡ n) (numbers reading t) → (1 ≤ n) × (n < v.book.next)
    number_below n h' =
        let (c, a, read, answered, any) = numbers_accepted (reading t.message) t.answer n h' in
        let (x, said, is) = numbers_said u.book.orders c a n (says.rests c a read answered) any in
        elim (says.covers c a x read answered said) [
          | inl old ↦ (omega (arith, old.0, is), omega (arith, old.1, is, gives_later moves.book.gives))
          | inr among ↦ let own = gives_own x moves.book.gives among in (omega (arith, own.0, s.orderly.started, is), omega (arith, own.1, is))
        ]

    no_other_more : (n : ℕ) → Given reading (t ∷ h) n → (1 ≤ n) × (n < v.book.next)
    no_other_more n (zero, _, at, is, now) = number_below n (rw (← is) at now)
    no_other_more n (suc i, t', at, is, old) = let r = s.no_other n (i, t', omega arith, is, old) in (r.0, omega (arith, r.1, gives_later moves.book.gives))

    written_more : All (Written (t ∷ h)) v.book.orders
    written_more =
        moves.book.comes (Written (t ∷ h)) (written_lasts (t ∷ h)) (written_later t h u.book.orders s.written)
        (λ o e among is. record { entry = e; entered = entered_now e among; number = is.number; participant = is.participant; book = is.book; side = is.side; limit = is.limit; quote = is.quote; traded = is.traded })

    exist_more : AllExist v.combinations v.book.orders
    exist_more =
        let P : Order → Type 0 = λ o. Exists v.combinations (lot_book o.lot) in
        moves.book.comes P (λ o n x. rw (lot_book-sized o.lot (quantity_of o - n)) x)
        (All-weaker (λ o. Exists u.combinations (lot_book o.lot)) P (λ o x. exists_grows u.combinations v.combinations moves.grows (lot_book o.lot) x) u.book.orders s.made)
        (λ o e among is. exists_grows u.combinations v.combinations moves.grows (lot_book o.lot) is.exists)

    pub standing_more : Standing (t ∷ h) v
    standing_more = record {
      conserved = conserved_more;
      single = single_more;
      numbered = numbered_more;
      no_other = no_other_more;
      orderly = moves.book.orderly;
      written = written_more;
      made = exist_more;
      rising = moves.rising s.rising;
    }

  pub fresh-stands : (v : View) → v ≡ fresh v.product v.bands → Standing [] v
  fresh-stands v e = rw e (record {
    conserved = λ x h. absurd (let w = entered-given h in omega arith);
    single = λ x y h. absurd (let w = entered-given h in omega arith);
    numbered = λ n low high. absurd (omega arith);
    no_other = λ n h. absurd (omega arith);
    orderly = record {
      started = omega arith;
      used = All-nil (Used 1);
      bounded = record { small = All-nil (λ o. quantity_of o ≤ 10000); few = omega arith };
      uncrossed = All-nil (λ x. All (Apart x) []);
      by_arrival = tt;
    };
    written = All-nil (Written []);
    made = All-nil (λ o. Exists [] (lot_book o.lot));
    rising = All-nil Rising;
  })
