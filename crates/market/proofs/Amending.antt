-- An order that is amended: what rested of it is cut, cancelled or arrives anew.
use Rattle.std.proofs.Common.{◌≡◌, ℕ, ◌+◌, ◌-◌, ◌<◌, ◌≤◌, true, false, not, eqb, List, [], ◌∷◌, ◌++◌, sym, refl, ap, ◌∙◌, inl, inr}
use Rattle.std.specs.List.{All, Any}
use Rattle.std.proofs.lemmas.Bool.{and_parts, not-true, eqb-true}
use Rattle.std.proofs.lemmas.List.Elements.{All-nil, All-cons}
use Rattle.rules.specs.Domain.{Laws}
use Rattle.market.specs.declared.call.Call.{Call}
use Rattle.market.specs.declared.call.Call.TheVariants.{Amend}
use Rattle.market.specs.declared.leg.Leg.{Leg}
use Rattle.market.specs.declared.order.Order.{Order}
use Rattle.market.specs.declared.price.Price.{Price}
use Rattle.market.specs.declared.row.Row.{Row}
use Rattle.market.specs.Amending.{Amends, Amends.in_place, Amends.no_number, Amends.arrives}
use Rattle.market.specs.BookCalls.{BookState}
use Rattle.market.specs.Endings.{Ending}
use Rattle.market.specs.Orders.{lot_book, book_number, own, anew}
use Rattle.market.specs.Revisions.{kept, Revises}
use Rattle.market.specs.Turns.{trades}
use Rattle.market.specs.Entries.{Entry}
use Rattle.market.specs.Sessions.{Exists}
use Rattle.market.proofs.Entering.{entry, round_keeps, settles_keeps}
use Rattle.market.proofs.Keeping.{Orderly, keeps_then, keeps_then_none}
use Rattle.market.proofs.Lists.{all_among, any_first}
use Rattle.market.proofs.Revising.{Found, revises_keeps, cancelled_found, kept_found, kept_used}
use Rattle.market.proofs.Saying.{Said, said_amend, Says, Ended}
use Rattle.market.proofs.Sizes.{lot_size-sized, lot_book-sized, book_kind}

-- the resting orders of one number are in one book, on one side
abbrev pub Agree : List Order → Type 0
Agree os = (o o' : Order) → Any (λ x. x ≡ o) os → Any (λ x. x ≡ o') os → o.number ≡ o'.number → (book_number (lot_book o.lot) ≡ book_number (lot_book o'.lot)) × (o.side ≡ o'.side)

-- the rows of its book trade the order
abbrev pub Traded : Order → Type 0
Traded o = trades (book_number (lot_book o.lot)) (book_kind (lot_book o.lot)) ≡ true

-- the participant's own order of that number has that number
pub own_number : (p n : ℕ) (o : Order) → own p n o ≡ true → o.number ≡ n
own_number p n o h = eqb-true o.number n (and_parts (eqb o.number n) _ h).0

-- it is the participant's, and no side of a quote
own_parts : (p n : ℕ) (o : Order) → own p n o ≡ true → (o.participant ≡ p) × (o.quote ≡ false)
own_parts p n o h =
    let parts = and_parts (eqb o.participant p) (not o.quote) (and_parts (eqb o.number n) _ h).1 in
    (eqb-true o.participant p parts.0, not-true o.quote parts.1)

-- what the line says of the participant's own order, entered anew
anew_entry : (p n : ℕ) (o : Order) (q next : ℕ) (r : Price) → own p n o ≡ true →
    entry (anew o q r) next ≡ record { number = next; participant = p; book = book_number (lot_book o.lot); side = o.side; quantity = q; limit = r; quote = false }
anew_entry p n o q next r h = rw (lot_book-sized o.lot q, lot_size-sized o.lot q, (own_parts p n o h).0, (own_parts p n o h).1) refl

module _ (shares : List ℕ → ℕ → List ℕ) (laws : Laws shares) (cs : List (List Leg)) (m : BookState) (s : Orderly m)
    (exist : All (λ o. Exists cs (lot_book o.lot)) m.orders) (traded : All Traded m.orders) (agree : Agree m.orders)
    (p n q : ℕ) (r : Price) (small : q ≤ 10000) where
  -- the order that the line names rests
  rests : (o : Order) → Found (own p n) m.orders o → Any (λ x. x.number ≡ n) m.orders
  rests o f = (f.there.0, f.there.1, f.there.2, f.there.3, ap (λ (x : Order). x.number) f.there.4 ∙ own_number p n o f.passes)

  abbrev call : Call
  call = Amend p n q r

  -- in place, the number is that of a resting order
  said_kept : {k : ℕ} {rows : List Row} {os : List Order} → Revises (own p n) q r m.orders (kept k) rows os → (x : Entry) → Said m.orders call (k, 0) x → (1 ≤ x.number) × (x.number < m.next)
  said_kept revision _ (said_amend o there is) = kept_used revision s.used

  says_kept : (k : ℕ) {rows : List Row} {os : List Order} → Revises (own p n) q r m.orders (kept k) rows os → Says m.next m.orders call (k, 0) []
  says_kept k revision =
      let found = kept_found revision in
      record {
        told = All-nil (Said m.orders call (k, 0));
        covers = λ x said. inl (said_kept revision x said);
        rests = rests found.0 found.1;
      }

  -- anew, the number is the next, and the entry is the line's, in the book and on the side of the order that it names
  said_anew : (o : Order) (a : ℕ) → Found (own p n) m.orders o → (x : Entry) → Said m.orders call (m.next, a) x → entry (anew o q r) m.next ≡ x
  said_anew o a found _ (said_amend o' there is) =
      let same = agree o o' found.there there (own_number p n o found.passes ∙ sym is) in
      rw (← same.0, ← same.1) (anew_entry p n o q m.next r found.passes)

  says_anew : (o : Order) (a : ℕ) → Found (own p n) m.orders o → Says m.next m.orders call (m.next, a) (entry (anew o q r) m.next ∷ [])
  says_anew o a found =
      let P : Entry → Type 0 = Said m.orders call (m.next, a) in
      record {
        told = All-cons P _ [] (rw (anew_entry p n o q m.next r found.passes) (said_amend o found.there (own_number p n o found.passes))) (All-nil P);
        covers = λ x said. inr (any_first (λ y. y ≡ x) _ [] (said_anew o a found x said));
        rests = rests o found;
      }

  -- an amended order is cut in place, or cancelled and entered anew: what the line says of its number is true, and nothing is lost
  pub amends_ended : (e : Ending BookState) → Amends shares cs m p n q r e → Ended cs m (λ a new. Says m.next m.orders (Amend p n q r) a new) e
  amends_ended _ (no_number revision h) = tt
  amends_ended _ (in_place {k} {rows = rows} {rows'} {os} {os'} revision round) =
      let before = revises_keeps cs m s revision in
      record {
        new = [];
        fits = says_kept k revision;
        keeps = keeps_then cs m (record { orders = os; next = m.next }) (record { orders = os'; next = m.next }) rows rows' [] [] before
            (round_keeps shares laws cs (record { orders = os; next = m.next }) before.orderly round);
      }
  amends_ended _ (arrives {o} {left = left} {rows = rows} {rows'} {rows''} {os} {os'} {os''} revision low settles round) =
      let found = cancelled_found revision in
      let before = revises_keeps cs m s revision in
      let without : BookState = record { orders = os; next = m.next } in
      let arrived : BookState = record { orders = os'; next = m.next + 1 } in
      let end : BookState = record { orders = os''; next = m.next + 1 } in
      let new = entry (anew o q r) m.next ∷ [] in
      let middle = settles_keeps shares laws cs without before.orderly (anew o q r) (rw (lot_size-sized o.lot q) small)
      (rw (lot_book-sized o.lot q) (all_among (λ x. Exists cs (lot_book x.lot)) m.orders o exist found.there))
      (rw (lot_book-sized o.lot q) (all_among Traded m.orders o traded found.there)) settles in
      record {
        new = new;
        fits = says_anew o (q - left) found;
        keeps = keeps_then cs m without end rows (rows' ++ rows'') [] new before
            (keeps_then_none cs without arrived end rows' rows'' new middle (round_keeps shares laws cs arrived middle.orderly round));
      }
