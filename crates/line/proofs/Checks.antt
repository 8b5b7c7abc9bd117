-- A line that is checked and a line that is called are refused alike.
use Rattle.std.proofs.Common.{◌≡◌, ℕ, Bool, true, false, not, ◌||◌, eqb, ltb, List, [], ◌∷◌, length, Some, None, Err, Option, Result, refl, ap, ◌∙◌, subst, arith}
use Rattle.std.specs.List.{list_any}
use Rattle.std.specs.Option.{is_some, option_map}
use Rattle.std.proofs.lemmas.Bool.{cond_both}
use Rattle.std.proofs.lemmas.Bool.Decides.{nat_tests}
use Rattle.market.specs.declared.arrival.Arrival.{Arrival}
use Rattle.market.specs.declared.call.Call.{Call}
use Rattle.market.specs.declared.call.Call.TheVariants.{Enter, Amend, Cancel, Quote, Define, Switch}
use Rattle.market.specs.declared.leg.Leg.{Leg}
use Rattle.market.specs.declared.order.Order.{Order}
use Rattle.market.specs.declared.phase.Phase.{Phase}
use Rattle.market.specs.declared.price.Price.{Price}
use Rattle.market.specs.declared.quote.Quote.{Quote as BothSides}
use Rattle.market.specs.declared.refusal.Refusal.{Refusal}
use Rattle.market.specs.declared.refusal.Refusal.TheVariants as refusal
use Rattle.market.specs.declared.row.Row.{Row}
use Rattle.market.specs.Amending.{Amends, Amends.in_place, Amends.no_number, Amends.arrives}
use Rattle.market.specs.BookCalls.{BookState, Enters, Enters.no_number, Enters.no_room, Enters.settled, Cancels, Cancels.taken_out}
use Rattle.market.specs.Endings.{Ending, refused, done, Outcome, close, Follows}
use Rattle.market.specs.Combinations.{normal, same_legs, broken_leg}
use Rattle.market.specs.Legs.{listed}
use Rattle.market.specs.Orders.{lot_book, book_number, own_order}
use Rattle.market.specs.Quoting.{Quotes, Quotes.no_number, Quotes.no_room_bid, Quotes.no_room_offer, Quotes.placed}
use Rattle.market.specs.Tables.{unless, topmost, first_broken}
use Rattle.market.specs.Venues.{View, between, trading, serving, band_of, known, tradable, price_fits, next_phase, switch_fault, amend_fault, side_fits, bid_below_offer, fault, at_book, Does, Does.at_fault, Does.enters, Does.amends, Does.quotes, Does.cancels, Does.finds, Does.makes, Does.switches, Takes, Takes.unread, Takes.read}
use Rattle.line.specs.CallLines.{call_form}
use Rattle.line.specs.Gateways.{by_line}
use Rattle.line.specs.Verdicts.{line_call, check_code}
use Rattle.line.proofs.Places.{LineRefusal, line_refusal}

-- a refusal, if any, is not by the line layer
abbrev Elsewhere : Option Refusal → Type 0
Elsewhere None = Unit {0}
Elsewhere (Some e) = by_line (Err e) ≡ false

-- an ending, if a refusal, is not one by the line layer
abbrev EndsElsewhere : {S : Type 0} → Ending S → Type 0
EndsElsewhere (refused e) = by_line (Err e) ≡ false
EndsElsewhere (done e) = Unit {0}

-- ---- what the gate refuses

enter_elsewhere : (a b c d e : Bool) → Elsewhere (topmost (unless a refusal.Phase ∷ unless b refusal.Participant ∷ unless c (refusal.Unknown 2) ∷ unless d (refusal.Quantity 4) ∷ unless e (refusal.Price 5) ∷ []))
enter_elsewhere false b c d e = refl
enter_elsewhere true false c d e = refl
enter_elsewhere true true false d e = refl
enter_elsewhere true true true false e = refl
enter_elsewhere true true true true false = refl
enter_elsewhere true true true true true = tt

define_elsewhere : (a b c : Bool) (d e : Option ℕ) → Elsewhere (topmost (topmost (unless a refusal.Phase ∷ unless b refusal.Participant ∷ option_map refusal.Unknown d ∷ option_map refusal.Legs e ∷ []) ∷ unless c refusal.CombinationsSpent ∷ []))
define_elsewhere false b c d e = refl
define_elsewhere true false c d e = refl
define_elsewhere true true c (Some p) e = refl
define_elsewhere true true c None (Some p) = refl
define_elsewhere true true false None None = refl
define_elsewhere true true true None None = tt

cancel_elsewhere : (a b c : Bool) → Elsewhere (topmost (unless a refusal.Phase ∷ unless b refusal.Participant ∷ unless c refusal.Order ∷ []))
cancel_elsewhere false b c = refl
cancel_elsewhere true false c = refl
cancel_elsewhere true true false = refl
cancel_elsewhere true true true = tt

fits_elsewhere : (a b : Bool) → Elsewhere (topmost (topmost (unless a (refusal.Quantity 3) ∷ unless b (refusal.Price 4) ∷ []) ∷ []))
fits_elsewhere false b = refl
fits_elsewhere true false = refl
fits_elsewhere true true = tt

amend_elsewhere : (v : View) (a b : Bool) (o : Option Order) (q : ℕ) (r : Price) → Elsewhere (topmost (unless a refusal.Phase ∷ unless b refusal.Participant ∷ amend_fault v o q r ∷ []))
amend_elsewhere v false b o q r = refl
amend_elsewhere v true false o q r = refl
amend_elsewhere v true true None q r = refl
amend_elsewhere v true true (Some o) q r = fits_elsewhere (between 1 10000 q) (price_fits v (book_number (lot_book o.lot)) r)

quote_elsewhere : (a b c d e f g h : Bool) → Elsewhere (topmost (
    unless a refusal.Phase
    ∷ unless b refusal.Participant
    ∷ unless c (refusal.Unknown 2)
    ∷ unless d (refusal.Quantity 3)
    ∷ unless e (refusal.Quantity 5)
    ∷ unless f (refusal.Price 4)
    ∷ unless g (refusal.Price 6)
    ∷ unless h refusal.Crossed
    ∷ []))
quote_elsewhere false b c d e f g h = refl
quote_elsewhere true false c d e f g h = refl
quote_elsewhere true true false d e f g h = refl
quote_elsewhere true true true false e f g h = refl
quote_elsewhere true true true true false f g h = refl
quote_elsewhere true true true true true false g h = refl
quote_elsewhere true true true true true true false h = refl
quote_elsewhere true true true true true true true false = refl
quote_elsewhere true true true true true true true true = tt

switch_elsewhere : (o : Option Phase) → Elsewhere (switch_fault o)
switch_elsewhere None = refl
switch_elsewhere (Some phase) = tt

fault_elsewhere : (v : View) (c : Call) → Elsewhere (fault v c)
fault_elsewhere v (Enter p i s q r d) = enter_elsewhere (trading v.phase) (between 1 999 p) (tradable v i) (between 1 10000 q) (price_fits v i r)
fault_elsewhere v (Cancel p n) = cancel_elsewhere (serving v.phase) (between 1 999 p) (is_some (own_order p n v.book.orders))
fault_elsewhere v (Switch w) = switch_elsewhere (next_phase v.phase w)
fault_elsewhere v (Amend p n q r) = amend_elsewhere v (trading v.phase) (between 1 999 p) (own_order p n v.book.orders) q r
fault_elsewhere v (Quote p i q r k w) =
    quote_elsewhere (trading v.phase) (between 1 999 p) (tradable v i) (between 0 10000 q) (between 0 10000 k) (side_fits v i q r) (side_fits v i k w) (bid_below_offer q r k w)
fault_elsewhere v (Define p legs) = define_elsewhere (trading v.phase) (between 1 999 p) (ltb (length v.combinations) 32 || list_any (same_legs (normal (listed legs))) v.combinations) (first_broken (λ l. known (band_of v.bands l.instrument)) (listed legs) 3) (broken_leg v.product (listed legs))

-- ---- what the book refuses

at_book_elsewhere : (v : View) (e : Ending BookState) → EndsElsewhere e → EndsElsewhere (at_book v e)
at_book_elsewhere v (refused e) h = h
at_book_elsewhere v (done e) h = tt

cancels_elsewhere : (m : BookState) (p n : ℕ) (e : Ending BookState) → Cancels m p n e → EndsElsewhere e
cancels_elsewhere m p n _ (taken_out before o behind is others mine) = tt

-- ---- what the caller is told

close_elsewhere : (v : View) (room : ℕ) (e : Ending View) → EndsElsewhere e → by_line (close v room e).answer ≡ false
close_elsewhere v room (refused e) h = h
close_elsewhere v room (done e) h = cond_both (ltb room (length e.rows)) _ _ (λ (o : Outcome View). by_line o.answer ≡ false) (λ t. refl) (λ t. refl)

module _ (shares : List ℕ → ℕ → List ℕ) where
  enters_elsewhere : (cs : List (List Leg)) (m : BookState) (a : Arrival) (e : Ending BookState) → Enters shares cs m a e → EndsElsewhere e
  enters_elsewhere cs m a _ (no_number h) = refl
  enters_elsewhere cs m a _ (no_room h full) = refl
  enters_elsewhere cs m a _ (settled h s round) = tt

  amends_elsewhere : (cs : List (List Leg)) (m : BookState) (p n q : ℕ) (r : Price) (e : Ending BookState) → Amends shares cs m p n q r e → EndsElsewhere e
  amends_elsewhere cs m p n q r _ (in_place revision round) = tt
  amends_elsewhere cs m p n q r _ (no_number revision spent) = refl
  amends_elsewhere cs m p n q r _ (arrives revision within settles round) = tt

  quotes_elsewhere : (cs : List (List Leg)) (m : BookState) (quote : BothSides) (e : Ending BookState) → Quotes shares cs m quote e → EndsElsewhere e
  quotes_elsewhere cs m quote _ (no_number old spent) = refl
  quotes_elsewhere cs m quote _ (no_room_bid old within new full) = refl
  quotes_elsewhere cs m quote _ (no_room_offer old within bid new full) = refl
  quotes_elsewhere cs m quote _ (placed old within bid offer round) = tt

  does_elsewhere : (v : View) (c : Call) (e : Ending View) → Does shares v c e → EndsElsewhere e
  does_elsewhere v c _ (at_fault _ e h) = subst Elsewhere h (fault_elsewhere v c)
  does_elsewhere v _ _ (enters p i s q r d e h m) = at_book_elsewhere v e (enters_elsewhere v.combinations v.book _ e m)
  does_elsewhere v _ _ (amends p n q r e h m) = at_book_elsewhere v e (amends_elsewhere v.combinations v.book p n q r e m)
  does_elsewhere v _ _ (quotes p i q r k w e h m) = at_book_elsewhere v e (quotes_elsewhere v.combinations v.book _ e m)
  does_elsewhere v _ _ (cancels p n e h m) = at_book_elsewhere v e (cancels_elsewhere v.book p n e m)
  does_elsewhere v _ _ (finds p legs c h k) = tt
  does_elsewhere v _ _ (makes p legs h k) = tt
  does_elsewhere v _ _ (switches w phase h) = tt

  takes_checked : (v : View) (room : ℕ) (asked : Result Call Refusal) (e : Ending View) → LineRefusal asked → Takes shares v asked e → by_line (close v room e).answer ≡ not (eqb (check_code asked) 0)
  takes_checked v room _ _ l (unread e) = grind (arith, nat_tests)
  takes_checked v room _ _ l (read c e d) = close_elsewhere v room e (does_elsewhere v c e d)

  -- a line is refused by the line layer exactly where its check code is not 0
  pub checked_alike : (v : View) (line : List ℕ) (room : ℕ) (answer : Result (ℕ × ℕ) Refusal) (rows : List Row) (w : View) → Follows (Takes shares v (line_call line)) v room answer rows w →
      by_line answer ≡ not (eqb (check_code (line_call line)) 0)
  checked_alike v line room answer rows w f = ap by_line f.answered ∙ takes_checked v room (line_call line) f.ending (line_refusal call_form line) f.allowed
