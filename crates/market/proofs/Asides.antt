-- What an order of a combination trades leaves the ladders of instruments as they are.
use Rattle.std.proofs.Common.{◌≡◌, ℕ, ◌-◌, Bool, false, List, [], ◌∷◌, ◌++◌, filter, Some, refl, sym, ap, ◌∙◌}
use Rattle.std.proofs.lemmas.Bool.{cond_both}
use Rattle.std.proofs.lemmas.List.{append-nil}
use Rattle.std.proofs.lemmas.List.Elements.{filter-append}
use Rattle.market.specs.declared.book_id.BookId.{BookId}
use Rattle.market.specs.declared.book_id.BookId.TheVariants.{Instrument, Combination}
use Rattle.market.specs.declared.leg.Leg.{Leg}
use Rattle.market.specs.declared.order.Order.{Order}
use Rattle.market.specs.declared.side.Side.{Side}
use Rattle.market.specs.Ladders.{leg_side, contracts, ranked, ladder, ladders}
use Rattle.market.specs.Levels.{still_open}
use Rattle.market.specs.Orders.{lot_book, quantity_of, same_book, stands, less}
use Rattle.market.specs.Prices.{opposite}
use Rattle.market.specs.Round.{legs_of, left_of}
use Rattle.market.proofs.Sizes.{lot_book-sized}

-- what has legs is no instrument
pub no_instrument : (cs : List (List Leg)) (b : BookId) (legs : List Leg) → legs_of cs b ≡ Some legs → (i : ℕ) → same_book b (Instrument i) ≡ false
no_instrument cs (Instrument j) legs e i = cc
no_instrument cs (Combination c) legs e i = refl

module _ (ahead : List Order) (o : Order) (behind : List Order) (k : ℕ) (other : (i : ℕ) → same_book (lot_book o.lot) (Instrument i) ≡ false) where
  not_there : (i : ℕ) (s : Side) → stands (Instrument i) s o ≡ false
  not_there i s = rw (other i) refl

  left_not_there : (i : ℕ) (s : Side) → filter (stands (Instrument i) s) (left_of o k) ≡ []
  left_not_there i s =
      let gone : stands (Instrument i) s (less o k) ≡ false = rw (lot_book-sized o.lot (quantity_of o - k), other i) refl in
      cond_both (still_open (less o k)) (less o k ∷ []) [] (λ l. filter (stands (Instrument i) s) l ≡ []) (λ e. rw gone refl) (λ e. refl)

  queue_left : (i : ℕ) (s : Side) → filter (stands (Instrument i) s) (ahead ++ left_of o k ++ behind) ≡ filter (stands (Instrument i) s) (ahead ++ (o ∷ behind))
  queue_left i s =
      let test : Order → Bool = stands (Instrument i) s in
      let rest : filter test (o ∷ behind) ≡ filter test behind = rw (not_there i s) refl in
      filter-append test (ahead ++ left_of o k) behind
      ∙ ap (λ l. l ++ filter test behind) (filter-append test ahead (left_of o k) ∙ ap (λ l. filter test ahead ++ l) (left_not_there i s) ∙ append-nil (filter test ahead))
      ∙ ap (λ l. filter test ahead ++ l) (sym rest)
      ∙ sym (filter-append test ahead (o ∷ behind))

  pub ladder_left : (i : ℕ) (s : Side) → ladder (Instrument i) s (ahead ++ left_of o k ++ behind) ≡ ladder (Instrument i) s (ahead ++ (o ∷ behind))
  ladder_left i s = ap (λ l. contracts (ranked s l)) (queue_left i (opposite s))

  pub ladders_left : (s : Side) (legs : List Leg) → ladders s legs (ahead ++ left_of o k ++ behind) ≡ ladders s legs (ahead ++ (o ∷ behind))
  ladders_left s [] = refl
  ladders_left s (leg ∷ legs) = rw (ladder_left leg.instrument (leg_side s leg), ladders_left s legs) refl
