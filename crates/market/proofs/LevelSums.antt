-- One fill at a level of a book: what the other orders lose is what its rows say, and so is what the arriving order gains.
use Rattle.std.proofs.Common.{◌≡◌, ℕ, ◌+◌, Bool, true, false, List, Option, ap, sym, ◌∙◌, arith}
use Rattle.std.specs.List.{All}
use Rattle.std.proofs.lemmas.Bool.{and_parts}
use Rattle.std.proofs.lemmas.List.Elements.{All-weaker, filter_passes}
use Rattle.rules.specs.Domain.{Laws}
use Rattle.market.specs.declared.book_id.BookId.{BookId}
use Rattle.market.specs.declared.leg.Leg.{Leg}
use Rattle.market.specs.declared.order.Order.{Order}
use Rattle.market.specs.declared.price.Price.{Price}
use Rattle.market.specs.declared.row.RowKind.{RowKind}
use Rattle.market.specs.declared.row.RowKind.TheVariants as kind
use Rattle.market.specs.declared.side.Side.{Side}
use Rattle.market.specs.Fills.{facing, given, divided, filled_book}
use Rattle.market.specs.Levels.{in_level, Best}
use Rattle.market.specs.Orders.{lot_book, same_book, stands}
use Rattle.market.specs.Prices.{opposite, same_side, same_price}
use Rattle.market.specs.Rows.{fill_rows}
use Rattle.market.specs.Turns.{counted, resting}
use Rattle.market.proofs.Asking.{Bounded, shares_below, shares_total}
use Rattle.market.proofs.Fills.{fill_kind, fill_own, fill_other, resting_open}
use Rattle.market.proofs.Places.{same_book_is, same_side_is, same_price_is}
use Rattle.market.proofs.Sizes.{book_kind, TradedBy}
use Rattle.market.proofs.Thinning.{Thins, fill_thins}

-- ---- the orders of a level

-- an order of this book, side and price
pub record AtLevel (b : BookId) (s : Side) (p : Price) (o : Order) : Type 0 where
  pub booked : lot_book o.lot ≡ b
  pub sided : o.side ≡ s
  pub priced : o.price ≡ p

at_level_is : (b : BookId) (s : Side) (p : Price) (o : Order) → in_level b s p o ≡ true → AtLevel b s p o
at_level_is b s p o e =
    let parts = and_parts (stands b s o) (same_price o.price p) e in
    let place = and_parts (same_book (lot_book o.lot) b) (same_side o.side s) parts.0 in
    record { booked = same_book_is (lot_book o.lot) b place.0; sided = same_side_is o.side s place.1; priced = same_price_is o.price p parts.1 }

pub facing_level : (b : BookId) (s : Side) (p : Price) (os : List Order) → All (AtLevel b (opposite s) p) (facing b s p os)
facing_level b s p os =
    All-weaker (λ o. in_level b (opposite s) p o ≡ true) (AtLevel b (opposite s) p) (at_level_is b (opposite s) p) (facing b s p os) (filter_passes (in_level b (opposite s) p) os)

module _ (shares : List ℕ → ℕ → List ℕ) (b : BookId) (s : Side) (p : Price) (os : List Order) (q : ℕ) where
  pub level_thins : Thins os (filled_book shares b s p os q)
  level_thins = fill_thins (in_level b (opposite s) p) os (divided shares b s p os q)

  module _ (laws : Laws shares) (bounded : Bounded os) (best : Best b s os p) (is : RowKind → Bool) (leg : is kind.Leg ≡ false) (f t : ℕ) (legs : Option (List Leg)) where
    pub level_own : is (fill_kind legs) ≡ true → counted is t (fill_rows f t legs (facing b s p os) (divided shares b s p os q)) ≡ given b s p os q
    level_own main =
        fill_own is leg f t legs main (facing b s p os) (divided shares b s p os q) (shares_below shares laws b s p os q bounded best)
        ∙ shares_total shares laws b s p os q bounded best

    pub level_other : (n : ℕ) → fill_kind legs ≡ book_kind b → (is (fill_kind legs) ≡ true → n ≡ t → ⊥) → All (TradedBy is n) os →
        resting n os ≡ counted is n (fill_rows f t legs (facing b s p os) (divided shares b s p os q)) + resting n (filled_book shares b s p os q)
    level_other n agrees ne a =
        let test : Order → Bool = in_level b (opposite s) p in
        let met = All-weaker (TradedBy is n) (λ o. o.number ≡ n → test o ≡ true → is (fill_kind legs) ≡ true)
        (λ o by same e. ap is (agrees ∙ ap book_kind (sym (at_level_is b (opposite s) p o e).booked)) ∙ by same) os a in
        let lost = fill_other is leg f t n legs ne test os (divided shares b s p os q) met (shares_below shares laws b s p os q bounded best) in
        omega (arith, lost, resting_open)
