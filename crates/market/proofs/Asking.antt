-- A fill asks the rule within its domain, so its shares keep the laws.
use Rattle.std.proofs.Common.{◌≡◌, ℕ, ◌-◌, ◌≤◌, Bool, true, cond, List, length, refl, arith}
use Rattle.std.specs.List.{All, Any}
use Rattle.std.proofs.lemmas.List.Elements.{All-map, All-filter}
use Rattle.std.proofs.lemmas.List.Sums.{length-filter, get_or-le-sum_by, sum_by-le}
use Rattle.std.proofs.lemmas.List.{length-map}
use Rattle.std.proofs.lemmas.List.Recursion.{is_sum_by}
use Rattle.std.proofs.lemmas.Int.{ints}
use Rattle.rules.specs.Domain.{total, Below, Domain, Laws}
use Rattle.market.specs.declared.book_id.BookId.{BookId}
use Rattle.market.specs.declared.order.Order.{Order}
use Rattle.market.specs.declared.price.Price.{Price}
use Rattle.market.specs.declared.side.Side.{Side}
use Rattle.market.specs.Levels.{in_level, level, quantities, Best, after_fill}
use Rattle.market.specs.Fills.{facing, given, divided}
use Rattle.market.specs.Orders.{stands, quantity_of}
use Rattle.market.specs.Prices.{opposite}
use Rattle.market.proofs.Thinning.{length-kept_le, Thins, fill_thins}
use Rattle.market.proofs.Sizes.{lot_size-sized, Lasting}

-- a book that the rules are made for: at most 256 orders of at most 10,000 each
pub record Bounded (os : List Order) : Type 0 where
  pub small : All (λ o. quantity_of o ≤ 10000) os
  pub few : length os ≤ 256

pub small_lasts : Lasting (λ o. quantity_of o ≤ 10000)
small_lasts o k h = omega (arith, lot_size-sized o.lot (quantity_of o - k))

pub bounded_thins : {os os' : List Order} → Thins os os' → Bounded os → Bounded os'
bounded_thins thins b = record {
  small = thins.keeps (λ o. quantity_of o ≤ 10000) small_lasts b.small;
  few = omega (arith, thins.fewer, b.few);
}

pub bounded_after_fill : (test : Order → Bool) (os : List Order) (ks : List ℕ) → Bounded os → Bounded (after_fill test os ks)
bounded_after_fill test os ks = bounded_thins (fill_thins test os ks)

-- an order of the price stands in its level
pub in_level_at : (b : BookId) (s : Side) (p : Price) (o : Order) → stands b s o ≡ true → o.price ≡ p → in_level b s p o ≡ true
in_level_at b s p o h e = grind (arith, ints)

-- so where an order has the price, the level has some
pub level_some : (b : BookId) (s : Side) (p : Price) (os : List Order) → Any (λ o. (stands b s o ≡ true) × (o.price ≡ p)) os → 1 ≤ length (level b s p os)
level_some b s p os h =
    let one = rw (h.3, in_level_at b s p h.1 h.4.0 h.4.1) at (get_or-le-sum_by (λ o. cond (in_level b s p o) 1 0) os h.0 h.1 h.2) in
    omega (arith, one, length-filter (in_level b s p) os)

pub asked : (b : BookId) (s : Side) (p : Price) (os : List Order) (q : ℕ) → Bounded os → Best b s os p →
    Domain (quantities (facing b s p os)) (given b s p os q)
asked b s p os q bounded best =
    let test : Order → Bool = in_level b (opposite s) p in
    let small = All-filter test (λ x. quantity_of x ≤ 10000) os bounded.small in
    let as_many = length-map (facing b s p os) quantity_of in
    let fewer = length-kept_le test os in
    record {
      some = omega (arith, level_some b (opposite s) p os best.there);
      few = omega (arith, bounded.few);
      small = All-map (λ q. q ≤ 10000) quantity_of (facing b s p os) small;
      bounded = omega (arith, bounded.few, is_sum_by (λ xs. total (quantities xs)) quantity_of refl (λ _ _. refl) (facing b s p os), sum_by-le quantity_of 10000 (facing b s p os) small);
    }

module _ (shares : List ℕ → ℕ → List ℕ) (laws : Laws shares) where
  pub shares_below : (b : BookId) (s : Side) (p : Price) (os : List Order) (q : ℕ) → Bounded os → Best b s os p →
      Below (divided shares b s p os q) (quantities (facing b s p os))
  shares_below b s p os q bounded best =
      laws.within _ _ (asked b s p os q bounded best)

  pub shares_total : (b : BookId) (s : Side) (p : Price) (os : List Order) (q : ℕ) → Bounded os → Best b s os p →
      total (divided shares b s p os q) ≡ given b s p os q
  shares_total b s p os q bounded best = omega (arith, laws.sum _ _ (asked b s p os q bounded best))
