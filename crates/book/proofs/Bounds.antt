-- What a match needs of levels and fills beyond the bounds of a book.
use Rattle.std.proofs.Common.{◌≡◌, ℕ, ◌<◌, ◌≤◌, Bool, true, min, List, [], ◌∷◌, filter, vec_items, refl, ap, ◌∙◌, arith}
use Rattle.std.proofs.lemmas.List.Elements.{All-nil, All-cons, All-head, All-tail, All-map, All-filter, filter_passes}
use Rattle.std.proofs.lemmas.List.Recursion.{is_sum_by}
use Rattle.std.proofs.lemmas.List.Sums.{get_or-le-sum_by}
use Rattle.std.proofs.lemmas.Bool.{ltb-true}
use Rattle.std.specs.List.{All, Any}
use Rattle.rules.specs.Domain.{total, Below}
use Rattle.market.specs.declared.book_id.BookId.{BookId}
use Rattle.market.specs.declared.order.Order.{Order}
use Rattle.market.specs.declared.price.Price.{Price}
use Rattle.market.specs.declared.side.Side.{Side}
use Rattle.market.specs.Levels.{in_level, level, quantities, reduced, still_open, after_fill}
use Rattle.market.specs.Fills.{facing, given}
use Rattle.market.specs.Orders.{stands, quantity_of}
use Rattle.market.specs.Prices.{opposite}
use Rattle.market.proofs.Asking.{Bounded, level_some}
use Rattle.book.specs.declared.orders.Orders.{Orders}
use Rattle.book.specs.declared.place.Place.{Place}
use Rattle.book.specs.Bounds.{Positive}

-- ---- what a level has

-- where an order of the side has the price, something is open in the level
pub level_open : (b : BookId) (s : Side) (p : Price) (os : List Order) → Positive os → Any (λ o. (stands b s o ≡ true) × (o.price ≡ p)) os → 0 < total (quantities (level b s p os))
level_open b s p os pos h =
    let some = level_some b s p os h in
    let first = All-filter (in_level b s p) (λ o. 0 < quantity_of o) os pos 0 h.1 some in
    omega (arith, first, get_or-le-sum_by quantity_of (level b s p os) 0 h.1 some, is_sum_by (λ xs. total (quantities xs)) quantity_of refl (λ _ _. refl) (level b s p os))

-- what a book keeps to is what the rules are made for
pub within_bounds : (os : Orders) → Bounded (vec_items os.inner.orders)
within_bounds os = record { small = os.small; few = omega (arith, os.few, os.inner.orders.ok.0) }

-- what was read of a fill's level, and what is given there of q
pub level_read : (b : BookId) (s : Side) (p : Price) (os : List Order) (q : ℕ) (place : Place) (qs : List ℕ) (sum give : ℕ) → place ≡ record { book = b; side = opposite s; price = p }
    → qs ≡ quantities (level place.book place.side place.price os) → sum ≡ total (quantities (level place.book place.side place.price os)) → give ≡ min q sum
    → (qs ≡ quantities (facing b s p os)) × (give ≡ given b s p os q)
level_read b s p os q place qs sum give there read summed least = (
  read ∙ ap (λ (x : Place). quantities (level x.book x.side x.price os)) there,
  least ∙ ap (min q) (summed ∙ ap (λ (x : Place). total (quantities (level x.book x.side x.price os))) there),
)

-- ---- what a fill keeps

-- the orders that stay have something open
pub open_positive : (os : List Order) → Positive (filter still_open os)
open_positive os i o at = ltb-true 0 _ (filter_passes still_open os i o at)

pub positive_after : (test : Order → Bool) (os : List Order) (ks : List ℕ) → Positive (after_fill test os ks)
positive_after test os ks = open_positive (reduced test os ks)

-- no share is above what an order may have open
pub shares_small : (test : Order → Bool) (os : List Order) (ks : List ℕ) → All (λ o. quantity_of o ≤ 10000) os → Below ks (quantities (filter test os)) → All (λ k. k ≤ 10000) ks
shares_small test os ks small below = go ks (quantities (filter test os)) below (All-map (λ q. q ≤ 10000) quantity_of (filter test os) (All-filter test (λ o. quantity_of o ≤ 10000) os small))
  where
    go : (ks qs : List ℕ) → Below ks qs → All (λ q. q ≤ 10000) qs → All (λ k. k ≤ 10000) ks
    go [] qs b a = All-nil (λ k. k ≤ 10000)
    go (k ∷ ks) [] b a = absurd b
    go (k ∷ ks) (q ∷ qs) b a = All-cons (λ k. k ≤ 10000) k ks (omega (arith, b.0, All-head (λ q. q ≤ 10000) q qs a)) (go ks qs b.1 (All-tail (λ q. q ≤ 10000) q qs a))
