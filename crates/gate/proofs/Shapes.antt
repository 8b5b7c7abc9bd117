-- The conditions on legs, one after another.
use Rattle.std.proofs.Common.{◌≡◌, ℕ, true, ◌+◌, ◌/◌, ◌<◌, ◌≤◌, List, length, Some, None, Ok, refl, arith}
use Rattle.std.specs.List.{All}
use Rattle.std.proofs.lemmas.Bool.Decides.{nat_tests}
use Rattle.std.proofs.lemmas.List.Elements.{All-weaker}
use Rattle.market.specs.declared.leg.Leg.{Leg}
use Rattle.market.specs.declared.product.Product.{Product}
use Rattle.market.specs.Combinations.{size, parts, count_fits, neighbours, rises, is_nonzero, small, near, signs_fit, broken_leg}
use Rattle.market.specs.Tables.{unless, first_broken}
use Rattle.market.proofs.Making.{Shaped, shaped, many, nonzero, parts_small}
use Rattle.market.proofs.Ratios.{Nonzero, divisor_some}
use Rattle.market.proofs.Tables.{broken_none}
use Rattle.gate.specs.Made.{Divided}
use Rattle.gate.proofs.Tables.{last_of}

pub nonzero_from : (legs : List Leg) (n : ℕ) → first_broken is_nonzero legs n ≡ None → Nonzero legs
nonzero_from legs n h = All-weaker (λ l. is_nonzero l ≡ true) (λ l. 1 ≤ size l) (λ l k. grind (arith, nat_tests)) legs (broken_none is_nonzero legs n h)

module _ (product : Product) (legs : List Leg) (a : unless {X = ℕ} (count_fits product (length legs)) 2 ≡ None) (b : first_broken rises (neighbours legs) 4 ≡ None)
    (c : first_broken is_nonzero legs (3 + length legs) ≡ None) (sizes : List ℕ) (are : sizes ≡ parts legs) where
  pub not_small : (p : ℕ) → first_broken small sizes (3 + length legs) ≡ Some p → broken_leg product legs ≡ Some p
  not_small p h = rw (a, b, c, rw are at h) refl

  pub not_near : (p : ℕ) → first_broken small sizes (3 + length legs) ≡ None → first_broken (near sizes) sizes (3 + length legs) ≡ Some p → broken_leg product legs ≡ Some p
  not_near p d h = rw (a, b, c, rw are at d, rw are at h) refl

  pub at_signs : first_broken small sizes (3 + length legs) ≡ None → first_broken (near sizes) sizes (3 + length legs) ≡ None → broken_leg product legs ≡ unless {X = ℕ} (signs_fit product legs) 6
  at_signs d e = rw (a, b, c, rw are at d, rw are at e) (last_of (unless {X = ℕ} (signs_fit product legs) 6))

-- what is known of legs that no condition holds of
module _ (product : Product) (legs : List Leg) (d : ℕ) (h : Divided product legs (Ok d)) where
  shape : Shaped product legs
  shape = shaped product legs h.0

  pub divided_some : 0 < d
  divided_some = omega (arith, h.1, divisor_some legs (omega (arith, (many product legs shape).0)) (nonzero product legs shape))

  pub divided_small : All (λ l. size l / d ≤ 10) legs
  divided_small = rw (h.1) (parts_small product legs shape)
