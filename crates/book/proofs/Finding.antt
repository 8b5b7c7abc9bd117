-- Looking an order up.
use Rattle.std.proofs.Common.{◌≡◌, ℕ, zero, suc, ◌+◌, ◌<◌, Bool, true, false, cond, not, List, [], ◌∷◌, ◌++◌, length, get_or, take, drop, Some, None, Option, nat_lt, sym, refl, ap, ◌∙◌, add-one, arith}
use Rattle.std.proofs.lemmas.List.{drop_more, take-append-drop, length-take, get_or-take}
use Rattle.std.proofs.lemmas.List.Elements.{All-nil, All-cons}
use Rattle.std.proofs.lemmas.List.Quantifiers.{position-Some}
use Rattle.std.proofs.lemmas.Bool.Decides.{nat_tests}
use Rattle.std.specs.List.{position, position_or_len, All}
use Rattle.std.specs.Option.{is_some}
use Rattle.market.specs.declared.order.Order.{Order}
use Rattle.market.specs.Orders.{own, own_order}

module _ (p n : ℕ) where
  -- a first own order is there where the first that passes stands before the end
  own_before_end : (os : List Order) → is_some (own_order p n os) ≡ nat_lt (position_or_len (own p n) os) (length os)
  own_before_end [] = refl
  own_before_end (o ∷ os) = go (own p n o) (own_before_end os)
    where
      go : (t : Bool) → is_some (own_order p n os) ≡ nat_lt (position_or_len (own p n) os) (length os)
          → is_some (cond t (Some o) (own_order p n os)) ≡ nat_lt (cond (not t) (1 + position_or_len (own p n) os) 0) (suc (length os))
      go true h = grind (arith, nat_tests)
      go false h = grind (arith, nat_tests)

  -- and where one is found
  pub own_is_found : (os : List Order) → is_some (own_order p n os) ≡ is_some (position (own p n) os)
  own_is_found os = own_before_end os ∙ go (nat_lt (position_or_len (own p n) os) (length os)) (position_or_len (own p n) os)
    where
      go : (t : Bool) (i : ℕ) → t ≡ is_some (cond t (Some i) None)
      go true i = refl
      go false i = refl

  -- the first own order is the one found
  own_first : (os : List Order) (i : ℕ) (d : Order) → i < length os → own p n (get_or os i d) ≡ true → ((k : ℕ) → k < i → own p n (get_or os k d) ≡ false) → own_order p n os ≡ Some (get_or os i d)
  own_first [] i d lt here before = absurd (omega arith)
  own_first (o ∷ os) zero d lt here before = rw here refl
  own_first (o ∷ os) (suc i) d lt here before =
      let ahead : own p n o ≡ false = before 0 (omega arith) in
      rw ahead (own_first os i d (omega arith) here (λ k less. before (suc k) (omega arith)))

  pub own_found : (os : List Order) (i : ℕ) (d : Order) → position (own p n) os ≡ Some i → own_order p n os ≡ Some (get_or os i d)
  own_found os i d found = let first = position-Some (own p n) os i d found in own_first os i d first.0 first.1 first.2

  pub own_missing : (os : List Order) → position (own p n) os ≡ None → own_order p n os ≡ None
  own_missing os missing = go (own_order p n os) (own_is_found os ∙ ap is_some missing)
    where
      go : (x : Option Order) → is_some x ≡ false → x ≡ None
      go None h = refl
      go (Some o) h = absurd (cc)

-- the list around the place i
pub around : (os : List Order) (i : ℕ) (d : Order) → i < length os → os ≡ take i os ++ (get_or os i d ∷ drop (suc i) os)
around os i d lt = sym (take-append-drop i os) ∙ ap (λ (xs : List Order). take i os ++ xs) (drop_more os i d lt ∙ ap (λ k. get_or os i d ∷ drop k os) (add-one i))

-- the order found is the first that passes
module _ (test : Order → Bool) (os : List Order) (i : ℕ) (d : Order) (found : position test os ≡ Some i) where
  pub found_inside : i < length os
  found_inside = (position-Some test os i d found).0

  pub found_passes : test (get_or os i d) ≡ true
  found_passes = (position-Some test os i d found).1

  pub found_first : All (λ o. test o ≡ false) (take i os)
  found_first k x at =
      let less : k < i = omega (arith, length-take i os) in
      rw (get_or-take i os k x less) ((position-Some test os i x found).2 k less)

module _ (test : Order → Bool) where
  -- the first that passes would stand before the end
  none_before_end : (os : List Order) → nat_lt (position_or_len test os) (length os) ≡ false → All (λ o. test o ≡ false) os
  none_before_end [] h = All-nil (λ o. test o ≡ false)
  none_before_end (o ∷ os) h = go (test o) refl h (none_before_end os)
    where
      go : (t : Bool) → test o ≡ t → nat_lt (cond (not t) (1 + position_or_len test os) 0) (suc (length os)) ≡ false
          → (nat_lt (position_or_len test os) (length os) ≡ false → All (λ x. test x ≡ false) os) → All (λ x. test x ≡ false) (o ∷ os)
      go true is h rest = absurd (grind (arith, nat_tests))
      go false is h rest = All-cons (λ x. test x ≡ false) o os is (rest (grind (arith, nat_tests)))

  -- where none is found, none passes
  pub none_found : (os : List Order) → position test os ≡ None → All (λ o. test o ≡ false) os
  none_found os h = none_before_end os (go (nat_lt (position_or_len test os) (length os)) (position_or_len test os) h)
    where
      go : (t : Bool) (i : ℕ) → cond t (Some i) None ≡ None → t ≡ false
      go true i h = cc
      go false i h = refl
