-- A round comes to one end.
use Rattle.std.proofs.Common.{◌≡◌, ℕ, Bool, true, false, List, [], ◌∷◌, ◌++◌, None, sym, ◌∙◌}
use Rattle.std.specs.List.{All}
use Rattle.std.proofs.lemmas.List.Elements.{All-head, All-tail, All-same}
use Rattle.market.specs.declared.leg.Leg.{Leg}
use Rattle.market.specs.declared.order.Order.{Order}
use Rattle.market.specs.declared.row.Row.{Row}
use Rattle.market.specs.Orders.{quantity_of}
use Rattle.market.specs.Round.{eligible, left_of, precedes, FirstEligible, Round, Round.over, Round.takes}
use Rattle.market.proofs.Lists.{all_middle}
use Rattle.market.proofs.UniqueFills.{implied_unique}

-- ---- the first of those that pass a test

-- two ways to part a list at an element are the same
pub record SamePart (xs xs' : List Order) (o o' : Order) (ys ys' : List Order) : Type 0 where
  pub ahead_is : xs ≡ xs'
  pub order_is : o ≡ o'
  pub behind_is : ys ≡ ys'

module _ (test : Order → Bool) (goes_before : Order → Order → Bool) where
  -- of those that pass the test, o goes before each of these
  abbrev leads : Order → List Order → Type 0
  leads o xs = All (λ x. test x ≡ true → goes_before o x ≡ true) xs

  -- of these, none that passes the test goes before o
  abbrev leaves_first : Order → List Order → Type 0
  leaves_first o ys = All (λ y. test y ≡ true → goes_before y o ≡ false) ys

  -- the first element of a list cannot be the first that passes where a later one is
  one_first : (o : Order) (ys : List Order) (x : Order) (xs : List Order) (o' : Order) (ys' : List Order) → o ∷ ys ≡ x ∷ (xs ++ (o' ∷ ys')) →
      test o ≡ true → test o' ≡ true → leaves_first o ys → leads o' (x ∷ xs) → ⊥
  one_first o ys x xs o' ys' e h h' after before =
      let same : o ≡ x = cc in
      let rest : xs ++ (o' ∷ ys') ≡ ys = cc in
      let not_before = all_middle (λ y. test y ≡ true → goes_before y o ≡ false) xs o' ys' (All-same (λ y. test y ≡ true → goes_before y o ≡ false) _ _ rest after) h' in
      let goes = All-head (λ y. test y ≡ true → goes_before o' y ≡ true) x xs before (cc (same, h)) in
      cc (same, not_before, goes)

  part_unique : (xs : List Order) (o : Order) (ys xs' : List Order) (o' : Order) (ys' : List Order) → xs ++ (o ∷ ys) ≡ xs' ++ (o' ∷ ys') →
      test o ≡ true → test o' ≡ true → leads o xs → leads o' xs' → leaves_first o ys → leaves_first o' ys' → SamePart xs xs' o o' ys ys'
  part_unique [] o ys [] o' ys' e h h' b b' a a' = record { ahead_is = cc; order_is = cc; behind_is = cc }
  part_unique [] o ys (x ∷ xs') o' ys' e h h' b b' a a' = absurd (one_first o ys x xs' o' ys' e h h' a b')
  part_unique (x ∷ xs) o ys [] o' ys' e h h' b b' a a' = absurd (one_first o' ys' x xs o ys (sym e) h' h a' b)
  part_unique (x ∷ xs) o ys (x' ∷ xs') o' ys' e h h' b b' a a' =
      let same =
      part_unique xs o ys xs' o' ys' (cc) h h'
      (All-tail (λ y. test y ≡ true → goes_before o y ≡ true) x xs b)
      (All-tail (λ y. test y ≡ true → goes_before o' y ≡ true) x' xs' b')
      a a' in
      record { ahead_is = cc (same.ahead_is, e); order_is = same.order_is; behind_is = same.behind_is }

-- ---- the round

-- two ends of a round are the same
pub record SameRound (rows rows' : List Row) (f f' : ℕ) (os os' : List Order) : Type 0 where
  pub rows_are : rows ≡ rows'
  pub fill_is : f ≡ f'
  pub book_is : os ≡ os'

module _ (shares : List ℕ → ℕ → List ℕ) (cs : List (List Leg)) where
  first_unique : {os ahead ahead' : List Order} {o o' : Order} {behind behind' : List Order} → FirstEligible cs os ahead o behind → FirstEligible cs os ahead' o' behind' →
      SamePart ahead ahead' o o' behind behind'
  first_unique {os} {ahead} {ahead'} {o} {o'} {behind} {behind'} first other =
      part_unique (eligible cs os) precedes ahead o behind ahead' o' behind' (sym first.stands ∙ other.stands) first.within other.within first.before other.before first.after other.after

  none_first : {os ahead : List Order} {o : Order} {behind : List Order} → All (λ x. eligible cs os x ≡ false) os → FirstEligible cs os ahead o behind → ⊥
  none_first {os} {ahead} {o} {behind} none first =
      let not = all_middle (λ x. eligible cs os x ≡ false) ahead o behind (All-same (λ x. eligible cs os x ≡ false) _ _ (sym first.stands) none) in
      cc (not, first.within)

  pub round_unique : {f : ℕ} {os : List Order} {rows : List Row} {f' : ℕ} {os' : List Order} → Round shares cs f os rows f' os' →
      {rows₂ : List Row} {f₂ : ℕ} {os₂ : List Order} → Round shares cs f os rows₂ f₂ os₂ → SameRound rows rows₂ f' f₂ os' os₂
  round_unique (over none) (over none') = search
  round_unique (over none) (takes ahead o behind legs first is units m) = absurd (none_first none first)
  round_unique (takes ahead o behind legs first is units m) (over none) = absurd (none_first none first)
  round_unique {f} {os} (takes ahead o behind legs first is units m) (takes ahead' o' behind' legs' first' is' units' m') =
      let part = first_unique first' first in
      let l : legs' ≡ legs = cc (part.order_is, is, is') in
      let u = implied_unique shares legs o None f (quantity_of o) os (λ k. ahead ++ left_of o k ++ behind) units (rw (part.ahead_is, part.order_is, part.behind_is, l) at units') in
      let s = round_unique m (rw (← u.book_is) at m') in
      record { rows_are = cc (u.rows_are, s.rows_are); fill_is = s.fill_is; book_is = s.book_is }
