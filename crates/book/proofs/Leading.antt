-- A scan for the first order, in the round's turn, of those that pass a test.
use Rattle.std.proofs.Common.{◌≡◌, ℕ, ◌+◌, ◌<◌, Bool, true, false, List, length, get_or, Some, None, Option, ltb, sym, refl, subst, arith}
use Rattle.std.proofs.lemmas.Bool.{both_ways, ltb-true, ltb-false}
use Rattle.std.proofs.lemmas.List.{get_or_default}
use borrow.Author.Count.{below_more}
use Rattle.market.specs.declared.order.Order.{Order}
use Rattle.market.specs.Round.{precedes}
use Rattle.book.specs.Rounds.{leads, FoundAmong}
use Rattle.book.proofs.Precedes.{precedes_chain, precedes_past}

module _ (fits : Order → Bool) (os : List Order) (d : Order) where
  abbrev at : ℕ → Order
  at j = get_or os j d

  -- of the first k orders, the one at the place i is the first that fits
  pub record Leading (k i : ℕ) : Type 0 where
    pub inside : i < k
    pub within : fits (at i) ≡ true
    pub before : (j : ℕ) → j < i → fits (at j) ≡ true → precedes (at i) (at j) ≡ true
    pub after : (j : ℕ) → j < k → i < j → fits (at j) ≡ true → precedes (at j) (at i) ≡ false

  -- the first that fits of the first k orders, or none of them is
  abbrev pub SoFar : ℕ → Option ℕ → Type 0
  SoFar k None = (j : ℕ) → j < k → fits (at j) ≡ false
  SoFar k (Some i) = Leading k i

  pub sofar_start : SoFar 0 None
  sofar_start j lt = absurd (omega arith)

  module _ (k : ℕ) (lt : k < length os) where
    -- the order at k fits, and goes before the best so far
    pub sofar_yes : (best : Option ℕ) → SoFar k best → fits (at k) ≡ true → leads os (at k) best ≡ true → SoFar (k + 1) (Some k)
    sofar_yes None h fit first = record {
      inside = omega arith;
      within = fit;
      before = λ j less e. absurd (both_ways _ (h j less) e);
      after = λ j less more e. absurd (omega arith);
    }
    sofar_yes (Some i) h fit first =
        let ahead : precedes (at k) (at i) ≡ true = subst (λ x. precedes (at k) x ≡ true) (get_or_default os i (at k) d (omega (arith, h.inside))) first in
        let nearer : (j : ℕ) → j < i → fits (at j) ≡ true → precedes (at k) (at j) ≡ true = λ j less e. precedes_chain (at k) (at i) (at j) ahead (h.before j less e) in
        let same : (j : ℕ) → j ≡ i → precedes (at k) (at j) ≡ true = λ j e. subst (λ (n : ℕ). precedes (at k) (at n) ≡ true) (sym e) ahead in
        let further : (j : ℕ) → j < k → i < j → fits (at j) ≡ true → precedes (at k) (at j) ≡ true = λ j less more e. precedes_past (at k) (at i) (at j) ahead (h.after j less more e) in
        record {
          inside = omega arith;
          within = fit;
          before = λ j less e. either j i (λ l. nearer j l e) (same j) (λ m. further j less m e);
          after = λ j less more e. absurd (omega arith);
        }
      where
        either : {P : Type 0} (j i : ℕ) → (j < i → P) → (j ≡ i → P) → (i < j → P) → P
        either {P} j i f g h = go (ltb j i) (ltb i j) refl refl
          where
            go : (a b : Bool) → ltb j i ≡ a → ltb i j ≡ b → P
            go true b e e' = f (ltb-true j i e)
            go false true e e' = h (ltb-true i j e')
            go false false e e' = g (omega (arith, ltb-false j i e, ltb-false i j e'))

    -- the order at k is does not fit, or does not go before the best so far
    pub sofar_no : (best : Option ℕ) → SoFar k best → (fits (at k) ≡ true → leads os (at k) best ≡ false) → SoFar (k + 1) best
    sofar_no None h behind = below_more (λ j. fits (at j) ≡ false) k h (not_fit (fits (at k)) behind)
      where
        not_fit : (t : Bool) → (t ≡ true → true ≡ false) → t ≡ false
        not_fit true f = f refl
        not_fit false f = refl
    sofar_no (Some i) h behind =
        let here : fits (at k) ≡ true → precedes (at k) (at i) ≡ false = λ e. subst (λ x. precedes (at k) x ≡ false) (get_or_default os i (at k) d (omega (arith, h.inside))) (behind e) in
        record {
          inside = omega (arith, h.inside);
          within = h.within;
          before = h.before;
          after = below_more (λ j. i < j → fits (at j) ≡ true → precedes (at j) (at i) ≡ false) k h.after (λ _ e. here e);
        }

  -- a scan of all orders finds the first that fits
  pub sofar_end : (k : ℕ) (best : Option ℕ) → k ≡ length os → SoFar k best → FoundAmong fits os best
  sofar_end k None all h = λ j x lt. subst (λ o. fits o ≡ false) (get_or_default os j d x lt) (h j (omega arith))
  sofar_end k (Some i) all h =
      let inside : i < length os = omega (arith, h.inside) in
      let same : (e : Order) (j : ℕ) → j < length os → at j ≡ get_or os j e = λ e j lt. get_or_default os j d e lt in
      record {
        inside = inside;
        passes = λ e. subst (λ o. fits o ≡ true) (same e i inside) h.within;
        before = λ e j less fit.
            let it = same e j (omega arith) in
            subst (λ o. precedes o (get_or os j e) ≡ true) (same e i inside) (subst (λ o. precedes (at i) o ≡ true) it (h.before j less (subst (λ o. fits o ≡ true) (sym it) fit)));
        after = λ e j lt more fit.
            let it = same e j lt in
            subst (λ o. precedes (get_or os j e) o ≡ false) (same e i inside) (subst (λ o. precedes o (at i) ≡ false) it (h.after j (omega arith) more (subst (λ o. fits o ≡ true) (sym it) fit)));
      }
