-- A loop that takes its share from each order of a level.
use Rattle.std.proofs.Common.{◌≡◌, ℕ, ◌+◌, ◌<◌, ◌≤◌, Bool, true, false, cond, List, [], ◌∷◌, ◌++◌, length, get_or, take, drop, set, refl, sym, ap, ◌∙◌, subst, arith}
use Rattle.std.proofs.lemmas.List.{drop_more, take_more, take_more_set, drop-set-lt, length-set, append_assoc}
use Rattle.std.proofs.lemmas.Bool.{cond-true, cond-false}
use Rattle.std.proofs.lemmas.List.Elements.{All-tail}
use Rattle.std.specs.List.{All}
use Rattle.rules.specs.Domain.{Below}
use Rattle.market.specs.declared.order.Order.{Order}
use Rattle.market.specs.declared.row.Row.{Row}
use Rattle.market.specs.Levels.{quantities, reduced}
use Rattle.market.specs.Orders.{less, quantity_of}
use Rattle.market.specs.Rows.{some_rows, share_rows, fill_rows}
use Rattle.book.specs.declared.fill.Fill.{Fill}
use Rattle.book.specs.declared.told.Told.{Told}
use Rattle.book.specs.Facing.{faces, faced, rows_of}
use Rattle.book.specs.Table.{lent}
use Rattle.book.specs.Reports.{Tells}
use Rattle.book.proofs.Reports.{tells_then}

module _ (fill : Fill) where
  abbrev test : Order → Bool
  test = faces fill

  abbrev facers : List Order → List Order
  facers os = faced fill os

  abbrev rows : List Order → List ℕ → List Row
  rows os ks = rows_of fill os ks

  -- the rows of one share
  abbrev one : Order → ℕ → List Row
  one o x = some_rows x (share_rows fill.number fill.taker (lent fill.legs) o x)

  -- the first k orders of os₀ are done, and the shares ls are left
  pub record Taking (os₀ os : List Order) (ks : List ℕ) (t₀ t : Told) (k : ℕ) (ls : List ℕ) : Type 0 where
    pub told : List Row
    pub orders : take k os ++ reduced test (drop k os) ls ≡ reduced test os₀ ks
    pub rest : told ++ rows (drop k os) ls ≡ rows os₀ ks
    pub more : Tells t₀ told t
    pub below : Below ls (quantities (facers (drop k os)))
    pub few : All (λ x. x ≤ 10000) ls
    pub long : length os ≡ length os₀

  -- with no share all orders stay
  reduced_none : (os : List Order) → reduced test os [] ≡ os
  reduced_none [] = refl
  reduced_none (o ∷ os) = refl

  -- an order that is not of the level stays
  reduced_other : (o : Order) (os : List Order) (ks : List ℕ) → test o ≡ false → reduced test (o ∷ os) ks ≡ o ∷ reduced test os ks
  reduced_other o os [] e = ap (λ (zs : List Order). o ∷ zs) (sym (reduced_none os))
  reduced_other o os (k ∷ ks) e = cond-false _ _ _ e

  module _ (os₀ os : List Order) (ks : List ℕ) (t₀ t : Told) (k : ℕ) (ls : List ℕ) (d : Order) (lt : k < length os) (g : Taking os₀ os ks t₀ t k ls) where
    abbrev here : Order
    here = get_or os k d

    abbrev behind : List Order
    behind = drop (k + 1) os

    -- the shares left are those of the order at k and of those behind it
    below_here : test here ≡ true → Below ls (quantity_of here ∷ quantities (facers behind))
    below_here e =
        subst (λ (b : Bool). Below ls (quantities (cond b (here ∷ facers behind) (facers behind)))) e
        (subst (λ (ys : List Order). Below ls (quantities (facers ys))) (drop_more os k d lt) g.below)

    -- the order at k is not of the level
    pub taking_no : test here ≡ false → Taking os₀ os ks t₀ t (k + 1) ls
    taking_no e =
        let r : reduced test (drop k os) ls ≡ here ∷ reduced test behind ls =
        ap (λ (zs : List Order). reduced test zs ls) (drop_more os k d lt) ∙ reduced_other here behind ls e in
        let l : facers (drop k os) ≡ facers behind = ap facers (drop_more os k d lt) ∙ cond-false _ _ _ e in
        record {
          told = g.told;
          orders = ap (λ (zs : List Order). zs ++ reduced test behind ls) (take_more os k d lt) ∙ append_assoc (take k os) (here ∷ []) (reduced test behind ls) ∙ ap (λ (zs : List Order). take k os ++ zs) (sym r) ∙ g.orders;
          rest = ap (λ (zs : List Order). g.told ++ fill_rows fill.number fill.taker (lent fill.legs) zs ls) (sym l) ∙ g.rest;
          more = g.more;
          below = subst (λ (zs : List Order). Below ls (quantities zs)) l g.below;
          few = g.few;
          long = g.long;
        }

    -- the order at k has the first share
    pub taking_yes : test here ≡ true → (x : ℕ) (ys : List ℕ) → ls ≡ x ∷ ys → (t' : Told) → Tells t (one here x) t'
        → Taking os₀ (set os k (less here x)) ks t₀ t' (k + 1) ys
    taking_yes e x ys is t' new =
        let o' = less here x in
        let row = one here x in
        let ds : drop (k + 1) (set os k o') ≡ behind = drop-set-lt (k + 1) os k o' (omega arith) in
        let r : reduced test (drop k os) ls ≡ o' ∷ reduced test behind ys =
        ap (λ (zs : List Order). reduced test zs ls) (drop_more os k d lt) ∙ ap (λ (zs : List ℕ). reduced test (here ∷ behind) zs) is ∙ cond-true _ _ _ e in
        let l : facers (drop k os) ≡ here ∷ facers behind = ap facers (drop_more os k d lt) ∙ cond-true _ _ _ e in
        let f : rows (drop k os) ls ≡ row ++ rows behind ys =
        ap (λ (zs : List Order). fill_rows fill.number fill.taker (lent fill.legs) zs ls) l ∙ ap (λ (zs : List ℕ). fill_rows fill.number fill.taker (lent fill.legs) (here ∷ facers behind) zs) is in
        record {
          told = g.told ++ row;
          orders = ap (λ (zs : List Order). zs ++ reduced test (drop (k + 1) (set os k o')) ys) (take_more_set os k o' lt)
              ∙ ap (λ (zs : List Order). (take k os ++ o' ∷ []) ++ reduced test zs ys) ds
              ∙ append_assoc (take k os) (o' ∷ []) (reduced test behind ys) ∙ ap (λ (zs : List Order). take k os ++ zs) (sym r) ∙ g.orders;
          rest = ap (λ (zs : List Order). (g.told ++ row) ++ rows zs ys) ds
              ∙ append_assoc g.told row (rows behind ys) ∙ ap (λ (zs : List Row). g.told ++ zs) (sym f) ∙ g.rest;
          more = tells_then t₀ t t' g.told row g.more new;
          below = subst (λ (zs : List Order). Below ys (quantities (facers zs))) (sym ds) (subst (λ (xs : List ℕ). Below xs (quantity_of here ∷ quantities (facers behind))) is (below_here e)).1;
          few = All-tail (λ z. z ≤ 10000) x ys (subst (λ (zs : List ℕ). All (λ z. z ≤ 10000) zs) is g.few);
          long = length-set os k o' ∙ g.long;
        }
