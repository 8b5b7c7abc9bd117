-- The two ways in which a resting order is given another quantity and price.
use Rattle.std.proofs.Common.{◌≡◌, ℕ, suc, ◌+◌, true, false, List, [], ◌∷◌, ◌++◌, get_or, take, drop, Some, None, sym, ap, ◌∙◌, subst, add-one}
use Rattle.std.proofs.lemmas.List.{get_or_default}
use Rattle.std.specs.List.{remove}
use Rattle.market.specs.declared.order.Order.{Order}
use Rattle.market.specs.declared.price.Price.{Price}
use Rattle.market.specs.Orders.{sized}
use Rattle.market.specs.Revisions.{stays, cut_rows, kept, cancelled, Revises}
use Rattle.market.specs.Revisions.Revises.{keeps, cancels}
use Rattle.market.specs.Rows.{cancel_row}
use Rattle.book.specs.declared.told.Told.{Told}
use Rattle.book.specs.Reports.{Tells}
use Rattle.book.specs.Revised.{Revised}
use Rattle.book.proofs.Finding.{around, found_inside, found_passes, found_first}
use Rattle.book.proofs.Levels.{no_order}

module _ (i q : ℕ) (r : Price) (os : List Order) (t : Told) (os' : List Order) (t' : Told) where
  abbrev o : Order
  o = get_or os i no_order

  pub revised_kept : stays q r o ≡ true → os' ≡ take i os ++ (sized o q ∷ drop (i + 1) os) → Tells t (cut_rows o q) t' → Revised i q r os t None os' t'
  revised_kept may left more = record {
    rows = cut_rows o q;
    revises = λ test d found.
        subst (λ (x : Order). Revises test q r os (kept x.number) (cut_rows o q) os') (get_or_default os i no_order d (found_inside test os i no_order found))
        (subst (λ (xs : List Order). Revises test q r os (kept o.number) (cut_rows o q) xs) (ap (λ n. take i os ++ (sized o q ∷ drop n os)) (sym (add-one i)) ∙ sym left)
        (keeps (take i os) o (drop (suc i) os) (around os i no_order (found_inside test os i no_order found)) (found_first test os i no_order found) (found_passes test os i no_order found) may));
    more = more;
  }

  -- the order given back is the one at the place
  pub revised_cancelled : (x : Order) → x ≡ o → stays q r o ≡ false → os' ≡ remove os i → Tells t (cancel_row o ∷ []) t' → Revised i q r os t (Some x) os' t'
  revised_cancelled x is may left more = record {
    rows = cancel_row o ∷ [];
    revises = λ test d found.
        subst (λ (y : Order). Revises test q r os (cancelled y) (cancel_row o ∷ []) os') (sym is)
        (subst (λ (xs : List Order). Revises test q r os (cancelled o) (cancel_row o ∷ []) xs) (sym left)
        (cancels (take i os) o (drop (suc i) os) (around os i no_order (found_inside test os i no_order found)) (found_first test os i no_order found) (found_passes test os i no_order found) may));
    more = more;
  }
