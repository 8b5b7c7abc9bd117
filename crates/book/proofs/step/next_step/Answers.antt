use Rattle.std.proofs.Common.{◌≡◌, ◌∙◌, false, List, Some, None, Option, ap, sym, subst, vec_items}
use Rattle.market.specs.declared.book_id.BookId.{BookId}
use Rattle.market.specs.declared.order.Order.{Order}
use Rattle.market.specs.declared.price.Price.{Price}
use Rattle.market.specs.Fills.{BestLevel}
use Rattle.market.specs.Ladders.{net_to, wanted}
use Rattle.market.specs.Matching.{level_first}
use Rattle.market.specs.Orders.{lot_book}
use Rattle.book.specs.Table.{lent}
use Rattle.book.proofs.Steps.{over_alone, over_far, over_not}
use Rattle.book.proofs.step.next_step.Goals as goal
use Rattle.book.proofs.step.next_step.Goals.{in_default-via-in-Some+then-good+else-level_first, in_default-via-in-Some+else-good, in_default-via-in_default}

pub returns-in-None : goal.returns-in-None
returns-in-None c =
    let o = c.args.order.now in
    let legs = lent c.args.legs in
    let os : List Order = vec_items c.args.orders.now.inner.orders in
    let level = c.best_price-level.result in
    let found : BestLevel (lot_book o.lot) o.side os level = subst (λ (b : BookId). BestLevel b o.side os level) c.lot_book.ensures (subst (λ (xs : List Order). BestLevel c.lot_book.result o.side xs level) c.as_slice.ensures c.best_price-level.ensures) in
    let net = net_to o legs os 1 in
    let at : (l : Option Price) → c.in_default.level ≡ l → wanted o.side o.price l net ≡ false = λ l e. subst (λ (x : Option Price). wanted o.side o.price x net ≡ false) e c.in-None.ensures in
    elim c.in_default.branch [
      | in_default-via-in-Some+then-good+else-level_first w ↦
          let p = w.in-Some.price in
          over_not o legs os p (sym w.good.ensures ∙ w.if-good.true) (ap (level_first o.side p) (sym c.first_net_to-net.ensures) ∙ sym w.level_first.ensures ∙ w.if-level_first.false) (at (Some p) w.level-is)
      | in_default-via-in-Some+else-good w ↦
          let p = w.in-Some.price in
          over_far o legs os p (subst (BestLevel (lot_book o.lot) o.side os) w.in-Some.is found) (sym w.good.ensures ∙ w.if-good.false) (at (Some p) w.level-is)
      | in_default-via-in_default w ↦
          over_alone o legs os (subst (BestLevel (lot_book o.lot) o.side os) w.in_default.is found) (at None (w.level-is ∙ w.in_default.is))
    ]
