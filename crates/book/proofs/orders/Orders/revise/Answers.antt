use Rattle.std.proofs.Common.{◌≡◌, List, [], ◌∷◌, get_or, vec_items, sym, ap, ◌∙◌, subst}
use Rattle.std.proofs.lemmas.List.{get_or_default}
use Rattle.market.specs.declared.order.Order.{Order}
use Rattle.market.specs.declared.row.Row.{Row}
use Rattle.market.specs.Revisions.{stays}
use Rattle.market.specs.Rows.{cancel_row}
use Rattle.book.specs.Reports.{Tells}
use Rattle.book.proofs.Levels.{no_order}
use Rattle.book.proofs.Revising.{revised_kept, revised_cancelled}
use Rattle.book.proofs.orders.Orders.revise.Goals as goal

pub returns-then-stays : goal.returns-then-stays
returns-then-stays c =
    let q = c.args.quantity in
    let r = c.args.price in
    let may = sym c.stays.ensures ∙ c.if-stays.true in
    revised_kept c.args.i q r (vec_items c.args.self.now.inner.orders) c.args.told.now _ c.cut.new.told
    (sym (ap (λ (xs : List Order). stays q r (get_or xs c.args.i no_order)) c.as_slice.ensures) ∙ may) (c.cut.ensures.orders no_order) (c.cut.ensures.rows no_order)

pub returns : goal.returns
returns c =
    let q = c.args.quantity in
    let r = c.args.price in
    let os : List Order = vec_items c.args.self.now.inner.orders in
    let o : Order = get_or os c.args.i no_order in
    let may = sym c.stays.ensures ∙ c.if-stays.false in
    let row : c.cancel_row.result ≡ cancel_row o = c.cancel_row.ensures ∙ ap (λ (xs : List Order). cancel_row (get_or xs c.args.i no_order)) c.as_slice.ensures in
    revised_cancelled c.args.i q r os c.args.told.now _ c.push.new.self c.remove.result
    (c.remove.ensures.order ∙ get_or_default os c.args.i c.remove.result no_order c.requires)
    (sym (ap (λ (xs : List Order). stays q r (get_or xs c.args.i no_order)) c.as_slice.ensures) ∙ may) c.remove.ensures.others
    (subst (λ (x : Row). Tells c.args.told.now (x ∷ []) c.push.new.self) row c.push.ensures)
