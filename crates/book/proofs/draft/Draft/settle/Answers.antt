use Rattle.std.proofs.Common.{◌≡◌, [], ◌∷◌, vec_items, sym, ap, ◌∙◌, subst, arith}
use Rattle.market.specs.declared.order.Order.{Order}
use Rattle.market.specs.declared.row.Row.{Row}
use Rattle.market.specs.Orders.{arriving, quantity_of, sized}
use Rattle.market.specs.Rows.{cancel_row}
use Rattle.book.specs.Reports.{Tells}
use Rattle.book.proofs.Reports.{wiped_same, same_then}
use Rattle.book.proofs.Settling.{rested_bounds, settles_whole, settles_rested, settles_cut, settles_killed}
use Rattle.book.proofs.draft.Draft.settle.Goals as goal

pub returns-then-at-eq0-clause-settles : goal.returns-then-at-eq0-clause-settles
returns-then-at-eq0-clause-settles c a n is lasts = settles_whole _ n a c.args.at _ c.args.told.now c.if-at-eq0.true

pub returns-in-Day-clause-settles : goal.returns-in-Day-clause-settles
returns-in-Day-clause-settles c a n is lasts =
    settles_rested _ n a c.args.at (vec_items c.args.self.now.orders.inner.orders) c.args.told.now (sym lasts ∙ c.in-Day.is) (omega (arith, c.if-at-eq0.false)) c.args.entering.order is
    c.rest.result (vec_items c.rest.new.self.orders.inner.orders) c.rest.new.told c.rest.ensures

pub returns-in-Day-clause-bounds : goal.returns-in-Day-clause-bounds
returns-in-Day-clause-bounds c =
    rested_bounds 1 c.args.entering.order c.args.at (vec_items c.args.self.now.orders.inner.orders) c.args.told.now c.rest.result (vec_items c.rest.new.self.orders.inner.orders) c.rest.new.told c.requires c.rest.ensures

pub returns-in-Immediate-clause-settles : goal.returns-in-Immediate-clause-settles
returns-in-Immediate-clause-settles c a n is lasts =
    settles_cut _ n a c.args.at _ c.args.told.now _ (sym lasts ∙ c.in-Immediate.is) (omega (arith, c.if-at-eq0.false))
    (subst (λ (o : Order). Tells c.args.told.now (cancel_row (sized o c.args.at.left) ∷ []) c.push_cancelled.new.self) is c.push_cancelled.ensures)

pub returns-in-FillOrKill-clause-settles : goal.returns-in-FillOrKill-clause-settles
returns-in-FillOrKill-clause-settles c a n is lasts =
    let w = c.wipe in
    let p = c.push in
    let row : c.cancel_row.result ≡ cancel_row (arriving a n) = c.cancel_row.ensures ∙ ap cancel_row is in
    settles_killed _ n a c.args.at _ c.args.told.now w.new.self p.new.self _ c.lot_size.result (same_then _ _ _ (wiped_same _ _ w.ensures.same w.ensures.blank) p.ensures.report) (sym lasts ∙ c.in-FillOrKill.is) (omega (arith, c.if-at-eq0.false)) c.copy_from.ensures (c.lot_size.ensures ∙ ap quantity_of is) w.ensures.holds
    (subst (λ (r : Row). Tells w.new.self (r ∷ []) p.new.self) row p.ensures)
