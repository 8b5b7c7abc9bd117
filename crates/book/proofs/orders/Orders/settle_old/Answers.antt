use Rattle.std.proofs.Common.{◌≡◌, List, get_or, Some, None, vec_items, sym, ap, ◌∙◌, subst}
use Rattle.std.specs.List.{position}
use Rattle.market.specs.declared.book_id.BookId.{BookId}
use Rattle.market.specs.declared.order.Order.{Order}
use Rattle.market.specs.Orders.{lot_size, quotes}
use Rattle.market.specs.Quoting.{old_side}
use Rattle.book.specs.Revised.{Revised}
use Rattle.book.proofs.Levels.{no_order}
use Rattle.book.proofs.OldSides.{settled_absent, settled_kept, settled_cancelled}
use Rattle.book.proofs.orders.Orders.settle_old.Goals as goal

pub returns-in_default : goal.returns-in_default
returns-in_default c =
    let a = c.args.side.now in
    let os : List Order = vec_items c.args.self.now.inner.orders in
    let found : c.find_quote.result ≡ position (old_side a) os = c.find_quote.ensures ∙ ap (λ (b : BookId). position (quotes a.participant b a.side) os) c.lot_book.ensures in
    settled_absent a os c.args.told.now c.without_old.result (sym found ∙ c.in_default.is) c.without_old.ensures

pub returns-in-None : goal.returns-in-None
returns-in-None c =
    let a = c.args.side.now in
    let os : List Order = vec_items c.args.self.now.inner.orders in
    let os' : List Order = vec_items c.revise.new.self.inner.orders in
    let found : c.find_quote.result ≡ position (old_side a) os = c.find_quote.ensures ∙ ap (λ (b : BookId). position (quotes a.participant b a.side) os) c.lot_book.ensures in
    let revised : Revised c.in-Some.i (lot_size a.lot) a.price os c.args.told.now None os' c.revise.new.told =
    subst (λ n. Revised c.in-Some.i n a.price os c.args.told.now None os' c.revise.new.told) c.lot_size.ensures c.in-None.ensures in
    settled_kept a os c.args.told.now c.in-Some.i (sym found ∙ c.in-Some.is) os' c.revise.new.told _
    (ap (λ (xs : List Order). (get_or xs c.in-Some.i no_order).number) c.as_slice.ensures) revised

pub returns-in-Some-revise : goal.returns-in-Some-revise
returns-in-Some-revise c =
    let a = c.args.side.now in
    let os : List Order = vec_items c.args.self.now.inner.orders in
    let os' : List Order = vec_items c.revise.new.self.inner.orders in
    let x = c.in-Some-revise.field-0 in
    let found : c.find_quote.result ≡ position (old_side a) os = c.find_quote.ensures ∙ ap (λ (b : BookId). position (quotes a.participant b a.side) os) c.lot_book.ensures in
    let revised : Revised c.in-Some.i (lot_size a.lot) a.price os c.args.told.now (Some x) os' c.revise.new.told =
    subst (λ n. Revised c.in-Some.i n a.price os c.args.told.now (Some x) os' c.revise.new.told) c.lot_size.ensures c.in-Some-revise.ensures in
    settled_cancelled a os c.args.told.now c.in-Some.i (sym found ∙ c.in-Some.is) os' c.revise.new.told x c.without_old-in-Some-revise.result c.without_old-in-Some-revise.ensures revised
