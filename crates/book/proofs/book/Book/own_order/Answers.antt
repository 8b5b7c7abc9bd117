use Rattle.std.proofs.Common.{List, Some, sym, ap, ◌∙◌, get_or, vec_items}
use Rattle.market.specs.declared.order.Order.{Order}
use Rattle.book.proofs.Finding.{own_found, own_missing}
use Rattle.book.proofs.Levels.{no_order}
use Rattle.book.proofs.book.Book.own_order.Goals as goal

pub returns-in_err-i : goal.returns-in_err-i
returns-in_err-i c =
    let os : List Order = vec_items c.args.self.now.resting.inner.orders in
    c.from_residual.ensures ∙ sym (own_missing c.args.id.participant c.args.id.number os (sym c.in_err-i.ensures))

pub returns : goal.returns
returns c =
    let os : List Order = vec_items c.args.self.now.resting.inner.orders in
    ap (λ (xs : List Order). Some (get_or xs c.in_ok-i.i no_order)) c.as_slice.ensures ∙ sym (own_found c.args.id.participant c.args.id.number os c.in_ok-i.i no_order (sym c.in_ok-i.ensures))
