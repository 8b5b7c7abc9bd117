use Rattle.std.proofs.Common.{List, get_or, ap, sym, ◌∙◌, length, vec_items, rules}
use Rattle.std.specs.List.{remove}
use Rattle.std.specs.Option.{is_some}
use Rattle.market.specs.declared.acceptance.Acceptance.TheVariants.{Cancelled}
use Rattle.market.specs.declared.order.Order.{Order}
use Rattle.market.specs.BookCalls.{Cancels}
use Rattle.book.specs.Closing.{book_state}
use Rattle.book.proofs.Closing.{follows_closed, cancel_ready}
use Rattle.book.proofs.Finding.{own_is_found}
use Rattle.book.proofs.book.Book.cancel.Goals as goal

pub unwrap-i-requires : goal.unwrap-i-requires
unwrap-i-requires c = ap is_some c.find_own.ensures ∙ sym (own_is_found c.args.id.participant c.args.id.number (vec_items c.args.self.now.resting.inner.orders)) ∙ c.requires

pub returns : goal.returns
returns c =
    let m = book_state c.args.self.now in
    let s = c.start-told in
    let p = c.push in
    let r = c.remove-order in
    let i = c.unwrap-i.result in
    let copied = c.copy_from.ensures in
    follows_closed (Cancels m c.args.id.participant c.args.id.number) m (length c.args.report.now) (Cancelled c.args.id.number c.lot_size.result) (vec_items r.new.self.inner.orders) m.next p.new.self _ c.close.new.told _ _
    s.result s.ensures.blank p.ensures.report.long (search rules)
    (cancel_ready m c.args.id.participant c.args.id.number i r.result r.result c.cancel_row.result c.lot_size.result (vec_items r.new.self.inner.orders) s.result p.new.self
    (sym c.find_own.ensures ∙ c.unwrap-i.ensures) (r.ensures.order ∙ ap (λ (xs : List Order). get_or xs i r.result) copied) c.cancel_row.ensures c.lot_size.ensures (r.ensures.others ∙ ap (λ (xs : List Order). remove xs i) copied) s.ensures.holds p.ensures)
    c.close.ensures
