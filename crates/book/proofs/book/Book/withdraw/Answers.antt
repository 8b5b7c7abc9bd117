use Rattle.std.proofs.Common.{◌≡◌, List, not, length, vec_items, filter, map, ap, ◌∙◌, subst, rules}
use Rattle.market.specs.declared.acceptance.Acceptance.TheVariants.{Switched}
use Rattle.market.specs.declared.order.Order.{Order}
use Rattle.market.specs.BookCalls.{leaves, withdrawn}
use Rattle.market.specs.Rows.{cancel_row}
use Rattle.book.specs.Closing.{book_state}
use Rattle.book.specs.Reports.{Tells}
use Rattle.book.proofs.Closing.{follows_closed, withdraw_ready}
use Rattle.book.proofs.book.Book.withdraw.Goals as goal

pub returns : goal.returns
returns c =
    let m = book_state c.args.self.now in
    let t = c.take_out-orders in
    let s = c.start-told in
    let out = leaves c.args.which in
    let copied = c.copy_from.ensures in
    follows_closed (λ e. e ≡ withdrawn c.args.which m) m (length c.args.report.now) (Switched t.result) (vec_items t.new.self.inner.orders) m.next t.new.told _ c.close.new.told _ _
    s.result s.ensures.blank t.ensures.rows.report.long (search rules)
    (withdraw_ready m c.args.which t.result (vec_items t.new.self.inner.orders) s.result t.new.told
    (t.ensures.count ∙ ap (λ (xs : List Order). length (filter out xs)) copied)
    (t.ensures.orders ∙ ap (filter (λ o. not (leaves c.args.which o))) copied)
    s.ensures.holds
    (subst (λ (xs : List Order). Tells s.result (map cancel_row (filter out xs)) t.new.told) copied t.ensures.rows))
    c.close.ensures
