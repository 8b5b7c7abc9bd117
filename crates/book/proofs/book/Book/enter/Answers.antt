use Rattle.std.proofs.Common.{◌≡◌, ◌+◌, ◌-◌, ◌≤◌, List, length, Ok, Err, vec_items, refl, ap, ◌∙◌, arith, rules}
use Rattle.std.proofs.lemmas.Result.{err_from_is_err_and}
use Rattle.market.specs.declared.acceptance.Acceptance.TheVariants.{Entered}
use Rattle.market.specs.declared.leg.Leg.{Leg}
use Rattle.market.specs.declared.order.Order.{Order}
use Rattle.market.specs.BookCalls.{Enters}
use Rattle.market.specs.BookCalls.Enters.{no_number}
use Rattle.market.specs.Orders.{lot_book}
use Rattle.market.specs.Round.{legs_of}
use Rattle.market.specs.Rows.{blank}
use Rattle.book.specs.Closing.{book_state}
use Rattle.book.specs.Settling.{Settled}
use Rattle.book.specs.Table.{table, lent}
use Rattle.book.proofs.Closing.{follows_refused, follows_closed, settled_by, enters_ready}
use Rattle.book.proofs.Reports.{blank_long}
use Rattle.book.proofs.book.Book.enter.Goals as goal

pub returns-then-number-gt-LAST_NUMBER : goal.returns-then-number-gt-LAST_NUMBER
returns-then-number-gt-LAST_NUMBER g c =
    let m = book_state c.args.self.now in
    let cs : List (List Leg) = table c.args.combinations.now in
    follows_refused (Enters (g.R.AllocationRule.shares c.args.rule.now) cs m c.args.arrival) m (length c.args.report.now) _ _ c.start-told.result.rows.now _ refl (no_number c.if-number-gt-LAST_NUMBER.true) (search rules) c.start-told.ensures.blank

pub returns-in_err-at : goal.returns-in_err-at
returns-in_err-at g c =
    let m = book_state c.args.self.now in
    let shares = g.R.AllocationRule.shares c.args.rule.now in
    let cs : List (List Leg) = table c.args.combinations.now in
    let a = c.args.arrival in
    let s = c.start-told in
    let o = c.match_order-at in
    let t = c.settle in
    let os₀ : List Order = vec_items c.copy_from.new.self.inner.orders in
    let os : List Order = vec_items o.new.self.orders.inner.orders in
    let os' : List Order = vec_items t.new.self.orders.inner.orders in
    let settles = t.ensures.settles a m.next c.new-entering.ensures.order c.new-entering.ensures.duration in
    let p = err_from_is_err_and c.from_residual.result c.from_residual.ensures.1 in
    let e = c.in_err-at.field-0.0 in
    let few : m.next ≤ 99999 = omega (arith, c.if-number-gt-LAST_NUMBER.false) in
    let legs : lent c.legs_of-legs.result ≡ legs_of cs (lot_book a.lot) = c.legs_of-legs.ensures.legs ∙ ap (legs_of cs) c.lot_book.ensures in
    let done : Settled shares cs m a (Err e) os' t.new.told =
    settled_by shares cs a m.next m.orders (lent c.legs_of-legs.result) c.new-entering.result.order os₀ s.result o.result os o.new.told (Err e) os' t.new.told
    legs c.new-entering.ensures.order c.copy_from.ensures few o.ensures.run s.ensures.holds (c.in_err-at.ensures.settles a m.next c.new-entering.ensures.order c.new-entering.ensures.duration) in
    follows_refused (Enters shares cs m a) m (length c.args.report.now) e c.from_residual.result t.new.told.rows.now _ (p.1 ∙ ap Err p.2) done.0 (search rules)
    (done.1 ∙ ap blank (settles.report.long ∙ o.ensures.run.more.report.long ∙ blank_long s.result.rows.now (length c.args.report.now) s.ensures.blank))

pub returns : goal.returns
returns g c =
    let m = book_state c.args.self.now in
    let shares = g.R.AllocationRule.shares c.args.rule.now in
    let cs : List (List Leg) = table c.args.combinations.now in
    let a = c.args.arrival in
    let s = c.start-told in
    let o = c.match_order-at in
    let t = c.settle in
    let r = c.round in
    let os₀ : List Order = vec_items c.copy_from.new.self.inner.orders in
    let os : List Order = vec_items o.new.self.orders.inner.orders in
    let os' : List Order = vec_items t.new.self.orders.inner.orders in
    let os'' : List Order = vec_items r.new.self.orders.inner.orders in
    let at = c.in_ok-at.at in
    let settles = t.ensures.settles a m.next c.new-entering.ensures.order c.new-entering.ensures.duration in
    let few : m.next ≤ 99999 = omega (arith, c.if-number-gt-LAST_NUMBER.false) in
    let legs : lent c.legs_of-legs.result ≡ legs_of cs (lot_book a.lot) = c.legs_of-legs.ensures.legs ∙ ap (legs_of cs) c.lot_book.ensures in
    let done : Settled shares cs m a (Ok at) os' t.new.told =
    settled_by shares cs a m.next m.orders (lent c.legs_of-legs.result) c.new-entering.result.order os₀ s.result o.result os o.new.told (Ok at) os' t.new.told
    legs c.new-entering.ensures.order c.copy_from.ensures few o.ensures.run s.ensures.holds (c.in_ok-at.ensures.settles a m.next c.new-entering.ensures.order c.new-entering.ensures.duration) in
    let traded = c.lot_size.result - at.left in
    let ready = enters_ready shares cs a m.next m.orders at os' t.new.told os'' r.new.told traded few done r.ensures (ap (λ n. n - at.left) c.lot_size.ensures) in
    follows_closed (Enters shares cs m a) m (length c.args.report.now) (Entered m.next traded) os'' (m.next + 1) r.new.told _ c.close.new.told _ _
    s.result s.ensures.blank (r.ensures.more.report.long ∙ settles.report.long ∙ o.ensures.run.more.report.long) (search rules)
    ready c.close.ensures
