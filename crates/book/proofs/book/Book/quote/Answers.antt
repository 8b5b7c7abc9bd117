use Rattle.std.proofs.Common.{◌+◌, ◌<◌, ◌≤◌, List, Err, length, vec_items, ap, ◌∙◌, arith, rules}
use Rattle.std.proofs.lemmas.Result.{err_from_is_err_and}
use Rattle.market.specs.declared.acceptance.Acceptance.TheVariants.{Quoted}
use Rattle.market.specs.declared.leg.Leg.{Leg}
use Rattle.market.specs.declared.order.Order.{Order}
use Rattle.market.specs.declared.refusal.Refusal.TheVariants.{NumbersSpent}
use Rattle.market.specs.Quoting.{Quotes}
use Rattle.market.specs.Rows.{blank}
use Rattle.book.specs.Closing.{book_state}
use Rattle.book.specs.PlacedSides.{PlacedBoth, NotBoth}
use Rattle.book.specs.Table.{table}
use Rattle.book.proofs.Closing.{follows_refused, follows_closed}
use Rattle.book.proofs.Quoting.{quotes_spent, quotes_full, quotes_placed}
use Rattle.book.proofs.Reports.{blank_long}
use Rattle.book.proofs.book.Book.quote.Goals as goal

pub returns-then-next-needed : goal.returns-then-next-needed
returns-then-next-needed g c =
    let m = book_state c.args.self.now in
    let shares = g.R.AllocationRule.shares c.args.rule.now in
    let cs : List (List Leg) = table c.args.combinations.now in
    let k = c.args.quote in
    let s = c.start-told in
    let v = c.settle_both-numbers in
    let os₀ : List Order = vec_items c.copy_from.new.self.inner.orders in
    let os : List Order = vec_items v.new.self.inner.orders in
    let spent : 100000 < m.next + c.needed.result = omega (arith, c.if-next-needed.true) in
    follows_refused (Quotes shares cs m k) m (length c.args.report.now) NumbersSpent c.refuse.result c.refuse.new.report _ c.refuse.ensures.answer
    (quotes_spent shares cs m k os₀ c.copy_from.ensures s.result s.ensures.holds v.result os v.new.told v.ensures c.needed.result c.needed.ensures spent)
    (search rules) (c.refuse.ensures.blank ∙ ap blank (v.ensures.more.report.long ∙ blank_long s.result.rows.now (length c.args.report.now) s.ensures.blank))

pub returns-in_err-placed : goal.returns-in_err-placed
returns-in_err-placed g c =
    let m = book_state c.args.self.now in
    let shares = g.R.AllocationRule.shares c.args.rule.now in
    let cs : List (List Leg) = table c.args.combinations.now in
    let k = c.args.quote in
    let s = c.start-told in
    let v = c.settle_both-numbers in
    let w = c.place_sides in
    let os₀ : List Order = vec_items c.copy_from.new.self.inner.orders in
    let os : List Order = vec_items v.new.self.inner.orders in
    let os' : List Order = vec_items w.new.self.orders.inner.orders in
    let e = c.in_err-placed.field-0.0 in
    let p = err_from_is_err_and c.from_residual.result c.from_residual.ensures.1 in
    let few : m.next + c.needed.result ≤ 100000 = omega (arith, c.if-next-needed.false) in
    let none : NotBoth shares cs k m.next os v.new.told v.ensures.bid v.ensures.offer e w.new.told = c.in_err-placed.ensures.places.places v.ensures.bid v.ensures.offer v.ensures.bid_stands v.ensures.offer_stands in
    follows_refused (Quotes shares cs m k) m (length c.args.report.now) e c.from_residual.result w.new.told.rows.now _ (p.1 ∙ ap Err p.2)
    (quotes_full shares cs m k os₀ c.copy_from.ensures s.result s.ensures.holds v.result os v.new.told v.ensures c.needed.result c.needed.ensures few os' w.new.told e none)
    (search rules) (none.back.wiped ∙ ap blank (none.back.report.long ∙ v.ensures.more.report.long ∙ blank_long s.result.rows.now (length c.args.report.now) s.ensures.blank))

pub returns : goal.returns
returns g c =
    let m = book_state c.args.self.now in
    let shares = g.R.AllocationRule.shares c.args.rule.now in
    let cs : List (List Leg) = table c.args.combinations.now in
    let k = c.args.quote in
    let s = c.start-told in
    let v = c.settle_both-numbers in
    let w = c.place_sides in
    let r = c.round in
    let p = c.in_ok-placed.placed in
    let os₀ : List Order = vec_items c.copy_from.new.self.inner.orders in
    let os : List Order = vec_items v.new.self.inner.orders in
    let os' : List Order = vec_items w.new.self.orders.inner.orders in
    let os'' : List Order = vec_items r.new.self.orders.inner.orders in
    let few : m.next + c.needed.result ≤ 100000 = omega (arith, c.if-next-needed.false) in
    let both : PlacedBoth shares cs k m.next os v.new.told v.ensures.bid v.ensures.offer p os' w.new.told = c.in_ok-placed.ensures.places.places v.ensures.bid v.ensures.offer v.ensures.bid_stands v.ensures.offer_stands in
    follows_closed (Quotes shares cs m k) m (length c.args.report.now) (Quoted p.bid.number p.offer.number) os'' p.offer.after.next r.new.told _ c.close.new.told _ _
    s.result s.ensures.blank (r.ensures.more.report.long ∙ both.more.report.long ∙ v.ensures.more.report.long) (search rules)
    (quotes_placed shares cs m k os₀ c.copy_from.ensures s.result s.ensures.holds v.result os v.new.told v.ensures c.needed.result c.needed.ensures few os' w.new.told p os'' r.new.told both r.ensures)
    c.close.ensures
