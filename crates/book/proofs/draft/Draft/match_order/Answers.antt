use Rattle.std.proofs.Common.{List, vec_items, sym, subst, arith}
use Rattle.market.specs.declared.order.Order.{Order}
use Rattle.book.specs.declared.told.Told.{Told}
use Rattle.book.specs.Table.{lent}
use Rattle.book.specs.Matched.{Matched}
use Rattle.book.proofs.Going.{going_start, going_on, going_over, going_filled}
use Rattle.book.proofs.draft.Draft.match_order.Goals as goal

pub loop-at-init : goal.loop-at-init
loop-at-init g c = going_start (g.R.AllocationRule.shares c.args.rule.now) (lent c.args.legs) c.args.order.now c.args.next_fill (vec_items c.args.self.now.orders.inner.orders) c.args.told.now c.lot_size.result c.lot_size.ensures c.requires.few c.requires.early

pub loop-at-preserved : goal.loop-at-preserved
loop-at-preserved g c =
    let now = c.loop-at in
    going_on (g.R.AllocationRule.shares c.args.rule.now) (lent c.args.legs) c.args.order.now c.args.next_fill (vec_items c.args.self.now.orders.inner.orders) c.args.told.now now.at.next_fill now.at.left (vec_items now.self.orders.inner.orders) now.told c.in-Some.traded (vec_items c.take_step.new.self.orders.inner.orders) c.take_step.new.told now.invariant c.in-Some.ensures

pub returns-after-loop-at-clause-run : goal.returns-after-loop-at-clause-run
returns-after-loop-at-clause-run g c =
    let now = c.loop-at in
    going_filled (g.R.AllocationRule.shares c.args.rule.now) (lent c.args.legs) c.args.order.now c.args.next_fill (vec_items c.args.self.now.orders.inner.orders) c.args.told.now now.at.next_fill now.at.left (vec_items now.self.orders.inner.orders) now.told now.invariant (omega (arith, c.loop-at-test.false))

pub returns-in_default-clause-run : goal.returns-in_default-clause-run
returns-in_default-clause-run g c =
    let shares = g.R.AllocationRule.shares c.args.rule.now in
    let now = c.loop-at in
    let legs = lent c.args.legs in
    let o = c.args.order.now in
    let os₀ : List Order = vec_items c.args.self.now.orders.inner.orders in
    let done = c.in_default.ensures in
    subst (λ (xs : List Order). Matched shares legs o c.args.next_fill os₀ c.args.told.now now.at.next_fill now.at.left xs c.take_step.new.told) (sym done.1)
    (subst (λ (t : Told). Matched shares legs o c.args.next_fill os₀ c.args.told.now now.at.next_fill now.at.left (vec_items now.self.orders.inner.orders) t) (sym done.2)
    (going_over shares legs o c.args.next_fill os₀ c.args.told.now now.at.next_fill now.at.left (vec_items now.self.orders.inner.orders) now.told now.invariant done.0))
