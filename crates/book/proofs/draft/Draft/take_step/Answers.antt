use Rattle.std.proofs.Common.{◌≡◌, List, vec_items, sym, subst}
use Rattle.market.specs.declared.book_id.BookId.{BookId}
use Rattle.market.specs.declared.order.Order.{Order}
use Rattle.market.specs.Fills.{given, filled_book, facing, divided}
use Rattle.market.specs.Orders.{lot_book}
use Rattle.market.specs.Rows.{fill_rows}
use Rattle.book.specs.Table.{lent}
use Rattle.book.specs.Matched.{Traded}
use Rattle.book.specs.Reports.{Tells}
use Rattle.book.proofs.Steps.{level_traded, units_traded, wanted_enough}
use Rattle.book.proofs.draft.Draft.take_step.Goals as goal

pub fill_units-requires-clause-enough : goal.fill_units-requires-clause-enough
fill_units-requires-clause-enough g c =
    wanted_enough (g.R.AllocationRule.shares c.args.rule.now) (lent c.args.legs) c.args.order.now c.args.at.next_fill c.args.at.left (vec_items c.args.self.now.orders.inner.orders) c.args.told.now c.in-Units.wanted c.in-Units.ensures

pub returns-in-Level : goal.returns-in-Level
returns-in-Level g c =
    let shares = g.R.AllocationRule.shares c.args.rule.now in
    let o = c.args.order.now in
    let legs = lent c.args.legs in
    let f = c.args.at.next_fill in
    let q = c.args.at.left in
    let p = c.in-Level.price in
    let os : List Order = vec_items c.args.self.now.orders.inner.orders in
    let b = c.lot_book.ensures in
    let r = c.fill_level in
    let k : r.result ≡ given (lot_book o.lot) o.side p os q = subst (λ (x : BookId). r.result ≡ given x o.side p os q) b r.ensures.traded in
    let left : vec_items r.new.self.orders.inner.orders ≡ filled_book shares (lot_book o.lot) o.side p os q = subst (λ (x : BookId). vec_items r.new.self.orders.inner.orders ≡ filled_book shares x o.side p os q) b r.ensures.left in
    let told : Tells c.args.told.now (fill_rows f o.number legs (facing (lot_book o.lot) o.side p os) (divided shares (lot_book o.lot) o.side p os q)) r.new.told =
    subst (λ (x : BookId). Tells c.args.told.now (fill_rows f o.number legs (facing x o.side p os) (divided shares x o.side p os q)) r.new.told) b r.ensures.more in
    subst (λ n. Traded shares legs o f q os c.args.told.now n (vec_items r.new.self.orders.inner.orders) r.new.told) (sym k)
    (subst (λ (xs : List Order). Traded shares legs o f q os c.args.told.now (given (lot_book o.lot) o.side p os q) xs r.new.told) (sym left)
    (level_traded shares legs o f q os c.args.told.now p r.new.told c.requires.some c.args.self.now.orders.positive c.in-Level.ensures told))

pub returns-in-Units : goal.returns-in-Units
returns-in-Units g c =
    units_traded (g.R.AllocationRule.shares c.args.rule.now) (lent c.args.legs) c.args.order.now c.args.at.next_fill c.args.at.left (vec_items c.args.self.now.orders.inner.orders) c.args.told.now c.in-Units.wanted (vec_items c.fill_units.new.self.orders.inner.orders) c.fill_units.new.told c.in-Units.ensures c.fill_units.ensures
