use Rattle.std.proofs.Common.{◌≡◌, ◌∙◌, List, ap, vec_items, arith}
use Rattle.market.specs.declared.leg.Leg.{Leg}
use Rattle.market.specs.Orders.{lot_book}
use Rattle.market.specs.Round.{legs_of}
use Rattle.book.specs.Table.{table, lent}
use Rattle.book.proofs.Settling.{arrives_whole, arrives_rested}
use Rattle.book.proofs.draft.Draft.arrive.Goals as goal

pub returns-then-at-eq0-clause-arrives : goal.returns-then-at-eq0-clause-arrives
returns-then-at-eq0-clause-arrives g c =
    let cs : List (List Leg) = table c.args.combinations.now in
    let o = c.args.order.now in
    let m = c.match_order-at in
    let legs : lent c.legs_of-legs.result ≡ legs_of cs (lot_book o.lot) = c.legs_of-legs.ensures.legs ∙ ap (legs_of cs) c.lot_book.ensures in
    arrives_whole (g.R.AllocationRule.shares c.args.rule.now) cs c.args.next_fill o (vec_items c.args.self.now.orders.inner.orders) c.args.told.now (lent c.legs_of-legs.result) legs m.result (vec_items m.new.self.orders.inner.orders) m.new.told m.ensures.run c.if-at-eq0.true

pub returns-clause-arrives : goal.returns-clause-arrives
returns-clause-arrives g c =
    let cs : List (List Leg) = table c.args.combinations.now in
    let o = c.args.order.now in
    let m = c.match_order-at in
    let r = c.rest in
    let legs : lent c.legs_of-legs.result ≡ legs_of cs (lot_book o.lot) = c.legs_of-legs.ensures.legs ∙ ap (legs_of cs) c.lot_book.ensures in
    arrives_rested (g.R.AllocationRule.shares c.args.rule.now) cs c.args.next_fill o (vec_items c.args.self.now.orders.inner.orders) c.args.told.now (lent c.legs_of-legs.result) legs m.result (vec_items m.new.self.orders.inner.orders) m.new.told m.ensures.run
    (omega (arith, c.if-at-eq0.false)) r.result (vec_items r.new.self.orders.inner.orders) r.new.told r.ensures
