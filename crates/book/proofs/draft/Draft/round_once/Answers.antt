use Rattle.std.proofs.Common.{◌≡◌, ◌∙◌, ◌+◌, ◌++◌, List, None, Option, get_or, take, drop, sym, ap, subst, vec_items}
use Rattle.market.specs.declared.leg.Leg.{Leg}
use Rattle.market.specs.declared.order.Order.{Order}
use Rattle.market.specs.Orders.{lot_book, quantity_of}
use Rattle.market.specs.Round.{legs_of, left_of}
use Rattle.book.specs.declared.wanted.Wanted.{Wanted}
use Rattle.book.specs.Runs.{RunWanted, RunFound}
use Rattle.book.specs.Table.{table, lent}
use Rattle.book.proofs.Levels.{no_order}
use Rattle.book.proofs.Rounding.{round_enough, round_filled}
use Rattle.book.proofs.draft.Draft.round_once.Goals as goal

pub fill_units-requires-clause-enough : goal.fill_units-requires-clause-enough
fill_units-requires-clause-enough g c =
    let cs : List (List Leg) = table c.args.combinations.now in
    let os : List Order = vec_items c.args.self.now.orders.inner.orders in
    let i = c.in-Some.i in
    let o : Order = get_or c.as_slice.result.now i no_order in
    let is : o ≡ get_or os i no_order = ap (λ (xs : List Order). get_or xs i no_order) c.as_slice.ensures in
    let w = c.unwrap-wanted.result in
    let of : lent c.legs_of-legs.result ≡ legs_of cs (lot_book o.lot) = c.legs_of-legs.ensures.legs ∙ ap (legs_of cs) c.lot_book.ensures in
    let run : RunWanted o (lent c.legs_of-legs.result) None (quantity_of o) os w = subst (λ n. RunWanted o (lent c.legs_of-legs.result) None n os w) c.lot_size.ensures
    (subst (λ (r : Option Wanted). RunFound o (lent c.legs_of-legs.result) None c.lot_size.result os r) c.unwrap-wanted.ensures c.wanted_run.ensures) in
    let traded : vec_items c.take_from.new.self.inner.orders ≡ take i os ++ left_of o w.run.units.0 ++ drop (i + 1) os = c.take_from.ensures no_order ∙ ap (λ (x : Order). take i os ++ left_of x w.run.units.0 ++ drop (i + 1) os) (sym is) in
    round_enough cs os i no_order o is c.in-Some.ensures (lent c.legs_of-legs.result) of w run (vec_items c.take_from.new.self.inner.orders) traded

pub returns : goal.returns
returns g c =
    let cs : List (List Leg) = table c.args.combinations.now in
    let os : List Order = vec_items c.args.self.now.orders.inner.orders in
    let i = c.in-Some.i in
    let o : Order = get_or c.as_slice.result.now i no_order in
    let is : o ≡ get_or os i no_order = ap (λ (xs : List Order). get_or xs i no_order) c.as_slice.ensures in
    let w = c.unwrap-wanted.result in
    let of : lent c.legs_of-legs.result ≡ legs_of cs (lot_book o.lot) = c.legs_of-legs.ensures.legs ∙ ap (legs_of cs) c.lot_book.ensures in
    let run : RunWanted o (lent c.legs_of-legs.result) None (quantity_of o) os w = subst (λ n. RunWanted o (lent c.legs_of-legs.result) None n os w) c.lot_size.ensures
    (subst (λ (r : Option Wanted). RunFound o (lent c.legs_of-legs.result) None c.lot_size.result os r) c.unwrap-wanted.ensures c.wanted_run.ensures) in
    let traded : vec_items c.take_from.new.self.inner.orders ≡ take i os ++ left_of o w.run.units.0 ++ drop (i + 1) os = c.take_from.ensures no_order ∙ ap (λ (x : Order). take i os ++ left_of x w.run.units.0 ++ drop (i + 1) os) (sym is) in
    round_filled cs os i no_order o is c.in-Some.ensures (lent c.legs_of-legs.result) of w run (g.R.AllocationRule.shares c.args.rule.now) c.args.fill c.args.told.now (vec_items c.take_from.new.self.inner.orders) (vec_items c.fill_units.new.self.orders.inner.orders) c.fill_units.new.told traded c.fill_units.ensures
