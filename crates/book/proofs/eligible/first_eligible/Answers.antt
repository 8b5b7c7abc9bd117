use Rattle.std.proofs.Common.{◌≡◌, ◌∙◌, false, List, Some, get_or, sym, ap, subst, vec_items}
use Rattle.market.specs.declared.leg.Leg.{Leg}
use Rattle.market.specs.declared.order.Order.{Order}
use Rattle.market.specs.Round.{eligible}
use Rattle.book.specs.Rounds.{waits, FirstAmong}
use Rattle.book.specs.Table.{table}
use Rattle.book.proofs.Levels.{no_order}
use Rattle.book.proofs.Trying.{Tried, many_less, waits_before, waits_not, tried_more}
use Rattle.book.proofs.eligible.first_eligible.Goals as goal

pub loop-i-smaller : goal.loop-i-smaller
loop-i-smaller c =
    let os : List Order = vec_items c.args.orders.now.inner.orders in
    let tried = c.loop-i.tried in
    let i = c.in-Some.i in
    let o : Order = get_or os i no_order in
    let read : get_or c.as_slice-in-Some.result.now i no_order ≡ o = ap (λ (xs : List Order). get_or xs i no_order) c.as_slice-in-Some.ensures in
    let first : FirstAmong (waits tried) os i = subst (λ (xs : List Order). FirstAmong (waits tried) xs i) c.as_slice.ensures c.in-Some.ensures in
    rw read (many_less (waits (Some o)) (waits tried) (λ x e. waits_before tried o x (first.passes no_order) e) os i no_order first.inside (waits_not tried o (first.passes no_order)) (first.passes no_order))

pub loop-i-preserved : goal.loop-i-preserved
loop-i-preserved c =
    let cs : List (List Leg) = table c.args.combinations.now in
    let os : List Order = vec_items c.args.orders.now.inner.orders in
    let tried = c.loop-i.tried in
    let i = c.in-Some.i in
    let o : Order = get_or os i no_order in
    let read : get_or c.as_slice-in-Some.result.now i no_order ≡ o = ap (λ (xs : List Order). get_or xs i no_order) c.as_slice-in-Some.ensures in
    let first : FirstAmong (waits tried) os i = subst (λ (xs : List Order). FirstAmong (waits tried) xs i) c.as_slice.ensures c.in-Some.ensures in
    let none : eligible cs os o ≡ false = ap (eligible cs os) (sym read) ∙ sym c.eligible.ensures ∙ c.if-eligible.false in
    subst (λ (x : Order). Tried cs os (Some x)) (sym read) (tried_more cs os tried i no_order c.loop-i.invariant first none)
