use Rattle.std.proofs.Common.{arith}
use Rattle.std.specs.Prelude.{unsigned_abs, ◌≤◌}
use Rattle.std.proofs.lemmas.List.Elements.{All-tail}
use Rattle.market.specs.declared.leg.Leg.{Leg}
use Rattle.book.specs.Held.{held}
use Rattle.book.proofs.UnitReading.{unit_more, few_near}
use Rattle.book.proofs.units.+next_net.Goals as goal

pub next_net-requires : goal.next_net-requires
next_net-requires t c =
    let leg = c.in-Some.leg.now in
    let legs = c.in-Some.legs.now in
    let split = c.in-Some.ensures.cases in
    let rungs = c.in_ok-rungs.ensures.cases in
    (omega arith, (omega arith, (All-tail (λ (x : Leg). unsigned_abs x.ratio ≤ 10) leg legs (rw (split.0) at c.requires.small), omega arith)))

pub added-requires-clause-other : goal.added-requires-clause-other
added-requires-clause-other t c =
    let split = c.in-Some.ensures.cases in
    few_near c.args.side (held c.args.orders.now) c.in-Some.legs.now c.in_ok-rungs.rungs.now _ c.in_ok-others.others _ c.in_ok-others.ensures (omega arith) (omega arith)

pub returns : goal.returns
returns t c = rw (c.in-Some.ensures.cases.0, c.in_ok-rungs.ensures.cases.0) (unit_more _ _ _ _ _ _ _ c.added.result c.in_ok-part.ensures c.in_ok-others.ensures c.added.ensures)
