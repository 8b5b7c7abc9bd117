use Rattle.std.proofs.Common.{arith}
use Rattle.std.proofs.lemmas.Result.{err_from_is_err_and}
use Rattle.line.proofs.Fillings.{next_place, refused, one_more}
use Rattle.line.proofs.cursor.Cursor.numbers.Goals as goal

pub returns-in_err-number-clause-filled : goal.returns-in_err-number-clause-filled
returns-in_err-number-clause-filled c =
    let p = err_from_is_err_and c.from_residual.result c.from_residual.ensures.1 in
    let h = next_place c.args.count c.loop.counter c.loop-test.true c.loop.invariant.1 in
    rw (p.1, p.2) (c.loop.self.index, refused h c.in_err-number.ensures.0, c.in_err-number.ensures.1)

pub loop-preserved : goal.loop-preserved
loop-preserved c =
    let e = c.in_ok-number.ensures in
    let h = next_place c.args.count c.loop.counter c.loop-test.true c.loop.invariant.1 in
    (omega arith, rw c.push.ensures.items (one_more h e.0 e.1 e.2 e.3))
