use Rattle.std.proofs.Common.{◌+◌, ◌-◌, ◌*◌, fold, sym, ◌∙◌, arith}
use Rattle.std.proofs.lemmas.List.{at_drop_all}
use Rattle.line.specs.Numbers.{digits}
use Rattle.line.proofs.Decimals.{below, room}
use Rattle.line.proofs.field.all_digits.Goals as goal

pub overflow_mul-n : goal.overflow_mul-n
overflow_mul-n c = omega (arith, room c.loop-b.n c.loop-b.b-index c.loop-b.invariant.2 (omega arith))

pub overflow_add-n : goal.overflow_add-n
overflow_add-n c = omega (arith, room c.loop-b.n c.loop-b.b-index c.loop-b.invariant.2 (omega arith))

pub returns : goal.returns
returns c =
    let e = at_drop_all digits c.args.bytes.now c.loop-b.b-index c.loop-b-test.false in
    let f = at_drop_all (fold (λ n b. n * 10 + (b - 48)) c.loop-b.n) c.args.bytes.now c.loop-b.b-index c.loop-b-test.false in
    (sym c.loop-b.invariant.0 ∙ e, sym f ∙ c.loop-b.invariant.1, below c.loop-b.n c.loop-b.b-index c.loop-b.invariant.2 (omega arith))
