use Rattle.std.proofs.Common.{◌∙◌, arith}
use Rattle.line.specs.Kinds.{plain_number}
use Rattle.line.proofs.Fillings.{next_part, one_more, all_parts, after_numbers, all_made}
use Rattle.line.proofs.cursor.Cursor.elements.Goals as goal

pub loop-number-preserved : goal.loop-number-preserved
loop-number-preserved g c =
    let e = c.in_ok-read.ensures in
    let h = next_part c.loop-number.number-index c.loop-number-test.true c.loop-number.invariant.2 in
    (c.loop-number.invariant.0, omega arith, rw c.push.ensures.items (one_more h e.0 e.1 e.2 e.3))

pub returns : goal.returns
returns g c =
    let n = c.in_ok-numbers.ensures.filled in
    let d = all_parts c.loop-number.number-index c.loop-number-test.false c.loop-number.invariant.2 in
    (after_numbers c.args.self.now c.numbers.new.self _ c.args.count plain_number g.T.Element.kind c.loop-number.invariant.0 n.0 _ d.0, all_made c.args.self.now c.numbers.new.self _ c.args.count g.T.Element.made _ (c.as_slice-number-items.ensures.value ∙ n.1) n.2 d.1)
