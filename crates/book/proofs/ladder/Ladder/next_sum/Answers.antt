use Rattle.std.proofs.Common.{arith, ◌∙◌}
use Rattle.book.specs.Held.{held}
use Rattle.book.proofs.Reading.{reads_start, reads_more, some_taken}
use Rattle.book.proofs.ladder.Ladder.next_sum.Goals as goal

pub loop-taken-init : goal.loop-taken-init
loop-taken-init c = (omega arith, reads_start _)

pub loop-taken-preserved : goal.loop-taken-preserved
loop-taken-preserved c =
    let level = c.in_ok-level.level in
    let parts = some_taken c.args.self.book c.args.self.side (held c.args.orders.now) level c.min-more.result (omega arith) in
    (omega arith, reads_more _ _ _ _ _ _ _ _ _ c.loop-taken.invariant.1 (c.in_ok-level.ensures.1 ∙ parts) c.cost.ensures.product c.cost.ensures.bounded c.added-sum.ensures)
