use Rattle.std.proofs.Common.{◌≡◌, sym, subst, arith}
use Rattle.rules.specs.Domain.{total}
use Rattle.market.specs.Levels.{level, quantities}
use Rattle.market.specs.Prices.{opposite}
use Rattle.book.specs.Held.{held}
use Rattle.book.specs.Reading.{levels_beyond, NextRung}
use Rattle.book.proofs.Reading.{no_level, one_level, some_level}
use Rattle.book.proofs.ladder.Ladder.next_level.Goals as goal

pub returns-in_err-price : goal.returns-in_err-price
returns-in_err-price c =
    let b = c.args.self.book in
    let s = c.args.self.side in
    let os = held c.args.orders.now in
    let none = c.in_err-price.ensures in
    subst (NextRung b s os (levels_beyond b s os c.args.rung)) (sym c.from_residual.ensures) (no_level b s c.args.rung os (rw c.as_slice.ensures at (sym none)))

pub returns : goal.returns
returns c =
    let b = c.args.self.book in
    let s = c.args.self.side in
    let os = held c.args.orders.now in
    let best = rw c.as_slice.ensures at (sym c.in_ok-price.ensures) in
    let p = c.in_ok-price.price in
    let read : c.read_level-left.result.total ≡ total (quantities (level b (opposite s) p os)) = rw c.opposite.ensures at c.read_level-left.ensures.total in
    let some = some_level b s c.args.rung os p best c.args.orders.now.positive in
    (omega arith, one_level b s c.args.rung os p _ best read)
