use Rattle.std.proofs.Common.{arith}
use Rattle.book.proofs.Sharing.{units_told}
use Rattle.book.proofs.told.Told.push_share.Goals as goal

pub returns-in-Some : goal.returns-in-Some
returns-in-Some c =
    units_told c.args.fill.now c.args.order.now c.args.share c.in-Some.legs c.args.self.now c.push-in-Some.new.self c.push_legs.new.self c.combination_row.result (omega (arith, c.if-share-eq0.false)) c.in-Some.is c.combination_row.ensures c.push-in-Some.ensures c.push_legs.ensures
