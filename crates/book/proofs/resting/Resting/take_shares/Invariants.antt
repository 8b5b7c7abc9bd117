use Rattle.std.proofs.Common.{◌≡◌, vec_items, vec_capacity}
use Rattle.book.proofs.Taking.{Taking}
use Rattle.book.proofs.resting.Resting.take_shares.Given as goal

abbrev pub invariant-loop-i : goal.invariant-loop-i
invariant-loop-i l =
    Taking l.fill (vec_items l.initial.self.orders) (vec_items l.self.orders) l.shares l.initial.told l.told l.i l.left.rest.now
    × (vec_capacity l.self.orders ≡ vec_capacity l.initial.self.orders)
