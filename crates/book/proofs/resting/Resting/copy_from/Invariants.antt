use Rattle.std.proofs.Common.{◌≡◌, take, vec_items, vec_len, vec_capacity}
use Rattle.book.proofs.resting.Resting.copy_from.Given as goal

abbrev pub invariant-loop-order : goal.invariant-loop-order
invariant-loop-order l =
    (vec_items l.self.orders ≡ take l.order-index l.fn.from)
    × (vec_len l.self.orders ≡ l.order-index)
    × (vec_capacity l.self.orders ≡ vec_capacity l.initial.self.orders)
