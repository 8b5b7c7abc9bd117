use Rattle.std.proofs.Common.{map}
use Rattle.market.specs.Rows.{cancel_row}
use Rattle.book.specs.Reports.{Tells}
use Rattle.book.proofs.orders.Orders.take_out.Given as goal

abbrev pub invariant-loop-order : goal.invariant-loop-order
invariant-loop-order l =
    (goal.iterator-loop-order).can_next l.order-iterator
    × (goal.iterator-loop-order).is_finite l.order-iterator
    × Tells l.initial.told (map cancel_row (map (λ o. o.now) l.yielded)) l.told
