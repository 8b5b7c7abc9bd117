-- What the resting orders of a book hold.
use Rattle.std.specs.Prelude.{List, vec_items}
use Rattle.market.specs.declared.order.Order.{Order}
use Rattle.book.specs.declared.orders.Orders.{Orders}

-- the orders, in order of arrival
abbrev pub held : Orders → List Order
held b = vec_items b.inner.orders
