use Rattle.std.proofs.Common.{◌≡◌, ◌∙◌, List, filter, length, set, get_or, ap, sym, subst, vec_items, arith}
use Rattle.market.specs.declared.order.Order.{Order}
use Rattle.market.specs.Levels.{still_open}
use Rattle.market.specs.Orders.{less}
use Rattle.book.specs.Bounds.{Small, Positive}
use Rattle.book.proofs.Bounds.{open_positive}
use Rattle.book.proofs.Levels.{no_order}
use Rattle.book.proofs.Spent.{spent_parts, spent_small, spent_length}
use Rattle.book.proofs.orders.Orders.take_from.Goals as goal

pub invariant_of-self : goal.invariant_of-self
invariant_of-self c =
    let old = c.args.self.now in
    let os : List Order = vec_items old.inner.orders in
    let d : Order = no_order in
    let is : vec_items c.drop_spent.new.self.orders ≡ filter still_open (set os c.args.i (less (get_or os c.args.i d) c.args.taken)) = c.drop_spent.ensures.orders ∙ ap (filter still_open) (c.reduce.ensures.orders d) in
    record {
      small = subst Small (sym is) (spent_small os c.args.i c.args.taken d c.requires.inside old.small);
      positive = subst Positive (sym c.drop_spent.ensures.orders) (open_positive (vec_items c.reduce.new.self.orders));
      few = omega (arith, c.drop_spent.new.self.orders.ok.0, ap length is, spent_length os c.args.i (less (get_or os c.args.i d) c.args.taken), old.few, old.inner.orders.ok.0);
      room = omega (arith, c.drop_spent.ensures.capacity, c.reduce.ensures.capacity, old.room);
    }

pub returns : goal.returns
returns c d =
    let old = c.args.self.now in
    c.drop_spent.ensures.orders ∙ ap (filter still_open) (c.reduce.ensures.orders d) ∙ spent_parts (vec_items old.inner.orders) c.args.i c.args.taken d c.requires.inside old.positive
