use Rattle.std.proofs.Common.{◌≡◌, filter, ap, ◌∙◌, length, subst, sym, vec_items, arith}
use Rattle.market.specs.Levels.{still_open, after_fill}
use Rattle.market.proofs.Asking.{bounded_after_fill}
use Rattle.book.specs.Bounds.{Small, Positive}
use Rattle.book.specs.Facing.{faces}
use Rattle.book.proofs.Bounds.{positive_after, within_bounds, shares_small}
use Rattle.book.proofs.orders.Orders.trade.Goals as goal

pub invariant_of-self : goal.invariant_of-self
invariant_of-self c =
    let old = c.args.self.now in
    let os = vec_items old.inner.orders in
    let test = faces c.args.fill.now in
    let ks = c.args.shares.now in
    let is : vec_items c.drop_spent.new.self.orders ≡ after_fill test os ks = c.drop_spent.ensures.orders ∙ ap (filter still_open) c.take_shares.ensures.orders in
    let kept = bounded_after_fill test os ks (within_bounds old) in
    record {
      small = subst Small (sym is) kept.small;
      positive = subst Positive (sym is) (positive_after test os ks);
      few = omega (arith, c.drop_spent.new.self.orders.ok.0, ap length is, kept.few);
      room = omega (arith, c.drop_spent.ensures.capacity, c.take_shares.ensures.capacity, old.room);
    }

pub returns-clause-orders : goal.returns-clause-orders
returns-clause-orders c = c.drop_spent.ensures.orders ∙ ap (filter still_open) c.take_shares.ensures.orders

pub take_shares-requires-clause-few : goal.take_shares-requires-clause-few
take_shares-requires-clause-few c = shares_small (faces c.args.fill.now) (vec_items c.args.self.now.inner.orders) c.args.shares.now c.args.self.now.small c.requires.below
