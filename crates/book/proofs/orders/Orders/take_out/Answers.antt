use Rattle.std.proofs.Common.{◌≡◌, ◌<◌, ◌≤◌, Bool, not, List, [], ◌∷◌, ◌++◌, map, length, vec_items, filter, rules, sym, refl, ap, ◌∙◌, subst, arith}
use Rattle.std.proofs.lemmas.List.Filters.{length-filter_both}
use Rattle.std.proofs.lemmas.List.{map-append}
use Rattle.std.proofs.lemmas.Iterator.{YieldsList-from_slice}
use Rattle.std.proofs.lemmas.Iterator.Consumers.{YieldsList-at, YieldsList-from_filter, YieldsList-end}
use Rattle.std.proofs.lemmas.Fn.{filter_same}
use Rattle.std.proofs.lemmas.List.Elements.{All-filter}
use Rattle.market.specs.declared.order.Order.{Order}
use Rattle.market.specs.declared.row.Row.{Row}
use Rattle.market.specs.BookCalls.{leaves}
use Rattle.market.specs.Orders.{quantity_of}
use Rattle.market.specs.Rows.{cancel_row}
use Rattle.book.specs.Bounds.{Small, Positive}
use Rattle.book.specs.Reports.{Tells}
use Rattle.book.proofs.Reports.{tells_then}
use Rattle.book.proofs.orders.Orders.take_out.Goals as goal

pub loop-order-preserved : goal.loop-order-preserved
loop-order-preserved c =
    let ys = c.loop-order.yielded in
    let x = c.in-Some.order in
    let told = map cancel_row (map (λ o. o.now) ys) in
    let rows : told ++ c.cancel_row.result ∷ [] ≡ map cancel_row (map (λ o. o.now) (ys ++ x ∷ [])) =
    ap (λ (r : Row). told ++ r ∷ []) c.cancel_row.ensures ∙ sym (ap (map cancel_row) (map-append (λ o. o.now) ys (x ∷ [])) ∙ map-append cancel_row (map (λ o. o.now) ys) (x.now ∷ [])) in (
      search rules,
      search rules,
      subst (λ (rs : List Row). Tells c.args.told.now rs c.push.new.self) rows (tells_then c.args.told.now c.loop-order.told c.push.new.self told (c.cancel_row.result ∷ []) c.loop-order.invariant.2 c.push.ensures),
    )

pub returns-clause-rows : goal.returns-clause-rows
returns-clause-rows c =
    let seen = YieldsList-end
    (YieldsList-at c.into_iter-order-iterator.ensures.into_iter_gives
    (YieldsList-from_filter _ (leaves c.args.which) (YieldsList-from_slice c.as_slice.result.now cc) c.filter-order-items.ensures.closure (λ x r q k. search rules)))
    c.loop-order.yielded _ c.loop-order.yielded_by _ _ c.in-None.is c.next.ensures.steps in
    subst (λ (os : List Order). Tells c.args.told.now (map cancel_row os) c.loop-order.told) (seen.0 ∙ ap (filter (leaves c.args.which)) c.as_slice.ensures) c.loop-order.invariant.2

pub invariant_of-self : goal.invariant_of-self
invariant_of-self c =
    let old = c.args.self.now in
    let stay : Order → Bool = λ o. not (leaves c.args.which o) in
    let is : c.retain.new.self.items ≡ filter stay (vec_items old.inner.orders) = filter_same _ stay _ (λ x b f' k. search rules) _ _ c.retain.ensures.filtered in
    record {
      small = subst Small (sym is) (All-filter stay (λ o. quantity_of o ≤ 10000) (vec_items old.inner.orders) old.small);
      positive = subst Positive (sym is) (All-filter stay (λ o. 0 < quantity_of o) (vec_items old.inner.orders) old.positive);
      few = omega (arith, c.retain.ensures.bound, old.few);
      room = omega (arith, c.retain.ensures.capacity, old.room);
    }

pub returns-clause-orders : goal.returns-clause-orders
returns-clause-orders c = filter_same _ (λ o. not (leaves c.args.which o)) _ (λ x b f' k. search rules) _ _ c.retain.ensures.filtered

pub returns-clause-count : goal.returns-clause-count
returns-clause-count c =
    let os = vec_items c.args.self.now.inner.orders in
    let is = filter_same _ (λ o. not (leaves c.args.which o)) _ (λ x b f' k. search rules) _ _ c.retain.ensures.filtered in
    omega (arith, ap length is, ap length c.as_slice-before.ensures, ap length c.as_slice-2.ensures, length-filter_both (leaves c.args.which) (λ o. not (leaves c.args.which o)) (λ _. refl) os)
