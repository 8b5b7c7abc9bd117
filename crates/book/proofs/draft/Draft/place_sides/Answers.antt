use Rattle.std.proofs.Common.{List, Err, vec_items, ap, ◌∙◌}
use Rattle.std.proofs.lemmas.Result.{err_from_is_err_and}
use Rattle.market.specs.declared.leg.Leg.{Leg}
use Rattle.market.specs.declared.order.Order.{Order}
use Rattle.book.specs.Table.{table}
use Rattle.book.proofs.PlacedSides.{placed_both, no_bid, no_offer}
use Rattle.book.proofs.draft.Draft.place_sides.Goals as goal

pub returns-in_err-bid-clause-places : goal.returns-in_err-bid-clause-places
returns-in_err-bid-clause-places g c =
    let cs : List (List Leg) = table c.args.combinations.now in
    let b = c.place_side in
    let os : List Order = vec_items c.args.self.now.orders.inner.orders in
    let p = err_from_is_err_and c.from_residual.result c.from_residual.ensures.1 in
    no_bid (g.R.AllocationRule.shares c.args.rule.now) cs c.args.quote c.args.next os c.args.told.now c.args.numbers c.bid_of-side.result c.bid_of-side.ensures (vec_items b.new.self.orders.inner.orders) b.new.told
    c.in_err-bid.field-0.0 c.from_residual.result (p.1 ∙ ap Err p.2) c.in_err-bid.ensures.places

pub returns-in_err-offer-clause-places : goal.returns-in_err-offer-clause-places
returns-in_err-offer-clause-places g c =
    let cs : List (List Leg) = table c.args.combinations.now in
    let b = c.place_side in
    let o = c.place_side-2 in
    let os : List Order = vec_items c.args.self.now.orders.inner.orders in
    let p = err_from_is_err_and c.from_residual-in_err-offer.result c.from_residual-in_err-offer.ensures.1 in
    no_offer (g.R.AllocationRule.shares c.args.rule.now) cs c.args.quote c.args.next os c.args.told.now c.args.numbers c.bid_of-side.result c.bid_of-side.ensures (vec_items b.new.self.orders.inner.orders) b.new.told
    c.in_ok-bid.bid c.in_ok-bid.ensures.places c.offer_of-side.result c.offer_of-side.ensures (vec_items o.new.self.orders.inner.orders) o.new.told
    c.in_err-offer.field-0.0 c.from_residual-in_err-offer.result (p.1 ∙ ap Err p.2) c.in_err-offer.ensures.places

pub returns-clause-places : goal.returns-clause-places
returns-clause-places g c =
    let cs : List (List Leg) = table c.args.combinations.now in
    let b = c.place_side in
    let o = c.place_side-2 in
    let os : List Order = vec_items c.args.self.now.orders.inner.orders in
    placed_both (g.R.AllocationRule.shares c.args.rule.now) cs c.args.quote c.args.next os c.args.told.now c.args.numbers c.bid_of-side.result c.bid_of-side.ensures (vec_items b.new.self.orders.inner.orders) b.new.told
    c.in_ok-bid.bid c.in_ok-bid.ensures.places c.offer_of-side.result c.offer_of-side.ensures (vec_items o.new.self.orders.inner.orders) o.new.told
    c.in_ok-offer.offer c.in_ok-offer.ensures.places
