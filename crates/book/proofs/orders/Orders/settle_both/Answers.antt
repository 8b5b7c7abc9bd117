use Rattle.std.proofs.Common.{vec_items, subst}
use Rattle.market.specs.declared.arrival.Arrival.{Arrival}
use Rattle.book.specs.OldSides.{OldSettled}
use Rattle.book.proofs.OldSides.{settled_both}
use Rattle.book.proofs.orders.Orders.settle_both.Goals as goal

pub returns : goal.returns
returns c =
    let k = c.args.quote in
    let b = c.settle_old-bid in
    let o = c.settle_old-offer in
    let os = vec_items c.args.self.now.inner.orders in
    let os₁ = vec_items b.new.self.inner.orders in
    let os₂ = vec_items o.new.self.inner.orders in
    settled_both k os c.args.told.now b.result os₁ b.new.told o.result os₂ o.new.told
    (subst (λ (a : Arrival). OldSettled a os c.args.told.now b.result os₁ b.new.told) c.bid_of.ensures b.ensures)
    (subst (λ (a : Arrival). OldSettled a os₁ b.new.told o.result os₂ o.new.told) c.offer_of.ensures o.ensures)
