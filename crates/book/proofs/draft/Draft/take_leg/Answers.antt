use Rattle.std.proofs.Common.{◌≡◌, List, vec_items, subst, arith}
use Rattle.market.specs.declared.book_id.BookId.{BookId}
use Rattle.market.specs.declared.book_id.BookId.TheVariants.{Instrument}
use Rattle.market.specs.declared.order.Order.{Order}
use Rattle.market.specs.Fills.{given, filled_book, BestLevel}
use Rattle.market.specs.Levels.{Best}
use Rattle.market.specs.Prices.{opposite}
use Rattle.book.proofs.Bounds.{within_bounds, level_open}
use Rattle.book.proofs.Drawing.{level_to_take, drawing_start, drawing_level, drawing_end}
use Rattle.book.proofs.draft.Draft.take_leg.Goals as goal

pub loop-left-init : goal.loop-left-init
loop-left-init g c = drawing_start (g.R.AllocationRule.shares c.args.rule.now) c.args.taker c.args.instrument c.args.quantity.0 (vec_items c.args.self.now.orders.inner.orders) c.args.told.now c.requires

pub unwrap-price-requires : goal.unwrap-price-requires
unwrap-price-requires g c =
    let b : BookId = Instrument c.args.instrument in
    let os = vec_items c.loop-left.self.orders.inner.orders in
    level_to_take b c.args.taker.side c.loop-left.left os c.best_price.result (subst (λ (xs : List Order). BestLevel b c.args.taker.side xs c.best_price.result) c.as_slice.ensures c.best_price.ensures) c.loop-left-test.true c.loop-left.invariant.enough

pub loop-left-smaller : goal.loop-left-smaller
loop-left-smaller g c =
    let b : BookId = Instrument c.args.instrument in
    let s = c.args.taker.side in
    let os = vec_items c.loop-left.self.orders.inner.orders in
    let p = c.unwrap-price.result in
    let best : Best b s os p = subst (λ (xs : List Order). Best b s xs p) c.as_slice.ensures (subst (BestLevel b s c.as_slice.result.now) c.unwrap-price.ensures c.best_price.ensures) in
    omega (arith, c.fill_level-left.ensures.traded, level_open b (opposite s) p os c.loop-left.self.orders.positive best.there, c.loop-left-test.true)

pub loop-left-preserved : goal.loop-left-preserved
loop-left-preserved g c =
    let b : BookId = Instrument c.args.instrument in
    let s = c.args.taker.side in
    let shares = g.R.AllocationRule.shares c.args.rule.now in
    let q = c.loop-left.left in
    let os = vec_items c.loop-left.self.orders.inner.orders in
    let p = c.unwrap-price.result in
    let best : Best b s os p = subst (λ (xs : List Order). Best b s xs p) c.as_slice.ensures (subst (BestLevel b s c.as_slice.result.now) c.unwrap-price.ensures c.best_price.ensures) in
    let done = c.fill_level-left in
    let eo : vec_items done.new.self.orders.inner.orders ≡ filled_book shares b s p os q = done.ensures.left in
    let eg : done.result ≡ given b s p os q = done.ensures.traded in
    rw (eo, eg) (drawing_level shares c.args.taker c.args.instrument c.args.quantity.0 (vec_items c.args.self.now.orders.inner.orders) c.args.told.now (g.met.R.AllocationRule.lawful c.args.rule.now) q os c.loop-left.told p done.new.told c.loop-left.invariant (within_bounds c.loop-left.self.orders) c.loop-left-test.true best done.ensures.more)

pub returns : goal.returns
returns g c = drawing_end (g.R.AllocationRule.shares c.args.rule.now) c.args.taker c.args.instrument c.args.quantity.0 (vec_items c.args.self.now.orders.inner.orders) c.args.told.now c.loop-left.left (vec_items c.loop-left.self.orders.inner.orders) c.loop-left.told c.loop-left.invariant (omega (arith, c.loop-left-test.false))
