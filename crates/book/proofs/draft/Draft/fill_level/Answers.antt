use Rattle.std.proofs.Common.{◌≡◌, ℕ, List, vec_items, sym, ◌∙◌, subst}
use Rattle.rules.specs.Domain.{Below, Domain}
use Rattle.market.specs.Levels.{quantities}
use Rattle.market.specs.Fills.{facing, divided}
use Rattle.market.proofs.Asking.{asked, shares_below}
use Rattle.book.proofs.Bounds.{within_bounds, level_read}
use Rattle.book.proofs.draft.Draft.fill_level.Goals as goal

pub divide-requires : goal.divide-requires
divide-requires g c =
    let b = c.args.fill.now.book in
    let s = c.args.fill.now.side in
    let p = c.args.fill.now.price in
    let os = vec_items c.args.self.now.orders.inner.orders in
    let read = c.read_level-level.ensures in
    let is = level_read b s p os c.args.left c.place.result _ _ _ c.place.ensures read.collected read.total c.min-traded.ensures in
    subst (λ (xs : List ℕ). Domain xs c.min-traded.result) (sym is.0) (subst (Domain (quantities (facing b s p os))) (sym is.1) (asked b s p os c.args.left (within_bounds c.args.self.now.orders) c.requires.best))

pub trade-requires-clause-below : goal.trade-requires-clause-below
trade-requires-clause-below g c =
    let b = c.args.fill.now.book in
    let s = c.args.fill.now.side in
    let p = c.args.fill.now.price in
    let os = vec_items c.args.self.now.orders.inner.orders in
    let shares = g.R.AllocationRule.shares c.args.rule.now in
    let read = c.read_level-level.ensures in
    let is = level_read b s p os c.args.left c.place.result _ _ _ c.place.ensures read.collected read.total c.min-traded.ensures in
    let ks : c.as_slice-shares.result.now ≡ divided shares b s p os c.args.left = ◌∙◌ {A = List ℕ} c.as_slice-shares.ensures.value (◌∙◌ {A = List ℕ} c.divide.ensures.shares (λ j. shares (is.0 j) (is.1 j))) in
    subst (λ (xs : List ℕ). Below xs (quantities (facing b s p os))) (sym ks) (shares_below shares (g.met.R.AllocationRule.lawful c.args.rule.now) b s p os c.args.left (within_bounds c.args.self.now.orders) c.requires.best)
