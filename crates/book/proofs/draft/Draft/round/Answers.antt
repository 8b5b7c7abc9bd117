use Rattle.std.proofs.Common.{Bool, false, List, sym, subst, vec_items, arith}
use Rattle.market.specs.declared.leg.Leg.{Leg}
use Rattle.market.specs.declared.order.Order.{Order}
use Rattle.book.specs.declared.told.Told.{Told}
use Rattle.book.specs.Rounds.{RoundFilled, RoundStepped, Rounded}
use Rattle.book.specs.Table.{table}
use Rattle.book.proofs.Bounds.{within_bounds}
use Rattle.book.proofs.Rounding.{rounding_start, rounding_on, rounding_end}
use Rattle.book.proofs.Totals.{open_small}
use Rattle.book.proofs.draft.Draft.round.Goals as goal

pub loop-fill-init : goal.loop-fill-init
loop-fill-init g c =
    let os : List Order = vec_items c.args.self.now.orders.inner.orders in
    let bounds = within_bounds c.args.self.now.orders in
    rounding_start (g.R.AllocationRule.shares c.args.rule.now) (table c.args.combinations.now) c.args.next_fill os c.args.told.now (omega (arith, open_small os bounds.small, bounds.few, c.requires))

pub loop-fill-preserved : goal.loop-fill-preserved
loop-fill-preserved g c =
    let shares = g.R.AllocationRule.shares c.args.rule.now in
    let cs : List (List Leg) = table c.args.combinations.now in
    let now = c.loop-fill in
    let os : List Order = vec_items now.self.orders.inner.orders in
    let os' : List Order = vec_items c.round_once.new.self.orders.inner.orders in
    let one : RoundFilled shares cs now.fill os now.told os' c.round_once.new.told = subst (λ (b : Bool). RoundStepped shares cs now.fill os now.told b os' c.round_once.new.told) c.loop-fill-test.true c.round_once.ensures in
    rounding_on shares cs c.args.next_fill (vec_items c.args.self.now.orders.inner.orders) c.args.told.now now.fill os now.told os' c.round_once.new.told now.invariant one

pub loop-fill-smaller : goal.loop-fill-smaller
loop-fill-smaller g c =
    let shares = g.R.AllocationRule.shares c.args.rule.now in
    let cs : List (List Leg) = table c.args.combinations.now in
    let now = c.loop-fill in
    let os : List Order = vec_items now.self.orders.inner.orders in
    let os' : List Order = vec_items c.round_once.new.self.orders.inner.orders in
    let one : RoundFilled shares cs now.fill os now.told os' c.round_once.new.told = subst (λ (b : Bool). RoundStepped shares cs now.fill os now.told b os' c.round_once.new.told) c.loop-fill-test.true c.round_once.ensures in
    one.fewer

pub returns : goal.returns
returns g c =
    let shares = g.R.AllocationRule.shares c.args.rule.now in
    let cs : List (List Leg) = table c.args.combinations.now in
    let now = c.loop-fill in
    let os₀ : List Order = vec_items c.args.self.now.orders.inner.orders in
    let os : List Order = vec_items now.self.orders.inner.orders in
    let os' : List Order = vec_items c.round_once.new.self.orders.inner.orders in
    let none : RoundStepped shares cs now.fill os now.told false os' c.round_once.new.told = subst (λ (b : Bool). RoundStepped shares cs now.fill os now.told b os' c.round_once.new.told) c.loop-fill-test.false c.round_once.ensures in
    subst (λ (xs : List Order). Rounded shares cs c.args.next_fill os₀ c.args.told.now xs c.round_once.new.told) (sym none.1)
    (subst (λ (t : Told). Rounded shares cs c.args.next_fill os₀ c.args.told.now os t) (sym none.2)
    (rounding_end shares cs c.args.next_fill os₀ c.args.told.now now.fill os now.told now.invariant none.0))
