use Rattle.std.proofs.Common.{◌≡◌, ◌<◌, length, get_or, set, vec_items, vec_capacity, sym, ap, ◌∙◌, subst, arith}
use Rattle.std.proofs.lemmas.Option.{MatchOption-at_some}
use Rattle.market.specs.declared.order.Order.{Order}
use Rattle.market.specs.Orders.{less}
use Rattle.market.specs.Rows.{some_rows, share_rows}
use Rattle.market.specs.Levels.{in_level}
use Rattle.book.specs.declared.place.Place.{Place}
use Rattle.book.specs.declared.resting.Resting.{Resting}
use Rattle.book.specs.Facing.{faces}
use Rattle.book.specs.Table.{lent}
use Rattle.book.specs.Reports.{Tells}
use Rattle.book.proofs.Taking.{taking_no, taking_yes}
use Rattle.book.proofs.resting.Resting.take_shares.Goals as goal
use Rattle.book.proofs.resting.Resting.take_shares.Goals.{then-holds, else-holds}

pub loop-i-preserved : goal.loop-i-preserved
loop-i-preserved c =
    let fill = c.args.fill.now in
    let os₀ = vec_items c.args.self.now.orders in
    let os = vec_items c.loop-i.self.orders in
    let ks = c.args.shares.now in
    let ls = c.loop-i.left.rest.now in
    let k = c.loop-i.i in
    let o = c.index.result.now in
    let lt : k < length os = omega arith in
    let is : faces fill (get_or os k o) ≡ c.holds.result = sym (c.holds.ensures ∙ ap (λ (p : Place). in_level p.book p.side p.price o) c.place-place.ensures ∙ ap (faces fill) c.index.ensures) in
    elim c.if-holds.branch [
      | then-holds w ↦
          let x = w.unwrap-taken.result.now in
          let here = get_or os k o in
          let it : vec_items c.if-holds.self.orders ≡ set os k (less here x) = ap (λ (b : Resting). vec_items b.orders) w.self-is ∙ w.reduce.ensures.orders o in
          let new : Tells c.loop-i.told (some_rows x (share_rows fill.number fill.taker (lent fill.legs) here x)) w.push_share.new.self =
          subst (λ (y : Order). Tells c.loop-i.told (some_rows x (share_rows fill.number fill.taker (lent fill.legs) y x)) w.push_share.new.self) c.index.ensures w.push_share.ensures in (
            rw (it, w.left-is, w.told-is) (taking_yes fill os₀ os ks c.args.told.now c.loop-i.told k ls o lt c.loop-i.invariant.0 (is ∙ w.if-holds.true) x w.next.new.self.rest.now (MatchOption-at_some _ _ w.unwrap-taken.result w.unwrap-taken.ensures w.next.ensures.steps) w.push_share.new.self new),
            ap (λ (b : Resting). vec_capacity b.orders) w.self-is ∙ w.reduce.ensures.capacity ∙ c.loop-i.invariant.1,
          )
      | else-holds w ↦ (
        rw (w.self-is, w.left-is, w.told-is) (taking_no fill os₀ os ks c.args.told.now c.loop-i.told k ls o lt c.loop-i.invariant.0 (is ∙ w.if-holds.false)),
        ap (λ (b : Resting). vec_capacity b.orders) w.self-is ∙ c.loop-i.invariant.1,
      )
    ]
