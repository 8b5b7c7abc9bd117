use Rattle.std.proofs.Common.{◌≡◌, ◌<◌, ◌≤◌, [], ◌∷◌, ◌++◌, length, get_or, sym, ap, ◌∙◌, subst, arith}
use Rattle.std.proofs.lemmas.Bool.{cond-true, cond-false}
use Rattle.arrayvec.specs.ArrayVec.{array_vec_len}
use Rattle.rules.specs.Domain.{total}
use Rattle.market.specs.Orders.{quantity_of}
use Rattle.book.specs.declared.scratch.Scratch.{Scratch}
use Rattle.book.specs.Bounds.{Small}
use Rattle.book.proofs.Levels.{no_order, read_more, total_push}
use Rattle.book.proofs.level.read_level.Goals as goal
use Rattle.book.proofs.level.read_level.Goals.{then-holds, else-holds}

pub loop-i-preserved : goal.loop-i-preserved
loop-i-preserved c =
    let os = c.as_slice-orders.result.now in
    let k = c.loop-i.i in
    let lt : k < length os = omega arith in
    let q : quantity_of (get_or os k no_order) ≤ 10000 = subst Small (sym c.as_slice-orders.ensures) c.args.orders.now.small k no_order lt in
    let qs = c.loop-i.scratch.quantities.items in
    let more = read_more c.args.place.book c.args.place.side c.args.place.price os k no_order qs in
    elim c.if-holds.branch [
      | then-holds w ↦
          let it : c.if-holds.scratch.quantities.items ≡ qs ++ quantity_of (get_or os k no_order) ∷ [] = ap (λ (s : Scratch). s.quantities.items) w.scratch-is ∙ w.push.ensures.items ∙ ap (λ n. qs ++ n ∷ []) w.lot_size-quantity.ensures in
          let l = ap (λ (s : Scratch). array_vec_len s.quantities) w.scratch-is in (
            w.total-is ∙ omega (arith, c.loop-i.invariant.0, w.lot_size-quantity.ensures, total_push qs (quantity_of (get_or os k no_order)), ap total it),
            more _ lt c.loop-i.invariant.1 (it ∙ sym (cond-true _ _ _ (sym w.if-holds.ensures))),
            omega arith,
            omega (arith, w.lot_size-quantity.ensures),
          )
      | else-holds w ↦
          let it = ap (λ (s : Scratch). s.quantities.items) w.scratch-is in
          let l = ap (λ (s : Scratch). array_vec_len s.quantities) w.scratch-is in (
            w.total-is ∙ c.loop-i.invariant.0 ∙ sym (ap total it),
            more _ lt c.loop-i.invariant.1 (it ∙ sym (cond-false _ _ _ (sym w.if-holds.ensures))),
            omega arith,
            omega arith,
          )
    ]
