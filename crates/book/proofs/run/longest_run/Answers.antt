use Rattle.std.proofs.Common.{arith, refl, sym, ap, ◌∙◌}
use Rattle.std.proofs.lemmas.List.{length-map}
use Rattle.market.specs.Ladders.{wanted}
use Rattle.book.specs.Held.{held}
use Rattle.book.proofs.UnitReading.{all_ahead}
use Rattle.book.proofs.Runs.{run_start, run_more, run_ended}
use Rattle.book.proofs.run.longest_run.Goals as goal

pub loop-run-init : goal.loop-run-init
loop-run-init c = (refl, run_start _ _ _ _ _ refl refl (all_ahead c.args.side (held c.args.orders.now) c.args.legs.now 10 c.requires.legs.few))

pub loop-run-preserved : goal.loop-run-preserved
loop-run-preserved c =
    let good = sym c.holds.ensures ∙ c.if-holds.true in
    (omega arith, run_more _ _ _ _ _ c.loop-run.invariant.1 c.in-Some.net _ c.with-run.result (rw length-map c.requires.legs.few) c.loop-run-test.true c.in-Some.ensures good c.with-run.ensures.units c.with-run.ensures.net)

pub returns-in_default-clause-run : goal.returns-in_default-clause-run
returns-in_default-clause-run c =
    let bad = sym c.holds.ensures ∙ c.if-holds.false in
    run_ended _ _ _ _ _ c.loop-run.invariant.1 (ap (wanted c.args.side c.args.wish.limit c.args.wish.level) c.in-Some.ensures.0 ∙ bad)

pub returns-in_default-2-clause-run : goal.returns-in_default-2-clause-run
returns-in_default-2-clause-run c = run_ended _ _ _ _ _ c.loop-run.invariant.1 (ap (wanted c.args.side c.args.wish.limit c.args.wish.level) c.in_default.ensures)
