-- The run of units, read unit after unit.
use Rattle.std.proofs.Common.{◌≡◌, ℕ, ◌+◌, ◌*◌, ◌<◌, ◌≤◌, Bool, true, false, List, map, length, Some, Option, sym, refl, ap, ◌∙◌, inl, inr, arith, add-one}
use Rattle.std.specs.Prelude.{ℤ, pos, ◌+ℤ◌}
use Rattle.std.proofs.lemmas.Int.{ints}
use Rattle.std.proofs.lemmas.Bool.{cases_lt}
use Rattle.std.proofs.lemmas.List.{length-map}
use Rattle.market.specs.declared.leg.Leg.{Leg}
use Rattle.market.specs.declared.price.Amount.{Amount}
use Rattle.market.specs.Ladders.{net, LongestRun, amount}
use Rattle.book.specs.declared.run.Run.{Run}
use Rattle.book.specs.Reading.{Near}
use Rattle.book.specs.Units.{after_units, NextUnit}
use Rattle.book.proofs.UnitReading.{after_none, all_after_more, net_after}

module _ (want : Option ℤ → Bool) (ls : List (Leg × List ℤ)) (q : ℕ) where
  -- each unit of the run is wanted, and the rest of the lists is to come
  pub record RunRead (run : Run) (rest : List (Leg × List ℤ)) : Type 0 where
    pub upto : run.units.0 ≤ q
    pub each : (v : ℕ) → 1 ≤ v → v ≤ run.units.0 → want (net ls v) ≡ true
    pub summed : amount (net ls) run.units.0 ≡ Some run.net.0
    pub onward : rest ≡ map (after_units run.units.0) ls
    pub near : Near (214748364800 * run.units.0) run.net.0

  pub run_start : (run : Run) (rest : List (Leg × List ℤ)) → run.units.0 ≡ 0 → run.net.0 ≡ pos 0 → rest ≡ ls → RunRead run rest
  run_start run rest none nothing all = record {
    upto = omega arith;
    each = λ v low high. absurd (omega arith);
    summed = rw (none, nothing) refl;
    onward = rw none (all ∙ sym (after_none ls));
    near = record { high = omega (arith, ints, nothing); low = omega (arith, ints, nothing) };
  }

  module _ (run : Run) (rest : List (Leg × List ℤ)) (read : RunRead run rest) where
    -- the next unit's net is that of the rest's first
    next_is : net ls (run.units.0 + 1) ≡ net rest 1
    next_is = sym (net_after ls run.units.0) ∙ ap (λ zs. net zs 1) (sym read.onward)

    pub run_more : (a : Amount) (after : List (Leg × List ℤ)) (run' : Run) → length ls ≤ 10 → run.units.0 < q → NextUnit rest (Some a) after → want (Some a.0) ≡ true
        → run'.units.0 ≡ run.units.0 + 1 → run'.net.0 ≡ run.net.0 +ℤ a.0 → RunRead run' after
    run_more a after run' few more next good one_more sum = record {
      upto = omega arith;
      each = λ v low high. here v low (omega arith);
      summed = rw (one_more, add-one) (rw (read.summed, ← add-one, next_is, next.0) (ap Some (sym sum)));
      onward = next.1 ∙ ap (map (after_units 1)) read.onward ∙ all_after_more ls run.units.0 ∙ ap (λ u. map (after_units u) ls) (sym one_more);
      near = record { high = omega (arith, ints, read.near.high, next.2.high, long, one_more, sum); low = omega (arith, ints, read.near.low, next.2.low, long, one_more, sum) };
    }
      where
        long : length rest ≤ 10
        long = omega (arith, ap length read.onward, length-map ls (after_units run.units.0))

        last : want (net ls (run.units.0 + 1)) ≡ true
        last = ap want (next_is ∙ next.0) ∙ good

        here : (v : ℕ) → 1 ≤ v → v ≤ run.units.0 + 1 → want (net ls v) ≡ true
        here v low high = elim (cases_lt run.units.0 v) [ inl lt ↦ ap (λ u. want (net ls u)) (omega arith) ∙ last | inr le ↦ read.each v low le ]

    pub run_ended : want (net rest 1) ≡ false → LongestRun want (net ls) q run.units.0
    run_ended bad = record { upto = read.upto; each = read.each; ends = inr (ap want next_is ∙ bad) }
