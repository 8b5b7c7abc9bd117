-- The normal form of legs, however many.
use Rattle.std.specs.Prelude.{◌≡◌, ℕ, ◌≤◌, false, List, map, length, ◌*ℤ◌}
use Rattle.std.specs.Int.{◌∣◌}
use Rattle.std.specs.List.{All}
use Rattle.market.specs.declared.leg.Leg.{Leg}
use Rattle.market.specs.Combinations.{size, divisor, turns, ratio_of, normal}

-- what the division and the turning of ratios come to
pub record Reduces (legs : List Leg) : Type 0 where
  -- the divisor divides every ratio, and whatever divides every ratio divides it
  pub common : All (λ l. divisor legs ∣ size l) legs
  pub greatest : (d : ℕ) → All (λ l. d ∣ size l) legs → d ∣ divisor legs
  -- the legs keep their instruments, and each ratio is that of the normal form times the divisor, or times minus the divisor if all signs turn
  pub instruments : map (λ l. l.instrument) legs ≡ map (λ l. l.instrument) (normal legs)
  pub ratios : map (λ l. l.ratio) legs ≡ map (λ l. ratio_of (turns legs) (divisor legs) *ℤ l.ratio) (normal legs)
  -- the normal form has no common divisor above 1, its first ratio is plus, and it is its own normal form
  pub undivided : (d : ℕ) → All (λ l. d ∣ size l) (normal legs) → d ≡ 1
  pub plus : turns (normal legs) ≡ false
  pub settled : normal (normal legs) ≡ normal legs

-- so it is with any legs of which none has the ratio 0
abbrev pub EveryNormalForm : Type 0
EveryNormalForm = (legs : List Leg) → 1 ≤ length legs → All (λ l. 1 ≤ size l) legs → Reduces legs
