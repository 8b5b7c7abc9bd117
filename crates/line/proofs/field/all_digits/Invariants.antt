use Rattle.std.proofs.Common.{◌≡◌, ◌+◌, ◌-◌, ◌*◌, ◌^◌, ◌<◌, drop, fold}
use Rattle.line.specs.Numbers.{digits, decimal}
use Rattle.line.proofs.field.all_digits.Given as goal

abbrev pub invariant-loop-b : goal.invariant-loop-b
invariant-loop-b l =
    (digits (drop l.b-index l.bytes) ≡ digits l.bytes)
    × (fold (λ n b. n * 10 + (b - 48)) l.n (drop l.b-index l.bytes) ≡ decimal l.bytes)
    × (l.n < 10 ^ l.b-index)
