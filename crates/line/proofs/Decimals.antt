-- Bounds of the value of digits.
use Rattle.std.proofs.Common.{ℕ, ◌^◌, ◌<◌, ◌≤◌, arith}
use native.Mathlib.Nat.{pow-le-pow_right}

pub below : (n i : ℕ) → n < 10 ^ i → i ≤ 9 → n < 1000000000
below n i h k = let p : 10 ^ i ≤ 10 ^ 9 = pow-le-pow_right (omega arith) k in omega arith

-- room for one more digit
pub room : (n i : ℕ) → n < 10 ^ i → i < 9 → n < 100000000
room n i h l = let k : i ≤ 8 = omega arith in let p : 10 ^ i ≤ 10 ^ 8 = pow-le-pow_right (omega arith) k in omega arith
