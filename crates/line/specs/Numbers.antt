-- Which fields are numbers and letters, and what they say.
use Rattle.std.specs.Prelude.{ℕ, ◌+◌, ◌-◌, ◌*◌, Bool, false, cond, not, ◌&&◌, ◌||◌, List, [], ◌∷◌, length, drop, ℤ, pos, neg_ℤ, fold, ◌==◌, nat_le, slice_index}
use Rattle.std.specs.List.{list_all}
use Rattle.line.specs.Bytes.{letter, digit, capital}

-- every byte is a digit
abbrev pub digits : List ℕ → Bool
digits bs = list_all digit bs

-- the value of digits, the first the highest
abbrev pub decimal : List ℕ → ℕ
decimal bs = fold (λ n b. n * 10 + (b - letter "0")) 0 bs

-- 0, or up to nine digits without a leading zero
abbrev pub unsigned : List ℕ → Bool
unsigned [] = false
unsigned (b ∷ bs) = (not (b == (letter "0")) || length bs == 0) && (nat_le (length bs) 8 && digits (b ∷ bs))

-- a minus before such a number that is not 0
abbrev pub minus : List ℕ → Bool
minus [] = false
minus (b ∷ bs) = b == (letter "-") && (unsigned bs && not (decimal bs == 0))

-- the value of a number with or without a minus
abbrev pub signed : List ℕ → ℤ
signed f = cond (minus f) (neg_ℤ (pos (decimal (drop 1 f)))) (pos (decimal f))

-- one capital and nothing else
abbrev pub lone_capital : List ℕ → Bool
lone_capital [] = false
lone_capital (b ∷ bs) = capital b && length bs == 0

-- the code of a field's first byte
abbrev pub code : List ℕ → ℕ
code bs = slice_index bs 0
