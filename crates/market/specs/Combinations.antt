-- Combinations: their legs, the form that every one of them has, and what is refused of a request for one.
use Rattle.std.specs.Prelude.{◌≡◌, ℕ, zero, suc, ◌+◌, ◌-◌, ◌*◌, ◌/◌, ◌%◌, ◌<◌, ◌≤◌, Bool, true, false, cond, not, ◌&&◌, List, [], ◌∷◌, map, length, ℤ, pos, neg_ℤ, Some, None, Option, ◌==◌, nat_lt, nat_le, int_lt, unsigned_abs, slice_get}
use Rattle.std.specs.Int.{◌∣◌}
use Rattle.std.specs.Cmp.Lexicographic.{pointwise}
use Rattle.std.specs.Ordering.{int_eq}
use Rattle.std.specs.List.{All, list_all, list_any}
use Rattle.market.specs.declared.leg.Leg.{Leg}
use Rattle.market.specs.declared.product.Band.{Band}
use Rattle.market.specs.declared.product.Product.{Product}
use Rattle.market.specs.declared.product.Product.TheVariants.{Futures, Options}
use Rattle.market.specs.Orders.{is_instrument}
use Rattle.market.specs.Tables.{unless, topmost, first_broken}

-- ---- ratios

-- the size of a leg's ratio, without its sign
abbrev pub size : Leg → ℕ
size l = unsigned_abs l.ratio

-- the combination's buyer sells this leg
abbrev pub is_minus : Leg → Bool
is_minus l = int_lt l.ratio (pos 0)

-- the number divides every ratio
abbrev pub divides_all : ℕ → List Leg → Bool
divides_all d legs = list_all (λ l. size l % d == 0) legs

-- the greatest number, of those up to n, that divides every ratio
abbrev pub greatest_up_to : ℕ → List Leg → ℕ
greatest_up_to zero legs = 0
greatest_up_to (suc n) legs = cond (divides_all (suc n) legs) (suc n) (greatest_up_to n legs)

-- the greatest common divisor of the ratios
abbrev pub divisor : List Leg → ℕ
divisor [] = 0
divisor (l ∷ legs) = greatest_up_to (size l) (l ∷ legs)

-- all signs turn if the first ratio is minus
abbrev pub turns : List Leg → Bool
turns [] = false
turns (l ∷ legs) = is_minus l

-- the ratio of this size that is minus, or that is plus
abbrev pub ratio_of : Bool → ℕ → ℤ
ratio_of minus n = cond minus (neg_ℤ (pos n)) (pos n)

-- the sizes of the ratios after division by their greatest common divisor
abbrev pub parts : List Leg → List ℕ
parts legs = map (λ l. size l / divisor legs) legs

-- the leg with its ratio divided, and the sign turned or not
abbrev pub reduced_leg : ℕ → Bool → Leg → Leg
reduced_leg d turn l = record { instrument = l.instrument; ratio = ratio_of (cond turn (not (is_minus l)) (is_minus l)) (size l / d) }

-- the normal form: the ratios are divided by their greatest common divisor, and then all signs turn if the first is minus
abbrev pub normal : List Leg → List Leg
normal legs = map (reduced_leg (divisor legs) (turns legs)) legs

-- ---- what is refused

-- there are 2 to 10 legs, for futures exactly 2
abbrev pub count_fits : Product → ℕ → Bool
count_fits Futures k = k == 2
count_fits Options k = nat_le 2 k && nat_le k 10

-- each leg with the one after it
abbrev pub neighbours : List Leg → List (Leg × Leg)
neighbours [] = []
neighbours (l ∷ []) = []
neighbours (l ∷ m ∷ legs) = (l, m) ∷ neighbours (m ∷ legs)

-- the second instrument is above the first
abbrev pub rises : Leg × Leg → Bool
rises (l, m) = nat_lt l.instrument m.instrument

-- the ratio is not 0
abbrev pub is_nonzero : Leg → Bool
is_nonzero l = nat_lt 0 (size l)

-- the size is at most 10
abbrev pub small : ℕ → Bool
small n = nat_le n 10

-- the size is at most four times the smallest: at most four times each
abbrev pub near : List ℕ → ℕ → Bool
near sizes n = list_all (λ m. nat_le n (4 * m)) sizes

-- for futures one ratio is plus and one minus
abbrev pub signs_fit : Product → List Leg → Bool
signs_fit Futures legs = list_any (λ l. not (is_minus l)) legs && list_any is_minus legs
signs_fit Options legs = true

-- the field at fault in a request of legs whose instruments exist: k stands in the field 2, the k instruments from 3 on, and the k ratios behind them
abbrev pub broken_leg : Product → List Leg → Option ℕ
broken_leg product legs = topmost (
    unless (count_fits product (length legs)) 2
    ∷ first_broken rises (neighbours legs) 4
    ∷ first_broken is_nonzero legs (3 + length legs)
    ∷ first_broken small (parts legs) (3 + length legs)
    ∷ first_broken (near (parts legs)) (parts legs) (3 + length legs)
    ∷ unless (signs_fit product legs) 6
    ∷ [])

-- ---- the combinations of a venue

-- the legs of the combination of a number, where it exists: the first made has the number 1001, and so on
abbrev pub made : List (List Leg) → ℕ → Option (List Leg)
made cs c = cond (is_instrument c) None (slice_get cs (c - 1001))

-- there is such a combination
abbrev pub exists : List (List Leg) → ℕ → Bool
exists cs c = nat_le 1001 c && nat_lt c (1001 + length cs)

-- one and the same leg
abbrev pub same_leg : Leg → Leg → Bool
same_leg l m = l.instrument == m.instrument && int_eq l.ratio m.ratio

-- one and the same legs: as many, and each the same
abbrev pub same_legs : List Leg → List Leg → Bool
same_legs ls ms = pointwise same_leg ls ms

-- no combination has these legs
abbrev pub NoneMade : List (List Leg) → List Leg → Type 0
NoneMade cs legs = (c : ℕ) → made cs c ≡ Some legs → ⊥

-- c is the first combination with these legs
pub record FirstMade (cs : List (List Leg)) (legs : List Leg) (c : ℕ) : Type 0 where
  pub there : made cs c ≡ Some legs
  pub first : (b : ℕ) → b < c → made cs b ≡ Some legs → ⊥

-- ---- what always holds

-- of two legs next to each other the second has the higher instrument
abbrev pub Rising : List Leg → Type 0
Rising legs = All (λ (l, m). l.instrument < m.instrument) (neighbours legs)

-- legs in the form that every combination has
pub record Normal (legs : List Leg) : Type 0 where
  pub least : 2 ≤ length legs
  pub most : length legs ≤ 10
  pub rising : Rising legs
  pub plus : turns legs ≡ false
  pub none_zero : All (λ l. 1 ≤ size l) legs
  pub small : All (λ l. size l ≤ 10) legs
  pub near : All (λ l. All (λ m. size l ≤ 4 * size m) legs) legs
  pub undivided : (d : ℕ) → All (λ l. d ∣ size l) legs → d ≡ 1

-- two legs, the first plus and the second minus
pub record Spread (legs : List Leg) : Type 0 where
  pub bought : Leg
  pub sold : Leg
  pub two : legs ≡ bought ∷ sold ∷ []
  pub plus : is_minus bought ≡ false
  pub minus : is_minus sold ≡ true

-- the instrument of each leg exists: they are numbered from 1, and have a band each
abbrev pub Listed : List Band → List Leg → Type 0
Listed bands legs = All (λ l. (1 ≤ l.instrument) × (l.instrument ≤ length bands)) legs

-- what holds of the combinations of every venue: each has the normal form, and legs in instruments that exist; for futures each has two legs with two signs; no two are equal; there are at most 32
pub record SoundTable (product : Product) (bands : List Band) (cs : List (List Leg)) : Type 0 where
  pub normal : All Normal cs
  pub listed : All (Listed bands) cs
  pub spreads : product ≡ Futures → All Spread cs
  pub distinct : (b c : ℕ) (legs : List Leg) → made cs b ≡ Some legs → made cs c ≡ Some legs → b ≡ c
  pub few : length cs ≤ 32
