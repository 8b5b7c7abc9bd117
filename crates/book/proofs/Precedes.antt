-- The order in which the round takes orders is a strict weak order.
use Rattle.std.proofs.Common.{◌≡◌, ℕ, Bool, true, false, ◌&&◌, arith}
use Rattle.std.specs.Prelude.{◌||◌, nat_lt, ◌==◌}
use Rattle.std.proofs.lemmas.Bool.Decides.{nat_tests}
use Rattle.std.proofs.lemmas.Int.{ints}
use Rattle.market.specs.declared.order.Order.{Order}
use Rattle.market.specs.declared.price.Price.{Price}
use Rattle.market.specs.declared.side.Side.{Side}
use Rattle.market.specs.declared.side.Side.TheVariants.{Buy, Sell}
use Rattle.market.specs.Orders.{lot_book, book_number}
use Rattle.market.specs.Round.{side_first, precedes}

side_chain : (s t u : Side) (p q r : Price) → side_first s t p q ≡ true → side_first t u q r ≡ true → side_first s u p r ≡ true
side_chain Buy Buy Buy p q r h k = grind (arith, ints)
side_chain Buy Buy Sell p q r h k = grind (arith, ints)
side_chain Buy Sell Buy p q r h k = absurd (grind arith)
side_chain Buy Sell Sell p q r h k = grind (arith, ints)
side_chain Sell Buy u p q r h k = absurd (grind arith)
side_chain Sell Sell Buy p q r h k = absurd (grind arith)
side_chain Sell Sell Sell p q r h k = grind (arith, ints)

side_past : (s t u : Side) (p q r : Price) → side_first s t p q ≡ true → side_first u t r q ≡ false → side_first s u p r ≡ true
side_past Buy Buy Buy p q r h k = grind (arith, ints)
side_past Buy Buy Sell p q r h k = grind (arith, ints)
side_past Buy Sell Buy p q r h k = absurd (grind arith)
side_past Buy Sell Sell p q r h k = grind (arith, ints)
side_past Sell Buy u p q r h k = absurd (grind arith)
side_past Sell Sell Buy p q r h k = absurd (grind arith)
side_past Sell Sell Sell p q r h k = grind (arith, ints)

-- by number, then by a test
abbrev ranks : ℕ → ℕ → Bool → Bool
ranks c d t = nat_lt c d || (c == d && t)

rank_chain : (c d e : ℕ) (t u v : Bool) → (t ≡ true → u ≡ true → v ≡ true) → ranks c d t ≡ true → ranks d e u ≡ true → ranks c e v ≡ true
rank_chain c d e t u v f h k = grind (arith, nat_tests)

rank_past : (c d e : ℕ) (t u v : Bool) → (t ≡ true → u ≡ false → v ≡ true) → ranks c d t ≡ true → ranks e d u ≡ false → ranks c e v ≡ true
rank_past c d e t u v f h k = grind (arith, nat_tests)

abbrev number : Order → ℕ
number o = book_number (lot_book o.lot)

pub precedes_chain : (x y z : Order) → precedes x y ≡ true → precedes y z ≡ true → precedes x z ≡ true
precedes_chain x y z h k = rank_chain (number x) (number y) (number z) _ _ _ (side_chain x.side y.side z.side x.price y.price z.price) h k

-- what goes before y goes before all that does not
pub precedes_past : (x y z : Order) → precedes x y ≡ true → precedes z y ≡ false → precedes x z ≡ true
precedes_past x y z h k = rank_past (number x) (number y) (number z) _ _ _ (side_past x.side y.side z.side x.price y.price z.price) h k
