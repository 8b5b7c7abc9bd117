-- Books, sides and prices: which are the same, who buys and who sells, and which price is as good as which.
use Rattle.std.proofs.Common.{◌≡◌, ℕ, true, false, ◌⊎◌, inl, inr, sym, refl, ap, arith}
use Rattle.std.proofs.lemmas.Bool.{eqb-true, eq-eqb, true≢false}
use Rattle.std.proofs.lemmas.Int.{ints}
use Rattle.market.specs.declared.book_id.BookId.{BookId}
use Rattle.market.specs.declared.book_id.BookId.TheVariants.{Instrument, Combination}
use Rattle.market.specs.declared.price.Price.{Price}
use Rattle.market.specs.declared.side.Side.{Side}
use Rattle.market.specs.declared.side.Side.TheVariants.{Buy, Sell}
use Rattle.market.specs.Orders.{same_book}
use Rattle.market.specs.Prices.{opposite, good, same_side, same_price, as_price}
use Rattle.market.specs.Rows.{buyer_of}

-- ---- books

-- books that the test takes for one are one
pub same_book_is : (a b : BookId) → same_book a b ≡ true → a ≡ b
same_book_is (Instrument i) (Instrument j) h = ap Instrument (eqb-true i j h)
same_book_is (Instrument i) (Combination j) h = absurd (true≢false (sym h))
same_book_is (Combination i) (Instrument j) h = absurd (true≢false (sym h))
same_book_is (Combination i) (Combination j) h = ap Combination (eqb-true i j h)

pub same_book_refl : (b : BookId) → same_book b b ≡ true
same_book_refl (Instrument i) = eq-eqb i i refl
same_book_refl (Combination c) = eq-eqb c c refl

-- ---- sides

pub same_side_is : (s t : Side) → same_side s t ≡ true → s ≡ t
same_side_is Buy Buy h = refl
same_side_is Buy Sell h = absurd (cc)
same_side_is Sell Buy h = absurd (cc)
same_side_is Sell Sell h = refl

pub opposite_twice : (s : Side) → opposite (opposite s) ≡ s
opposite_twice Buy = refl
opposite_twice Sell = refl

-- of two orders on opposite sides, one is the buyer and one the seller
pub both_named : (P : Side → ℕ → Type 0) (s : Side) (m n : ℕ) → P s m → P (opposite s) n → P Buy (buyer_of s m n) × P Sell (buyer_of (opposite s) m n)
both_named P Buy m n own other = (own, other)
both_named P Sell m n own other = (other, own)

-- one order alone is the buyer or the seller
pub alone_named : (P : Side → ℕ → Type 0) (s : Side) (n : ℕ) → P s n → (P Buy (buyer_of s n 0) × (buyer_of (opposite s) n 0 ≡ 0)) ⊎ ((buyer_of s n 0 ≡ 0) × P Sell (buyer_of (opposite s) n 0))
alone_named P Buy n own = inl (own, refl)
alone_named P Sell n own = inr (refl, own)

-- ---- prices, as a side sees them

pub same_price_is : (p q : Price) → same_price p q ≡ true → p ≡ q
same_price_is p q h = let e : p.0 ≡ q.0 = grind (arith, ints) in ap as_price e

pub good_refl : (s : Side) (p : Price) → good s p p ≡ true
good_refl Buy p = grind (arith, ints)
good_refl Sell p = grind (arith, ints)

pub good_trans : (s : Side) (p q r : Price) → good s p q ≡ true → good s q r ≡ true → good s p r ≡ true
good_trans Buy p q r h k = grind (arith, ints)
good_trans Sell p q r h k = grind (arith, ints)

pub good_total : (s : Side) (p q : Price) → good s p q ≡ false → good s q p ≡ true
good_total Buy p q h = grind (arith, ints)
good_total Sell p q h = grind (arith, ints)

-- of prices none of which is better than p, those that are as good are p
pub same_as_good : (s : Side) (p q : Price) → good s p q ≡ true → same_price q p ≡ good s q p
same_as_good Buy p q h = grind (arith, ints)
same_as_good Sell p q h = grind (arith, ints)
