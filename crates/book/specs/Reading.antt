-- Ladders as they are read: level after level, contract by contract.
use Rattle.std.specs.Prelude.{◌≡◌, ℕ, ◌*◌, ◌<◌, ◌≤◌, Bool, true, not, ◌&&◌, List, [], ◌++◌, length, take, drop, replicate, filter, ℤ, pos, neg_ℤ, ◌≤ℤ◌, Some, None, Option}
use Rattle.market.specs.declared.book_id.BookId.{BookId}
use Rattle.market.specs.declared.order.Order.{Order}
use Rattle.market.specs.declared.price.Amount.{Amount}
use Rattle.market.specs.declared.side.Side.{Side}
use Rattle.market.specs.Ladders.{contracts, ranked, sum_of}
use Rattle.market.specs.Orders.{stands}
use Rattle.market.specs.Prices.{opposite, good}
use Rattle.book.specs.declared.rung.Rung.{Rung}

-- the order is in no level that was read, up to the one that is being read: its price is strictly worse to one who trades on side s
abbrev pub beyond : Side → Option Rung → Order → Bool
beyond s None o = true
beyond s (Some r) o = not (good s o.price r.price)

-- such an order, standing in the ladder
abbrev pub awaits : BookId → Side → Option Rung → Order → Bool
awaits b s r o = stands b (opposite s) o && beyond s r o

-- the contracts of the levels beyond the one that is being read
abbrev pub levels_beyond : BookId → Side → List Order → Option Rung → List ℤ
levels_beyond b s os r = contracts (ranked s (filter (awaits b s r) os))

-- what is left of the level that is being read
abbrev pub level_left : Option Rung → List ℤ
level_left None = []
level_left (Some r) = replicate r.left r.price.0

-- what is still to come of a ladder
abbrev pub to_come : BookId → Side → List Order → Option Rung → List ℤ
to_come b s os r = level_left r ++ levels_beyond b s os r

-- the next level of which something is to come, or none where nothing is
abbrev pub NextRung : BookId → Side → List Order → List ℤ → Option Rung → Type 0
NextRung b s os zs None = zs ≡ []
NextRung b s os zs (Some r) = (0 < r.left) × (zs ≡ to_come b s os (Some r))

-- z is at most b in size
pub record Near (b : ℕ) (z : ℤ) : Type 0 where
  pub high : z ≤ℤ pos b
  pub low : neg_ℤ (pos b) ≤ℤ z

-- two amounts of this size can be added in 64 bits
abbrev pub Addable : ℤ → Type 0
Addable z = Near 4000000000000000000 z

-- z is in size at most what n prices of 32 bits can come to
abbrev pub Bounded : ℕ → ℤ → Type 0
Bounded n z = Near (2147483648 * n) z

-- the next n contracts of zs, added up, and what is to come after them; or none where there are not so many
abbrev pub NextSum : ℕ → List ℤ → Option Amount → List ℤ → Type 0
NextSum n zs None after = length zs < n
NextSum n zs (Some a) after = (n ≤ length zs) × (a.0 ≡ sum_of (take n zs)) × (after ≡ drop n zs) × Bounded n a.0
