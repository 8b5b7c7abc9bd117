-- Worked figures, as one statement.
use Rattle.std.specs.Prelude.{◌≡◌, ℕ, true, false, [], ◌∷◌, List, ℤ, pos, neg_ℤ, Some, Option}
use Rattle.std.specs.Option.{option_map}
use Rattle.rules.specs.PriceTime.{price_time}
use Rattle.rules.specs.ProRata.{pro_rata}
use Rattle.market.specs.declared.call.Call.TheVariants.{Define}
use Rattle.market.specs.declared.leg.Leg.{Leg}
use Rattle.market.specs.declared.order.Lot.TheVariants.{Outright}
use Rattle.market.specs.declared.order.Order.{Order}
use Rattle.market.specs.declared.phase.Phase.TheVariants.{Continuous}
use Rattle.market.specs.declared.product.Product.{Product}
use Rattle.market.specs.declared.product.Product.TheVariants.{Futures, Options}
use Rattle.market.specs.declared.refusal.Layer.TheVariants.{Gate}
use Rattle.market.specs.declared.refusal.RefusalCode.{RefusalCode}
use Rattle.market.specs.declared.side.Side.{Side}
use Rattle.market.specs.declared.side.Side.TheVariants.{Buy, Sell}
use Rattle.market.specs.Combinations.{normal, turns}
use Rattle.market.specs.Ladders.{unit_net}
use Rattle.market.specs.Legs.{legs_named}
use Rattle.market.specs.Refusals.{refusal_code, told}
use Rattle.market.specs.Venues.{View, fault}

-- legs in the instruments 1 and 2 with these ratios
abbrev pub pair : ℤ → ℤ → List Leg
pair a b = record { instrument = 1; ratio = a } ∷ record { instrument = 2; ratio = b } ∷ []

-- a venue of two instruments in Continuous
abbrev pub open_pair : Product → View
open_pair product = record { product = product; phase = Continuous; bands = record { low = 1; high = 9 } ∷ record { low = 1; high = 9 } ∷ []; combinations = []; book = record { orders = []; next = 1 } }

-- how a request for these legs is refused there
abbrev pub refused_pair : Product → List Leg → Option RefusalCode
refused_pair product legs = option_map refusal_code (fault (open_pair product) (Define 7 (legs_named legs)))

-- one contract of an instrument rests at a price
abbrev pub one_contract : ℕ → Side → ℕ → Order
one_contract i s p = record { number = 1; participant = 1; side = s; price = record { 0 = pos p }; lot = Outright i (record { 0 = 1 }); quote = false }

-- what the two rules give in these cases, what becomes of these ratios, and what a unit nets
abbrev pub FiguresStand : Type 0
FiguresStand =
    -- give 7 of 5, 3, 2
    (pro_rata (5 ∷ 3 ∷ 2 ∷ []) 7 ≡ 4 ∷ 2 ∷ 1 ∷ [])
    × (price_time (5 ∷ 3 ∷ 2 ∷ []) 7 ≡ 5 ∷ 2 ∷ 0 ∷ [])
    -- give 2 of 1, 1, 1
    × (pro_rata (1 ∷ 1 ∷ 1 ∷ []) 2 ≡ 1 ∷ 1 ∷ 0 ∷ [])
    × (price_time (1 ∷ 1 ∷ 1 ∷ []) 2 ≡ 1 ∷ 1 ∷ 0 ∷ [])
    -- give 12 of 5, 3, 2: more than there is
    × (pro_rata (5 ∷ 3 ∷ 2 ∷ []) 12 ≡ 5 ∷ 3 ∷ 2 ∷ [])
    × (price_time (5 ∷ 3 ∷ 2 ∷ []) 12 ≡ 5 ∷ 3 ∷ 2 ∷ [])
    -- ratios -2, 4 become 1, -2, turned
    × (normal (pair (neg_ℤ (pos 2)) (pos 4)) ≡ pair (pos 1) (neg_ℤ (pos 2)))
    × (turns (pair (neg_ℤ (pos 2)) (pos 4)) ≡ true)
    -- 10, -40 become 1, -4, not turned
    × (normal (pair (pos 10) (neg_ℤ (pos 40))) ≡ pair (pos 1) (neg_ℤ (pos 4)))
    × (turns (pair (pos 10) (neg_ℤ (pos 40))) ≡ false)
    -- 2, -10 is refused with 11 at the field 6
    × (refused_pair Futures (pair (pos 2) (neg_ℤ (pos 10))) ≡ Some (told 11 Gate 6))
    × (refused_pair Options (pair (pos 2) (neg_ℤ (pos 10))) ≡ Some (told 11 Gate 6))
    -- 11, -12 with 11 at the field 5
    × (refused_pair Futures (pair (pos 11) (neg_ℤ (pos 12))) ≡ Some (told 11 Gate 5))
    × (refused_pair Options (pair (pos 11) (neg_ℤ (pos 12))) ≡ Some (told 11 Gate 5))
    -- ratios 2, -1, offers of one contract at 10 and one at 11, and a bid at 5: unit 1 nets 16 to a buyer
    × (unit_net (Some (pair (pos 2) (neg_ℤ (pos 1)))) Buy (one_contract 1 Sell 10 ∷ one_contract 1 Sell 11 ∷ one_contract 2 Buy 5 ∷ []) 1 ≡ Some (pos 16))
