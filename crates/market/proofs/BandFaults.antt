-- What the verdict on bands says.
use Rattle.std.proofs.Common.{ℕ, ◌+◌, List, [], ◌∷◌, length, Some, None, Option, refl}
use Rattle.std.specs.Option.{option_map}
use Rattle.market.specs.declared.product.Band.{Band}
use Rattle.market.specs.declared.refusal.Refusal.TheVariants as refusal
use Rattle.market.specs.Bands.{low_fits, high_fits, in_order, broken_band, build_fault, Broken, low, high, crossed, SoundBands, BandsJudged}
use Rattle.market.specs.Tables.{topmost}
use Rattle.market.proofs.Tables.{Tested, tested}

-- what is found of the bands
abbrev Found : List Band → Option ℕ → Type 0
Found bands None = SoundBands bands
Found bands (Some p) = Broken bands p

found : (bands : List Band) (a b c : Option ℕ) → Tested low_fits bands 2 a → Tested high_fits bands (2 + length bands) b → Tested in_order bands 2 c → Found bands (topmost (a ∷ b ∷ c ∷ []))
found bands (Some p) b c x y z = low x
found bands None (Some p) c x y z = high x y
found bands None None (Some p) x y z = crossed x y z
found bands None None None x y z = record { lows = x; highs = y; ordered = z }

refuses : (bands : List Band) (o : Option ℕ) → Found bands o → BandsJudged bands (option_map refusal.Band o)
refuses bands None h = h
refuses bands (Some p) h = record { field = p; broken = h; names = refl }

pub bands_judged : (bands : List Band) → BandsJudged bands (build_fault bands)
bands_judged bands = refuses bands (broken_band bands) (found bands _ _ _ (tested low_fits bands 2) (tested high_fits bands (2 + length bands)) (tested in_order bands 2))
