-- The price bands of a build line, and what is refused of them.
use Rattle.std.specs.Prelude.{◌≡◌, ℕ, ◌+◌, Bool, List, [], ◌∷◌, length, Some, None, Option, nat_le}
use Rattle.std.specs.List.{AllPass}
use Rattle.std.specs.Option.{option_map}
use Rattle.market.specs.declared.product.Band.{Band}
use Rattle.market.specs.declared.refusal.Refusal.{Refusal}
use Rattle.market.specs.declared.refusal.Refusal.TheVariants as refusal
use Rattle.market.specs.Tables.{topmost, first_broken, FirstFailing}

-- a low is at least 1
abbrev pub low_fits : Band → Bool
low_fits b = nat_le 1 b.low

-- a high is at most 999,999
abbrev pub high_fits : Band → Bool
high_fits b = nat_le b.high 999999

-- a low is not above its high
abbrev pub in_order : Band → Bool
in_order b = nat_le b.low b.high

-- the field of the band at fault: the lows stand from the field 2 on, the highs behind them; every low is tried first, then every high, then each low against its high
abbrev pub broken_band : List Band → Option ℕ
broken_band bands = topmost (
    first_broken low_fits bands 2
    ∷ first_broken high_fits bands (2 + length bands)
    ∷ first_broken in_order bands 2
    ∷ [])

-- the refusal of a build line's bands
abbrev pub build_fault : List Band → Option Refusal
build_fault bands = option_map refusal.Band (broken_band bands)

-- ---- what this says

-- a band is broken, at the field p: a low is under 1; or none is and a high is over 999,999; or neither and a low is above its high
pub data Broken (bands : List Band) (p : ℕ) : Type 0 where
  low : FirstFailing low_fits bands 2 p → Broken bands p
  high : AllPass low_fits bands → FirstFailing high_fits bands (2 + length bands) p → Broken bands p
  crossed : AllPass low_fits bands → AllPass high_fits bands → FirstFailing in_order bands 2 p → Broken bands p

-- the bands are sound: each has 1 ≤ low ≤ high ≤ 999,999
pub record SoundBands (bands : List Band) : Type 0 where
  pub lows : AllPass low_fits bands
  pub highs : AllPass high_fits bands
  pub ordered : AllPass in_order bands

-- a refusal that names the field of a broken band
pub record RefusesBand (bands : List Band) (e : Refusal) : Type 0 where
  pub field : ℕ
  pub broken : Broken bands field
  pub names : e ≡ refusal.Band field

-- what a verdict on bands says
abbrev pub BandsJudged : List Band → Option Refusal → Type 0
BandsJudged bands None = SoundBands bands
BandsJudged bands (Some e) = RefusesBand bands e
