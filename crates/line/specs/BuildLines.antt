-- The line that builds a venue.
use Rattle.std.specs.Prelude.{ℕ, cond, List, ◌∷◌, codes, ◌==◌}
use Rattle.market.specs.declared.product.Band.{Band}
use Rattle.market.specs.declared.product.Product.{Product}
use Rattle.market.specs.declared.product.Product.TheVariants.{Futures, Options}
use Rattle.line.specs.declared.bands.BuildLine.{BuildLine}
use Rattle.line.specs.Bytes.{letter, others}
use Rattle.line.specs.Numbers.{decimal, code}
use Rattle.line.specs.Kinds.{letter_among, plain_number, number_within, Form, says, field_at}
use Rattle.line.specs.Runs.{two_runs, from_runs}

-- futures, options
abbrev pub product_letters : List ℕ
product_letters = codes "FO"

-- the product of a letter
abbrev pub product_by : ℕ → Product
product_by b = cond (b == (letter "F")) Futures Options

-- the product of a field
abbrev pub product_of : List ℕ → Product
product_of f = product_by (code f)

-- the band of a low and a field with its high
abbrev pub band_from : ℕ → List ℕ → Band
band_from low f = record { low = low; high = decimal f }

-- n bands from n lows and then n highs
abbrev pub bands_of : ℕ → List (List ℕ) → List Band
bands_of n fs = from_runs band_from n fs

-- product, the number n of instruments, n lows, n highs
abbrev pub build_form : List (List ℕ) → Form BuildLine
build_form fs =
    says (letter_among product_letters ∷ number_within 1 64 ∷ two_runs (decimal (field_at 1 fs)) plain_number plain_number)
    (record { product = product_of (field_at 0 fs); bands = record { items = bands_of (decimal (field_at 1 fs)) (others (others fs)) } })
