-- What a venue stands for.
use Rattle.std.specs.Prelude.{◌≡◌, List, Some, None, Ok, Err, Option, Result}
use Rattle.market.specs.declared.product.Band.{Band}
use Rattle.market.specs.declared.product.Product.{Product}
use Rattle.market.specs.declared.refusal.Refusal.{Refusal}
use Rattle.market.specs.Bands.{build_fault}
use Rattle.market.specs.Venues.{View, fresh}
use Rattle.book.specs.Closing.{book_state}
use Rattle.gate.specs.declared.build_error.BuildError.{BuildError}
use Rattle.gate.specs.declared.build_error.BuildError.TheVariants.{Refused, OutOfMemory}
use Rattle.gate.specs.declared.venue.Venue.{Venue}
use Rattle.gate.specs.Made.{all_legs}

-- a venue by its product, phase, bands, combinations and book
abbrev pub view : {R : Type 0} → Venue R → View
view v = record { product = v.listing.product; phase = v.listing.trading.phase; bands = v.listing.trading.bands.items; combinations = all_legs v.listing.combinations; book = book_state v.book }

-- the rule by which a venue divides
abbrev pub rule_of : {R : Type 0} → Venue R → R
rule_of v = v.rule

-- a venue is built with these bands and this rule, or refused since a band is broken, or there is no memory though no band is broken
abbrev pub BuiltWith : {R : Type 0} → Product → List Band → R → Result (Venue R) BuildError → Type 0
BuiltWith product bands rule (Ok v) = (build_fault bands ≡ None) × (view v ≡ fresh product bands) × (rule_of v ≡ rule)
BuiltWith product bands rule (Err (Refused e)) = build_fault bands ≡ Some e
BuiltWith product bands rule (Err OutOfMemory) = build_fault bands ≡ None

-- the refusal for which no venue was built, if it was for one
abbrev pub refusal_of : {R : Type 0} → Result (Venue R) BuildError → Option Refusal
refusal_of (Ok v) = None
refusal_of (Err (Refused e)) = Some e
refusal_of (Err OutOfMemory) = None
