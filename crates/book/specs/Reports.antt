-- The report of a call: the rows told so far.
use Rattle.std.specs.Prelude.{◌≡◌, ◌-◌, ◌<◌, ◌≤◌, List, ◌++◌, length}
use Rattle.std.specs.Option.{MatchOption}
use Rattle.market.specs.declared.row.Row.{Row}
use Rattle.market.specs.Rows.{blank}
use Rattle.book.specs.declared.told.Told.{Told}

-- the report holds the rows told, then rows of zeros; or more were told than it has
abbrev pub Holds : Told → List Row → Type 0
Holds t told = MatchOption t.count (length t.rows.now < length told) (λ n. (n ≡ length told) × (length told ≤ length t.rows.now) × (t.rows.now ≡ told ++ blank (length t.rows.now - length told)))

-- one and the same report, as long as it was
pub record SameReport (t t' : Told) : Type 0 where
  pub same : t'.rows.ghost_name ≡ t.rows.ghost_name
  pub long : length t'.rows.now ≡ length t.rows.now

-- these rows were told on top of any that were
pub record Tells (t : Told) (new : List Row) (t' : Told) : Type 0 where
  pub report : SameReport t t'
  pub holds : (told : List Row) → Holds t told → Holds t' (told ++ new)
