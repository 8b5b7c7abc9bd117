-- How a call ends, and what its caller sees of it.
use Rattle.std.specs.Prelude.{◌≡◌, ℕ, ◌-◌, cond, List, ◌++◌, length, Ok, Err, Result, nat_lt}
use Rattle.market.specs.declared.acceptance.Acceptance.{Acceptance}
use Rattle.market.specs.declared.refusal.Refusal.{Refusal}
use Rattle.market.specs.declared.refusal.Refusal.TheVariants.{ReportFull}
use Rattle.market.specs.declared.row.Row.{Row}
use Rattle.market.specs.Acceptances.{acceptance_numbers}
use Rattle.market.specs.Rows.{blank}

-- what an accepted call does: its answer, its rows in order of happening, and what stands after it
pub record Effect (S : Type 0) : Type 0 where
  pub accepted : Acceptance
  pub rows : List Row
  pub after : S

-- a call is refused or takes effect
pub data Ending (S : Type 0) : Type 0 where
  refused : Refusal → Ending S
  done : Effect S → Ending S

-- what the caller gets: the answer, all rows of its report, and what stands then
pub record Outcome (S : Type 0) : Type 0 where
  pub answer : Result (ℕ × ℕ) Refusal
  pub rows : List Row
  pub after : S

-- a refusal reports nothing and changes nothing
abbrev pub refuse : {S : Type 0} → S → ℕ → Refusal → Outcome S
refuse before room e = record { answer = Err e; rows = blank room; after = before }

-- the rows that fit a report of so many, then rows of zeros; a call with more rows is refused
abbrev pub report : {S : Type 0} → S → ℕ → Effect S → Outcome S
report before room e =
    cond (nat_lt room (length e.rows)) (refuse before room ReportFull)
    (record { answer = Ok (acceptance_numbers e.accepted); rows = e.rows ++ blank (room - length e.rows); after = e.after })

-- what the caller sees of each ending
abbrev pub close : {S : Type 0} → S → ℕ → Ending S → Outcome S
close before room (refused e) = refuse before room e
close before room (done e) = report before room e

-- a call from one state to another, with this report length, answer and report, ends in one of the ways that the rules allow
pub record Follows {S : Type 0} (Allowed : Ending S → Type 0) (before : S) (room : ℕ) (answer : Result (ℕ × ℕ) Refusal) (rows : List Row) (after : S) : Type 0 where
  pub ending : Ending S
  pub allowed : Allowed ending
  pub answered : answer ≡ (close before room ending).answer
  pub reported : rows ≡ (close before room ending).rows
  pub left : after ≡ (close before room ending).after
