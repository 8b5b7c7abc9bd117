-- What each acceptance answers: two numbers.
use Rattle.std.specs.Prelude.{ℕ, cond}
use Rattle.market.specs.declared.acceptance.Acceptance.{Acceptance}
use Rattle.market.specs.declared.acceptance.Acceptance.TheVariants.{Built, Entered, Quoted, Cancelled, Defined, Switched}

-- the two numbers of each acceptance
abbrev pub acceptance_numbers : Acceptance → ℕ × ℕ
-- build: how many instruments there are
acceptance_numbers (Built n) = (n, 0)
-- enter and amend: the order's number, and what it traded before the round
acceptance_numbers (Entered n k) = (n, k)
-- quote: the numbers of the bid and of the offer, 0 where nothing is wanted
acceptance_numbers (Quoted b o) = (b, o)
-- cancel: the order's number, and what it had open
acceptance_numbers (Cancelled n k) = (n, k)
-- define: the combination's number, and 1 if the signs were turned
acceptance_numbers (Defined c turned) = (c, cond turned 1 0)
-- switch: how many orders were taken out
acceptance_numbers (Switched n) = (n, 0)
