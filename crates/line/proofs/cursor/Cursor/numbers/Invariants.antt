use Rattle.std.proofs.Common.{◌≡◌, ◌-◌, length}
use Rattle.line.specs.Numbers.{decimal}
use Rattle.line.specs.Kinds.{plain_number}
use Rattle.line.specs.Runs.{places}
use Rattle.line.proofs.Fillings.{Filling}
use Rattle.line.proofs.cursor.Cursor.numbers.Given as goal

abbrev pub invariant-loop : goal.invariant-loop
invariant-loop l = (length l.numbers.items ≡ l.counter) × Filling plain_number (λ _ f. decimal f) l.initial.self (places l.count) l.self (places (l.count - l.counter)) l.numbers.items
