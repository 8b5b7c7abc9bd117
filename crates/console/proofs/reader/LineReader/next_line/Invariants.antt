use Rattle.std.proofs.Common.{◌≡◌, ℕ, List}
use Rattle.market.specs.declared.product.Product.{Product}
use Rattle.console.specs.Lines.{closed_lines}
use Rattle.console.specs.Sessions.{Ready}
use Rattle.console.specs.Reading.{Stands, Still}
use Rattle.console.proofs.reader.LineReader.next_line.Given as goal

abbrev pub invariant-loop : goal.invariant-loop
invariant-loop g l =
    (l.wire.wire.ghost_name ≡ l.initial.wire.wire.ghost_name)
    × ((rules : Product → List ℕ → ℕ → List ℕ) (used text : List ℕ) → Ready rules (closed_lines used) text → Stands rules g.W.Wire.log l.initial.self l.initial.wire used text → Still rules g.W.Wire.log l.self l.wire used text)
