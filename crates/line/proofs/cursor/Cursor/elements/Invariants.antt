use Rattle.std.proofs.Common.{◌≡◌, length, drop}
use Rattle.line.proofs.Fillings.{Filling}
use Rattle.line.proofs.cursor.Cursor.elements.Given as goal

abbrev pub invariant-loop-number : goal.invariant-loop-number
invariant-loop-number g l =
    (length l.number-items ≡ l.count)
    × (length l.elements.items ≡ l.number-index)
    × Filling g.T.Element.kind g.T.Element.made l.initial.self l.number-items l.self (drop l.number-index l.number-items) l.elements.items
