use Rattle.std.proofs.Common.{◌≡◌, ◌++◌, vec_items, false}
use Rattle.std.specs.Slice.Iter.{iter_rest}
use Rattle.std.specs.Iterator.Adapters.{take_while_source, take_while_done}
use Rattle.console.specs.Text.{report_text}
use Rattle.console.proofs.text.write_report.Given as goal

abbrev pub invariant-loop-row : goal.invariant-loop-row
invariant-loop-row l =
    (take_while_done l.row-iterator ≡ false)
    × (vec_items l.out ++ report_text (iter_rest (take_while_source l.row-iterator)) ≡ vec_items l.initial.out ++ report_text l.rows)
