use Rattle.std.proofs.Common.{sym, refl, ap, ◌∙◌, subst, arith}
use Rattle.std.specs.List.{prefix_len}
use Rattle.std.proofs.lemmas.List.{take_rest}
use Rattle.line.specs.Cursors.{solid, Reads}
use Rattle.line.specs.Bytes.{first, others}
use Rattle.line.specs.Kinds.{none_left}
use Rattle.line.proofs.Splits.{left_split}
use Rattle.line.proofs.cursor.Cursor.next_field.Goals as goal

pub returns : goal.returns
returns c =
    let line = c.args.self.now.line.now in
    let at = c.args.self.now.at in
    let s = left_split line at c.solid_len-len.result (omega arith) (c.solid_len-len.ensures.value ∙ ap (prefix_len solid) (take_rest line at)) in
    (ap none_left s, subst (λ f. Reads f c.from-field.result) (sym (ap first s)) (simp take_rest at c.from-field.ensures), refl, sym (ap others s), refl)
