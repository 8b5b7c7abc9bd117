use Rattle.std.proofs.Common.{Err, sym, ap, ◌∙◌, subst}
use Rattle.std.proofs.lemmas.Result.{err_from_is_err_and}
use Rattle.line.specs.BuildLines.{build_form}
use Rattle.line.specs.Verdicts.{Read}
use Rattle.line.proofs.Openings.{no_start, from_start}
use Rattle.line.proofs.reader.read_build.Goals as goal

pub returns-in_err-fields : goal.returns-in_err-fields
returns-in_err-fields c =
    let p = err_from_is_err_and c.from_residual.result c.from_residual.ensures.1 in
    subst (Read build_form c.args.line.now) (sym (p.1 ∙ ap Err p.2)) (no_start build_form c.args.line.now _ c.in_err-fields.ensures)

pub returns : goal.returns
returns c = from_start build_form c.args.line.now c.in_ok-fields.fields _ c.in_ok-fields.ensures c.read_build_fields.ensures
