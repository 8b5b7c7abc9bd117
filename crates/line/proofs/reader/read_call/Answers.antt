use Rattle.std.proofs.Common.{Err, sym, ap, ◌∙◌, subst}
use Rattle.std.proofs.lemmas.Result.{err_from_is_err_and}
use Rattle.line.specs.CallLines.{call_form}
use Rattle.line.specs.Verdicts.{Read}
use Rattle.line.proofs.Openings.{no_start, from_start, no_letter, by_letter}
use Rattle.line.proofs.reader.read_call.Goals as goal

pub returns-in_err-fields : goal.returns-in_err-fields
returns-in_err-fields c =
    let p = err_from_is_err_and c.from_residual.result c.from_residual.ensures.1 in
    subst (Read call_form c.args.line.now) (sym (p.1 ∙ ap Err p.2)) (no_start call_form c.args.line.now _ c.in_err-fields.ensures)

pub returns-in_err-letter : goal.returns-in_err-letter
returns-in_err-letter c =
    let p = err_from_is_err_and c.from_residual-in_err-letter.result c.from_residual-in_err-letter.ensures.1 in
    let s = c.in_ok-fields.fields in
    from_start call_form c.args.line.now s _ c.in_ok-fields.ensures (p.1 ∙ ap Err p.2 ∙ no_letter s c.letter.new.self _ c.in_err-letter.ensures)

pub returns : goal.returns
returns c =
    let s = c.in_ok-fields.fields in
    from_start call_form c.args.line.now s _ c.in_ok-fields.ensures (by_letter s c.letter.new.self _ _ c.in_ok-fields.ensures.2 c.in_ok-letter.ensures c.read_fields.ensures)
