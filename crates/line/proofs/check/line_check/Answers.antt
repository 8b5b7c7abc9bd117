use Rattle.std.proofs.Common.{◌≡◌, ◌+◌, ◌*◌, false, eqb, is_ok, ap, ◌∙◌, arith}
use Rattle.std.proofs.lemmas.Bool.Decides.{nat_tests}
use Rattle.market.specs.Refusals.{refusal_code}
use Rattle.line.specs.CallLines.{call_form}
use Rattle.line.proofs.Places.{refused_by}
use Rattle.line.proofs.check.line_check.Goals as goal

pub overflow_add-result : goal.overflow_add-result
overflow_add-result c =
    let h = refused_by call_form c.args.line.now c.in-Err.refusal c.in-Err.ensures.value in
    rw c.from-code.ensures (omega (arith, h.1, h.2))

pub returns-in-Err-clause-accepts : goal.returns-in-Err-clause-accepts
returns-in-Err-clause-accepts c =
    let h = refused_by call_form c.args.line.now c.in-Err.refusal c.in-Err.ensures.value in
    let z : eqb ((refusal_code c.in-Err.refusal).number * 10000 + (refusal_code c.in-Err.refusal).place) 0 ≡ false = grind (arith, nat_tests, h.0) in
    ap (λ k. eqb (k.number * 10000 + k.place) 0) c.from-code.ensures ∙ z ∙ ap is_ok c.in-Err.ensures.value
