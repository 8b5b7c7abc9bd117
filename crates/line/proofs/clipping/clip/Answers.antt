use Rattle.std.proofs.Common.{◌≡◌, min, length, take, ap, ◌∙◌, arith}
use Rattle.line.specs.CallLines.{call_form}
use Rattle.line.specs.BuildLines.{build_form}
use Rattle.line.specs.Verdicts.{line_call, build_line}
use Rattle.std.proofs.lemmas.List.{take_min}
use Rattle.line.proofs.Clips.{same_verdict}
use Rattle.line.proofs.clipping.clip.Goals as goal

pub returns : goal.returns
returns c =
    let line = c.args.line.now in
    let n : c.min.result ≡ min 1201 (length line) = omega (arith, c.min.ensures) in
    let e : take c.min.result line ≡ take 1201 line = ap (λ k. take k line) n ∙ take_min 1201 line in
    record {
      bytes = e;
      call = ap line_call e ∙ same_verdict call_form line 1201 (omega arith);
      build = ap build_line e ∙ same_verdict build_form line 1201 (omega arith);
    }
