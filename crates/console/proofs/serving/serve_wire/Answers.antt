use Rattle.console.proofs.Breaking.{refused_any, broken_first}
use Rattle.console.proofs.serving.serve_wire.Goals as goal

pub returns-in_err-reader-clause-failed : goal.returns-in_err-reader-clause-failed
returns-in_err-reader-clause-failed g c = refused_any c.from_residual.result _ (broken_first (g.W.Wire.log c.args.wire.now))

pub returns-in_err-text-clause-failed : goal.returns-in_err-text-clause-failed
returns-in_err-text-clause-failed g c = refused_any c.from_residual-in_err-text.result _ (broken_first (g.W.Wire.log c.args.wire.now))
