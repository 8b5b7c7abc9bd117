use Rattle.console.proofs.Newlines.{lines_part}
use Rattle.console.proofs.cutter.LineCutter.new.Goals as goal

pub returns-in_err-line-clause-lines : goal.returns-in_err-line-clause-lines
returns-in_err-line-clause-lines c = lines_part

pub returns-clause-lines : goal.returns-clause-lines
returns-clause-lines c = lines_part
