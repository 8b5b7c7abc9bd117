use Rattle.std.proofs.Common.{None, rules}
use Rattle.gate.proofs.Tables.{judged}
use Rattle.gate.proofs.venue.Venue.build.Goals as goal

pub returns-in_err-judge-clause-bands : goal.returns-in_err-judge-clause-bands
returns-in_err-judge-clause-bands g c = judged c.args.bands.items _ (search rules)

pub returns-in_err-new-clause-bands : goal.returns-in_err-new-clause-bands
returns-in_err-new-clause-bands g c = judged c.args.bands.items _ (search rules)

pub returns-in_err-book-clause-bands : goal.returns-in_err-book-clause-bands
returns-in_err-book-clause-bands g c = judged c.args.bands.items _ (search rules)

pub returns-clause-bands : goal.returns-clause-bands
returns-clause-bands g c = judged c.args.bands.items None (search rules)
