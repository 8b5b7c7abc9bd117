use Rattle.std.proofs.Common.{refl}
use Rattle.std.proofs.lemmas.List.{length-set}
use Rattle.book.proofs.Reports.{told_inside}
use Rattle.book.proofs.told.Told.push.Goals as goal

pub returns-in-Some : goal.returns-in-Some
returns-in-Some c =
    let t = c.args.self.now in
    record {
      report = record { same = refl; long = length-set t.rows.now c.in-Some.n c.args.row };
      holds = λ told h. told_inside t.count c.in-Some.n t.rows.now told c.args.row c.in-Some.is c.if-n-self.true h;
    }
