use Rattle.line.specs.Bytes.{first}
use Rattle.line.specs.Cursors.{rest}
use Rattle.line.proofs.Takings.{taken}
use Rattle.line.proofs.cursor.Cursor.take.Goals as goal

pub returns : goal.returns
returns g c p value given =
    let s = c.args.self.now in
    rw c.ok_or.ensures.value (taken p value s c.next_field.new.self c.in-Some.placed c.of.result c.in-Some.ensures (given (first (rest s)) c.in-Some.placed.field c.of.result c.in-Some.ensures.1 c.of.ensures))
