use Rattle.std.proofs.Common.{ℕ, vec_items, ◌∙◌, arith}
use Rattle.std.proofs.lemmas.List.{length-take}
use Rattle.console.proofs.Newlines.{take_room}
use Rattle.console.proofs.cutter.LineCutter.keep.Goals as goal

pub returns-clause-items : goal.returns-clause-items
returns-clause-items c = c.loop-byte.invariant.0 ∙ take_room 1201 c.loop-byte.byte-index (vec_items c.args.self.now.line) c.args.more.now (omega arith) (omega (arith, length-take {A = ℕ}))
