use Rattle.std.proofs.Common.{◌≡◌, ◌-◌, length, take, drop, vec_len, refl, ap, ◌∙◌, arith}
use Rattle.std.proofs.lemmas.List.{with_items_is}
use Rattle.console.proofs.Breaking.{refused_any, broken_writing}
use Rattle.console.proofs.Standing.{none_unread, front_unread, read_keeps}
use Rattle.console.proofs.reader.LineReader.fill.Goals as goal

pub returns-in_err-n-clause-failed : goal.returns-in_err-n-clause-failed
returns-in_err-n-clause-failed g c = refused_any c.from_residual.result _ (λ rules used text ready s. broken_writing used text ready.reply s (g.W.Wire.log c.read.new.self.wire.now) c.in_err-n.ensures.failed)

pub returns-in_ok-n-clause-keeps : goal.returns-in_ok-n-clause-keeps
returns-in_ok-n-clause-keeps g c =
    let reader = c.args.self.now in
    let n = c.in_ok-n.n in
    let block = c.read.new.block in
    let read = c.in_ok-n.ensures in
    let long : length block ≡ vec_len reader.block = omega arith in
    read_keeps g.W.Wire.log reader _ c.args.wire.now c.read.new.self (take n block)
    (none_unread reader c.if-self.true)
    (ap (λ xs. take (n - 0) (drop 0 xs)) (with_items_is reader.block block long) ∙ front_unread n block)
    refl
    read.empty
    read.logged
