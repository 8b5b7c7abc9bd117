use Rattle.std.proofs.Common.{ℕ, ◌≡◌, ◌≤◌, ◌+◌, ◌-◌, ◌++◌, List, length, take, drop, sym, ap, ◌∙◌, subst, arith}
use Rattle.std.proofs.lemmas.List.{length-take, take_rest}
use Rattle.std.proofs.Math.Seq.{take-add}
use Rattle.std.proofs.KnownBytes.{Appends-trans, Appends-kept}
use Rattle.std.specs.Io.KnownBytes.{Appends}
use Rattle.console.proofs.wire.write_whole.Goals as goal
use Rattle.console.proofs.wire.write_whole.Goals.{in-Ok, in-Err+else-ne}

-- the front written before, and the next bytes of the rest, are a longer front
longer_front : (done n m : ℕ) (text : List ℕ) → m ≡ done + n → take done text ++ take n (take (length text - done) (drop done text)) ≡ take m text
longer_front done n m text e =
    ap (λ xs. take done text ++ take n xs) (take_rest text done) ∙ sym (take-add done n text) ∙ ap (λ k. take k text) (sym e)

pub loop-preserved : goal.loop-preserved
loop-preserved g c =
    let text = c.args.text.now in
    let old = g.W.Write.contents c.args.output.now in
    let new = g.W.Write.contents c.write.new.self in
    let (inside, appended) = c.loop.invariant in
    elim c.match-write.branch [
      | in-Ok w ↦
          let within : w.in-Ok.n ≤ length (take (length text - c.loop.done) (drop c.loop.done text)) = w.in-Ok.ensures.bound in (
            (let long = length-take (length text - c.loop.done) (drop c.loop.done text) in grind (arith, within, w.done-is, inside)),
            subst (Appends old new) (longer_front c.loop.done w.in-Ok.n c.match-write.done text w.done-is) (Appends-trans _ _ _ _ _ appended w.in-Ok.ensures.bytes),
          )
      | in-Err+else-ne w ↦ (
        (let same = w.done-is in omega arith),
        subst (λ k. Appends old new (take k text)) (sym w.done-is) (Appends-kept _ _ _ _ appended w.in-Err.ensures.bytes),
      )
    ]
