use Rattle.std.proofs.Common.{◌+◌, ◌-◌, take, drop, is_some, sym, refl, ap, ◌∙◌, subst, rules}
use Rattle.console.specs.Cuts.{used_by, Cuts}
use Rattle.console.specs.Reading.{unread}
use Rattle.console.proofs.Breaking.{refused_any, broken_after}
use Rattle.console.proofs.Standing.{cut_found, cut_none, still_reply, still_then, found_then, none_then, all_used}
use Rattle.console.proofs.reader.LineReader.next_line.Goals as goal

pub returns-in_err-fill : goal.returns-in_err-fill
returns-in_err-fill g c = (
  (refl, λ _. tt, search rules),
  record {
    same = c.fill.ensures.same ∙ c.loop.invariant.0;
    found = tt;
    failed = refused_any c.from_residual.result _ (λ rules used text ready s.
        let t = c.loop.invariant.1 rules used text ready s in
        c.in_err-fill.ensures.failed rules t.used' text (still_reply text t ready) t.stands);
  },
)

pub returns-then-self : goal.returns-then-self
returns-then-self g c = (
  (
    refl,
    λ _. tt,
    (
      λ h. absurd (cc),
      λ rules used text ready s. (
        still_then text c.in_ok-fill.ensures.keeps ready (c.loop.invariant.1 rules used text ready s),
        c.in_ok-fill.ensures.ended c.if-self.true,
      ),
    ),
  ),
  record { same = c.in_ok-fill.ensures.same ∙ c.loop.invariant.0; found = tt; failed = tt },
)

pub returns-in-Some : goal.returns-in-Some
returns-in-Some g c = (
  (
    refl,
    λ _. tt,
    (
      λ _. c.take.ensures.cuts.state ∙ ap is_some c.in-Some.is,
      λ rules used text ready s.
          let r = c.fill.new.self in
          let cuts = subst (λ xs. Cuts r.cutter (take (r.end - r.at) (drop r.at xs)) c.take.result c.take.new.self) c.deref.ensures.value c.take.ensures.cuts in
          let moves = ap (λ u. r.at + used_by u (unread r)) (sym c.in-Some.is) in
          let t = still_then text c.in_ok-fill.ensures.keeps ready (c.loop.invariant.1 rules used text ready s) in (
            found_then text t.used' t.lines (cut_found r _ c.take.result (record { cuts = cuts; moves = moves; stays = refl; block = refl }) rules g.W.Wire.log c.fill.new.wire t.used' text t.stands (ap is_some c.in-Some.is)),
            c.line.ensures,
          ),
    ),
  ),
  record { same = c.in_ok-fill.ensures.same ∙ c.loop.invariant.0; found = tt; failed = tt },
)

pub loop-preserved : goal.loop-preserved
loop-preserved g c = (
  c.in_ok-fill.ensures.same ∙ c.loop.invariant.0,
  λ rules used text ready s.
      let r = c.fill.new.self in
      let cuts = subst (λ xs. Cuts r.cutter (take (r.end - r.at) (drop r.at xs)) c.take.result c.take.new.self) c.deref.ensures.value c.take.ensures.cuts in
      let moves = all_used r ∙ ap (λ u. r.at + used_by u (unread r)) (sym c.in-None.is) in
      let t = still_then text c.in_ok-fill.ensures.keeps ready (c.loop.invariant.1 rules used text ready s) in
      none_then text t.used' t.lines (cut_none r _ c.take.result (record { cuts = cuts; moves = moves; stays = refl; block = refl }) rules g.W.Wire.log c.fill.new.wire t.used' text t.stands (ap is_some c.in-None.is)),
)

pub returns : goal.returns
returns g c = (
  (refl, λ _. tt, tt),
  record {
    same = c.loop.invariant.0;
    found = tt;
    failed = λ rules used text ready s.
        let t = c.loop.invariant.1 rules used text ready s in
        broken_after t.used' text (still_reply text t ready).reply t.stands;
  },
)
