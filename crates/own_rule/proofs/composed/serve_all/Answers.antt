use Rattle.std.proofs.Common.{[]}
use Rattle.line.specs.Gateways.{gateway_view}
use Rattle.own_rule.proofs.Composing.{session_more, bytes_next}
use Rattle.own_rule.proofs.Lasting.{follows_same}
use Rattle.own_rule.proofs.composed.serve_all.Goals as goal

pub loop-line-preserved : goal.loop-line-preserved
loop-line-preserved g c =
    let k = c.loop-line.invariant in
    let v = gateway_view c.loop-line.gateway in
    let ruled = rw (k.1, c.loop-line.auto.report) at c.call.ensures.session in
    let same = follows_same _ v _ _ _ _ _ c.call.ensures.follows in
    (rw (bytes_next c.args.lines.now c.loop-line.line-index (record { ref_ptr = (0, 0); now = [] }) c.loop-line-test.true) (session_more (g.R.AllocationRule.shares c.args.rule) c.args.build.now _ v _ _ k.0 same ruled), search)
