use Rattle.std.proofs.Common.{◌≡◌, length, take}
use Rattle.line.specs.Gateways.{gateway_view, gateway_rule}
use Rattle.own_rule.specs.Composed.{bytes, Session}
use Rattle.own_rule.proofs.composed.serve_all.Given as goal

abbrev pub invariant-loop-line : goal.invariant-loop-line
invariant-loop-line g l =
    Session (g.R.AllocationRule.shares l.fn.rule) l.fn.build (bytes (take l.line-index l.lines)) (length l.fn.report) (gateway_view l.gateway) × (gateway_rule l.gateway ≡ l.fn.rule)
