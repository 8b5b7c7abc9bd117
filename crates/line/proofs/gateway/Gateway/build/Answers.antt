use Rattle.std.proofs.Common.{sym}
use Rattle.market.proofs.BandFaults.{bands_judged}
use Rattle.line.specs.BuildLines.{build_form}
use Rattle.line.specs.Gateways.{bands_given}
use Rattle.line.proofs.Counts.{count_few}
use Rattle.line.proofs.Judging.{reads}
use Rattle.line.proofs.Sessions.{opens_from}
use Rattle.line.proofs.gateway.Gateway.build.Goals as goal

pub returns : goal.returns
returns g c = record {
  opens = opens_from g.R.AllocationRule.shares c.args.rule (g.met.R.AllocationRule.lawful c.args.rule) c.args.line.now c.in_ok-request.request (sym c.in_ok-request.ensures.value) c.open.result c.open.ensures;
  read = reads build_form c.args.line.now;
  counted = count_few c.args.line.now;
  bands = λ b is. bands_judged (bands_given b);
}
