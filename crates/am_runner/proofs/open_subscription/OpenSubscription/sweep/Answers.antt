use Rattle.std.proofs.Common.{ap, subst}
use Rattle.am_provider.specs.Subscriptions.{taken}
use Rattle.am_answers.specs.Consuming.{IsSwept}
use Rattle.am_runner.specs.Reading.{OpenView}
use Rattle.am_runner.proofs.Taking.{sweep_takes_none}
use Rattle.am_runner.proofs.open_subscription.OpenSubscription.sweep.Goals as goal

pub invariant_of-self : goal.invariant_of-self
invariant_of-self g c none =
    sweep_takes_none c.kept_laws.ensures.go_on (taken c.self.inside.subscription) c.args.now c.args.half c.self.inside.consumer c.sweep.new.self c.sweep.result c.sweep.ensures (c.self.invariant none)

pub returns : goal.returns
returns g c = (
  subst (λ (one : OpenView). IsSwept c.args.now c.args.half one.consumer c.sweep.new.self c.sweep.result) c.self.view_is c.sweep.ensures,
  ap (λ (one : OpenView). record one { consumer = c.sweep.new.self }) c.self.view_is,
)
