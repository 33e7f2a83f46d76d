use Rattle.std.proofs.Common.{subst}
use Rattle.am_provider.specs.Subscriptions.{SubscriptionView}
use Rattle.am_provider.specs.inside.Subscribed.{IsSubscription}
use Rattle.am_provider.specs.inside.Vouched.{IsVouched}
use Rattle.am_provider.proofs.subscription.Subscription.vouch.Goals as goal

pub returns-clause-kept : goal.returns-clause-kept
returns-clause-kept g c = (c.self.inside.count, subst (λ (s : SubscriptionView). IsSubscription s c.self.inside.count) c.self.view_is c.self.invariant.0)

pub returns-clause-vouched : goal.returns-clause-vouched
returns-clause-vouched g c =
    let v = c.vouch.ensures in
    subst (λ (s : SubscriptionView). IsVouched c.args.log.now s.cursor) c.self.view_is
    (record { lane = v.lane; given = v.given; cut_is = v.cut; sound = v.sound; taken = v.taken; ended = v.ended })
