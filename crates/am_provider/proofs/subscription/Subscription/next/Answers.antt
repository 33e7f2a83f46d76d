use Rattle.std.proofs.Common.{refl, sym, subst}
use Rattle.am_provider.specs.Subscriptions.{SubscriptionView}
use Rattle.am_provider.specs.Showings.{Shows}
use Rattle.am_provider.proofs.Subscribing.{shows}
use Rattle.am_provider.proofs.subscription.Subscription.next.Goals as goal

pub returns : goal.returns
returns g c =
    let shown = shows c.args.self.now c.advance-advance.new.self c.advance-advance.result c.shown.result c.advance-advance.ensures c.shown.ensures.shown in
    ((refl, (λ _. tt), subst (λ (s : SubscriptionView). Shows c.args.self.now c.shown.result s) (sym c.shown.follows.holds-at-none) shown), record { lender = tt })
