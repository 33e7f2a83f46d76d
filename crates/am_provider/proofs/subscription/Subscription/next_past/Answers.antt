use Rattle.std.proofs.Common.{refl, sym, subst}
use Rattle.am_provider.specs.Subscriptions.{SubscriptionView}
use Rattle.am_provider.specs.Showings.{Shows, ShowsPast}
use Rattle.am_provider.proofs.Subscribing.{shows, shows_past}
use Rattle.am_provider.proofs.subscription.Subscription.next_past.Goals as goal

pub returns : goal.returns
returns g c =
    let moved = c.advance_past-advance.ensures in
    let seen = c.args.pass.now.noted in
    let shown = shows c.args.self.now c.advance_past-advance.new.self c.advance_past-advance.result c.shown.result moved.advances c.shown.ensures.shown in
    let past = shows_past seen c.advance_past-advance.new.self c.advance_past-advance.result c.shown.result moved.past c.shown.ensures.shown in (
      (
        refl,
        (λ _. tt),
        subst (λ (s : SubscriptionView). Shows c.args.self.now c.shown.result s × ShowsPast seen c.shown.result s) (sym c.shown.follows.holds-at-none) (shown, past),
      ),
      record { lender = tt; pass = moved.pass },
    )
