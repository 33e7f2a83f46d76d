use Rattle.std.proofs.Common.{refl, ap, ◌∙◌}
use Rattle.am_provider.specs.Subscriptions.{SubscriptionView}
use Rattle.am_provider.proofs.Slicing.{lends_opening}
use Rattle.am_provider.proofs.subscription.Subscription.shown_from.Goals as goal

pub returns-in-Opened : goal.returns-in-Opened
returns-in-Opened g c = (
  (refl, (λ _. tt), c.self.view_is),
  record {
    lender = tt;
    shown = lends_opening c.args.self.now c.args.advance c.args.from _ c.held_opening.result.now c.in-Opened.is c.run_from.ensures
        (c.held_opening.ensures ∙ ap (λ (s : SubscriptionView). s.opening) c.self.view_is);
  },
)
