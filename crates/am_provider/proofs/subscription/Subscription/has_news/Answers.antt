use Rattle.std.proofs.Common.{◌≡◌, refl, subst, length, arith}
use Rattle.am_cast.specs.Lent.{IsPending}
use Rattle.am_provider.specs.Subscriptions.{SubscriptionView}
use Rattle.am_provider.specs.Showings.{ShowsNone}
use Rattle.am_provider.proofs.subscription.Subscription.has_news.Goals as goal

pub returns-clause-no : goal.returns-clause-no
returns-clause-no g c = λ no.
    let old : SubscriptionView = record { at = c.self.inside.at; opening = c.self.inside.opening.value; shown = c.self.inside.shown; cursor = c.self.inside.cursor; closed_told = c.self.inside.closed_told } in
    let new : SubscriptionView = record old { cursor = c.has_news.new.self } in
    let all : old.shown ≡ length old.opening = omega (arith, c.if-self.false, c.self.invariant.0.within, c.self.invariant.1.counted) in
    subst (λ (was : SubscriptionView). ShowsNone was was.closed_told new × IsPending was.cursor new.cursor) c.self.view_is
    (record { shown = all; rest = refl; on = c.has_news.ensures.on }, c.has_news.ensures.no no)
