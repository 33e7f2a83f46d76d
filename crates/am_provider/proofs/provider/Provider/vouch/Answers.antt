use Rattle.std.proofs.Common.{◌∙◌, refl, sym, ap}
use Rattle.am_history.specs.Fronts.{FrontView}
use Rattle.am_provider.specs.Batches.{sent_in}
use Rattle.am_provider.specs.Histories.{EntryView, sent_by}
use Rattle.am_provider.proofs.Answering.{due_whole, sees_none}
use Rattle.am_provider.proofs.provider.Provider.vouch.Goals as goal

pub returns-clause-sees : goal.returns-clause-sees
returns-clause-sees g c =
    sees_none c.args.caller.now.front c.show.new.to c.recorded.inside.history _ c.show.ensures.seen c.show.ensures.to
    (due_whole c.recorded.inside.book c.recorded.inside.history c.recorded.invariant.0 c.kept.ensures c.args.subscription.now c.vouch.ensures.due, refl)

pub returns-clause-pass : goal.returns-clause-pass
returns-clause-pass g c =
    let told = c.vouch.ensures.told in
    record {
      own = told.own;
      more = told.more;
      known = told.known;
      sent = ap sent_in told.noted ∙ (c.recorded.invariant.0.sent ∙ ap (λ (f : FrontView EntryView). sent_by f.seen) (sym c.show.ensures.to));
    }

pub returns-clause-places : goal.returns-clause-places
returns-clause-places g c = c.vouch.ensures.due.places ∙ c.recorded.invariant.0.limits.1
