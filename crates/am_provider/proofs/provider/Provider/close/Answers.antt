use Rattle.std.proofs.Common.{◌∙◌, None, refl, sym, ap, subst}
use Rattle.am_store.specs.declared.call.Call.TheVariants.{Closed}
use Rattle.am_provider.specs.Batches.{LogView}
use Rattle.am_provider.specs.Histories.{Accepted}
use Rattle.am_provider.specs.inside.Records.{IsRecorded}
use Rattle.am_provider.proofs.Answering.{sees_added, sees_none}
use Rattle.am_provider.proofs.Recording.{cuts_same, lags_same, may_whole, prefix_same, recorded_more, same_closed}
use Rattle.am_provider.proofs.provider.Provider.close.Goals as goal

pub invariant_of-recorded-2 : goal.invariant_of-recorded-2
invariant_of-recorded-2 g c =
    let old = c.recorded.inside.book in
    let new = c.close.new.self in
    let log = c.in-Ok.ensures.log in (
      subst (IsRecorded g.N.Recorded.policy g.N.Recorded.places new) (sym c.record.ensures.longer)
          (recorded_more old new c.recorded.inside.history Closed 0 None c.recorded.invariant.0 c.kept.ensures c.kept-2.ensures c.in-Ok.ensures.journal
          (prefix_same _ _ (ap (λ (q : LogView). q.tail.log) log)) c.in-Ok.ensures.rest.limits
          (cuts_same old new Closed 0 (λ lane was. refl) (ap (λ (q : LogView). q.accounts) log)) (lags_same old new c.recorded.inside.history Closed 0 None c.recorded.invariant.0 (λ lane was. refl) (ap (λ (q : LogView). q.accounts) log)) c.in-Ok.ensures.rest.endings c.in-Ok.ensures.rest.gone),
      c.recorded.invariant.1,
    )

pub returns-clause-sees : goal.returns-clause-sees
returns-clause-sees g c =
    sees_added c.args.caller.now.front c.record.new.caller.front c.recorded.inside.history c.record.new.history (Accepted Closed 0 None) _
    c.record.ensures.longer c.record.ensures.known c.record.ensures.seen c.record.ensures.made c.record.ensures.looked
    (may_whole c.recorded.inside.book c.close.new.self c.recorded.inside.history Closed c.recorded.invariant.0 c.kept-2.ensures c.in-Ok.ensures.journal, refl)

pub returns-in_default-clause-sees : goal.returns-in_default-clause-sees
returns-in_default-clause-sees g c =
    sees_none c.args.caller.now.front c.show.new.to c.recorded.inside.history _ c.show.ensures.seen c.show.ensures.to
    (same_closed c.recorded.inside.book c.recorded.inside.history c.recorded.invariant.0 ∙ c.in_default.ensures.closed.0 refl, refl)
