use Rattle.std.proofs.Common.{◌∙◌, [], ◌∷◌, ◌++◌, None, refl, sym, ap, subst, arith}
use Rattle.am_cast.specs.declared.views.Tail.{Tail}
use Rattle.am_store.specs.declared.call.Call.TheVariants.{Subscribed}
use Rattle.am_provider.specs.Batches.{Batch}
use Rattle.am_provider.specs.Histories.{Accepted}
use Rattle.am_provider.specs.inside.Records.{IsRecorded}
use Rattle.am_provider.proofs.Answering.{sees_called, sees_none, sub_refusal}
use Rattle.am_provider.proofs.Recording.{call_number, cuts_one, lags_one, may_whole, prefix_same, recorded_more, same_count, stored_whole}
use Rattle.am_provider.proofs.provider.Provider.subscribe.Goals as goal

pub invariant_of-recorded-2 : goal.invariant_of-recorded-2
invariant_of-recorded-2 g c =
    let old = c.recorded.inside.book in
    let new = c.subscribe.new.self in
    let entries = c.recorded.inside.history in
    let made = c.in-Ok.ensures in
    let number = c.in-Ok.made.cursor.lane.number in
    let lives = made.lane in (
      subst (IsRecorded g.N.Recorded.policy g.N.Recorded.places new) (sym (c.record.ensures.longer ∙ ap (λ lane. entries ++ Accepted (Subscribed lane) 0 None ∷ []) c.lane.ensures))
          (recorded_more old new entries (Subscribed number) 0 None c.recorded.invariant.0 c.kept.ensures c.kept-2.ensures made.journal
          (prefix_same _ _ (ap (λ (t : Tail Batch). t.log) made.log)) made.rest.limits
          (cuts_one old new (Subscribed number) 0 number (λ lane was. refl) (λ stands. omega (arith, lives, stands)) made.others) (lags_one old new entries (Subscribed number) 0 None number c.recorded.invariant.0 (λ lane was. refl) made.others) made.rest.endings made.rest.gone),
      c.recorded.invariant.1,
    )

pub returns-clause-sees : goal.returns-clause-sees
returns-clause-sees g c =
    let old = c.recorded.inside.book in
    let entries = c.recorded.inside.history in
    let made = c.in-Ok.ensures in
    let number = c.in-Ok.made.cursor.lane.number in
    let may = may_whole old c.subscribe.new.self entries (Subscribed number) c.recorded.invariant.0 c.kept-2.ensures made.journal in
    sees_called c.args.caller.now.front c.record.new.caller.front entries c.record.new.history (Subscribed c.lane.result) (Subscribed number) 0 None _
    (ap Subscribed c.lane.ensures) c.record.ensures.longer c.record.ensures.known c.record.ensures.seen c.record.ensures.made c.record.ensures.looked
    (record {
      still_open = may.0;
      at = made.at ∙ call_number old entries c.recorded.invariant.0;
      opening = made.opening ∙ stored_whole old entries c.recorded.invariant.0 c.kept.ensures;
      lane = may.1;
      start = made.start ∙ sym (same_count old entries c.recorded.invariant.0);
      fresh = made.fresh;
      entry = refl;
    })

pub returns-in-Err-clause-sees : goal.returns-in-Err-clause-sees
returns-in-Err-clause-sees g c =
    sees_none c.args.caller.now.front c.show.new.to c.recorded.inside.history _ c.show.ensures.seen c.show.ensures.to
    (sub_refusal c.recorded.inside.book c.recorded.inside.history c.in-Err.fault c.recorded.invariant.0 c.in-Err.ensures.closed c.in-Err.ensures.no_lane, refl)
