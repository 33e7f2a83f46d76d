use Rattle.std.proofs.Common.{◌≡◌, ◌↔◌, ◌∙◌, Bool, true, false, IsTrue, [], ◌∷◌, ◌++◌, ◌≤◌, Some, refl, sym, ap, subst, arith}
use Rattle.am_cast.specs.declared.views.Tail.{Tail}
use Rattle.am_store.specs.declared.call.Call.TheVariants.{Left}
use Rattle.am_store.proofs.Opens.{lane_low}
use Rattle.am_provider.specs.Batches.{Batch}
use Rattle.am_provider.specs.Histories.{Accepted, is_cut}
use Rattle.am_provider.specs.BookView.{BookView}
use Rattle.am_provider.specs.inside.Records.{IsRecorded}
use Rattle.am_provider.proofs.Answering.{due_whole, sees_called}
use Rattle.am_provider.proofs.Recording.{cuts_one, lags_one, prefix_same, recorded_more, tells_of}
use Rattle.am_provider.proofs.provider.Provider.leave.Goals as goal

pub invariant_of-recorded : goal.invariant_of-recorded
invariant_of-recorded g c =
    let old = c.recorded.inside.book in
    let new = c.leave-ended.new.self in
    let entries = c.recorded.inside.history in
    let left = c.leave-ended.ensures in
    let number = c.args.subscription.cursor.lane.number in
    let idles = left.lane in
    let begun = left.due.lane.begun in
    let low : old.journal.before ≤ c.leave-ended.result.at = omega (arith, begun, left.at) in (
      subst (λ (book : BookView). IsRecorded g.N.Recorded.policy g.N.Recorded.places book c.record.new.history) (sym c.take_left.ensures) (subst (IsRecorded g.N.Recorded.policy g.N.Recorded.places new) (sym (c.record.ensures.longer ∙ ap (λ lane. entries ++ Accepted (Left lane) 0 (Some c.leave-ended.result) ∷ []) c.lane.ensures))
          (recorded_more old new entries (Left number) 0 (Some c.leave-ended.result) c.recorded.invariant.0 c.kept.ensures c.kept-2.ensures left.journal
          (prefix_same _ _ (ap (λ (t : Tail Batch). t.log) left.log)) left.limits
          (cuts_one old new (Left number) 0 number (λ lane was. refl) (λ stands. omega (arith, idles, stands)) left.others) (lags_one old new entries (Left number) 0 (Some c.leave-ended.result) number c.recorded.invariant.0 (λ lane was. refl) left.others) (left.endings.0, left.endings.1, low) left.gone)),
      c.recorded.invariant.1,
    )

-- two that tell of one thing are one
one_flag : {P : Type 0} (told flag : Bool) → (IsTrue told ↔ P) → (flag ≡ true → P) → (flag ≡ false → P → ⊥) → told ≡ flag
one_flag true true told holds fails = refl
one_flag true false told holds fails = absurd (fails refl (told.0 refl))
one_flag false true told holds fails = told.1 (holds refl)
one_flag false false told holds fails = refl

pub returns-clause-sees : goal.returns-clause-sees
returns-clause-sees g c =
    let old = c.recorded.inside.book in
    let entries = c.recorded.inside.history in
    let left = c.leave-ended.ensures in
    let s = c.args.subscription in
    let number = s.cursor.lane.number in
    let tells = tells_of old entries c.recorded.invariant.0 number (lane_low old.journal number s.at c.kept.ensures.journal.legal left.due.lane) in
    sees_called c.args.caller.now.front c.record.new.caller.front entries c.record.new.history (Left c.lane.result) (Left number) 0 (Some c.leave-ended.result) _
    (ap Left c.lane.ensures) c.record.ensures.longer c.record.ensures.known c.record.ensures.seen c.record.ensures.made c.record.ensures.looked
    (record {
      due = due_whole old entries c.recorded.invariant.0 c.kept.ensures s left.due;
      at = left.at;
      count = left.taken;
      closed = left.closed;
      cut = one_flag c.leave-ended.result.cut (is_cut entries number) left.cut tells.yes tells.no;
      entry = refl;
    })

pub returns-clause-places : goal.returns-clause-places
returns-clause-places g c = c.leave-ended.ensures.due.places ∙ c.recorded.invariant.0.limits.1
