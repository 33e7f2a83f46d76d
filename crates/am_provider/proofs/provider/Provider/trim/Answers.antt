use Rattle.std.proofs.Common.{◌≡◌, ◌∙◌, [], ◌∷◌, ◌++◌, length, refl, sym, ap, subst, rules}
use Rattle.am_history.specs.Fronts.{FrontView, made_at}
use Rattle.am_provider.specs.Histories.{EntryView, Trimmed}
use Rattle.am_provider.specs.inside.Records.{IsRecorded}
use Rattle.am_provider.proofs.Answering.{discards, sees_added, sees_none}
use Rattle.am_provider.proofs.Recording.{recorded_trimmed}
use Rattle.am_provider.proofs.provider.Provider.trim.Goals as goal

pub invariant_of-recorded-2 : goal.invariant_of-recorded-2
invariant_of-recorded-2 g c =
    let entry : c.of.result.value ≡ Trimmed c.in-Ok.count = search rules in (
      subst (λ b. IsRecorded g.N.Recorded.policy g.N.Recorded.places b c.push.new.self) (sym c.take_discarded.ensures)
          (subst (IsRecorded g.N.Recorded.policy g.N.Recorded.places c.trim.new.self) (sym (c.push.ensures.longer ∙ ap (λ e. c.recorded.inside.history ++ e ∷ []) entry))
          (recorded_trimmed c.recorded.inside.book c.trim.new.self c.recorded.inside.history c.in-Ok.count c.recorded.invariant.0 c.in-Ok.ensures.dropped c.in-Ok.ensures.journal c.in-Ok.ensures.log c.in-Ok.ensures.limits c.in-Ok.ensures.endings c.in-Ok.ensures.early c.in-Ok.ensures.gone)),
      c.recorded.invariant.1,
    )

pub returns-clause-sees : goal.returns-clause-sees
returns-clause-sees g c =
    let entries = c.recorded.inside.history in
    let entry : c.of.result.value ≡ Trimmed c.in-Ok.count = search rules in
    let by = c.push.ensures.by in
    sees_added c.args.caller.now.front c.push.new.by entries c.push.new.self (Trimmed c.in-Ok.count) _
    (c.push.ensures.longer ∙ ap (λ e. entries ++ e ∷ []) entry) c.push.ensures.seen (ap (λ (f : FrontView EntryView). f.seen) by)
    (ap (λ (f : FrontView EntryView). f.made) by ∙ ap (λ e. c.args.caller.now.front.made ++ made_at (length entries) e ∷ []) entry)
    (ap (λ (f : FrontView EntryView). f.seat) by, ap (λ (f : FrontView EntryView). f.looks) by)
    (discards c.recorded.inside.book entries c.recorded.invariant.0 c.kept.ensures c.in-Ok.count c.in-Ok.ensures.dropped, refl)

pub returns-in-Err-clause-sees : goal.returns-in-Err-clause-sees
returns-in-Err-clause-sees g c =
    sees_none c.args.caller.now.front c.show.new.to c.recorded.inside.history _ c.show.ensures.seen c.show.ensures.to refl
