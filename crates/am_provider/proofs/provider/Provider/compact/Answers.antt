use Rattle.std.proofs.Common.{◌≡◌, ◌∙◌, [], ◌∷◌, ◌++◌, refl, sym, ap, subst, rules}
use Rattle.am_provider.specs.Histories.{Compacted}
use Rattle.am_provider.specs.inside.Records.{IsRecorded}
use Rattle.am_provider.proofs.Answering.{sees_none}
use Rattle.am_provider.proofs.Recording.{recorded_compacted}
use Rattle.am_provider.proofs.provider.Provider.compact.Goals as goal

pub invariant_of-recorded-2 : goal.invariant_of-recorded-2
invariant_of-recorded-2 g c =
    let entry : c.of.result.value ≡ Compacted c.in-Ok.count = search rules in (
      subst (λ b. IsRecorded g.N.Recorded.policy g.N.Recorded.places b c.push.new.self) (sym c.take_discarded.ensures)
          (subst (IsRecorded g.N.Recorded.policy g.N.Recorded.places c.compact.new.self) (sym (c.push.ensures.longer ∙ ap (λ e. c.recorded.inside.history ++ e ∷ []) entry))
          (recorded_compacted c.recorded.inside.book c.compact.new.self c.recorded.inside.history c.in-Ok.count c.recorded.invariant.0 c.in-Ok.ensures.same c.in-Ok.ensures.count)),
      c.recorded.invariant.1,
    )

pub returns-in-Err-clause-sees : goal.returns-in-Err-clause-sees
returns-in-Err-clause-sees g c =
    sees_none c.args.caller.now.front c.show.new.to c.recorded.inside.history _ c.show.ensures.seen c.show.ensures.to refl
