use Rattle.std.proofs.Common.{◌++◌, ◌∷◌, [], None, refl, sym, ap, ◌∙◌}
use Rattle.std.specs.declared.alloc.AllocError.{AllocError}
use Rattle.am_store.specs.declared.call.Call.TheVariants.{Collected}
use Rattle.am_provider.specs.Histories.{Accepted}
use Rattle.am_provider.specs.inside.Records.{RecordedView}
use Rattle.am_provider.proofs.Answering.{sees_none, sees_taken}
use Rattle.am_provider.proofs.Recording.{stored_whole}
use Rattle.am_provider.proofs.provider.Provider.take_resolved.Goals as goal

pub returns-clause-sees : goal.returns-clause-sees
returns-clause-sees g c =
    sees_taken AllocError c.args.now _ c.in-Ok.resolved c.args.caller.now.front _ c.recorded.inside.history c.recorded.inside.book.stored
    (stored_whole c.recorded.inside.book c.recorded.inside.history c.recorded.invariant.0 c.kept.ensures) c.in-Ok.ensures
    (c.in-Ok-collect_resolved.ensures.seen ∙ ap (λ (r : RecordedView). r.entries ++ Accepted (Collected c.args.now) 0 None ∷ []) (sym c.recorded.view_is)) c.in-Ok-collect_resolved.ensures.sees

pub returns-in-Err-clause-sees : goal.returns-in-Err-clause-sees
returns-in-Err-clause-sees g c =
    sees_none c.args.caller.now.front c.show.new.to c.recorded.inside.history _ c.show.ensures.seen c.show.ensures.to refl
