use Rattle.std.proofs.Common.{◌≡◌, refl, subst, List}
use Rattle.std.specs.Prelude.{IfOk}
use Rattle.am_alert.specs.declared.alert.Alert.{Alert}
use Rattle.am_provider.proofs.Answering.{sees_none}
use Rattle.am_provider.proofs.Recording.{stored_whole}
use Rattle.am_provider.proofs.provider.Provider.stored.Goals as goal

pub returns-clause-sees : goal.returns-clause-sees
returns-clause-sees g c =
    let whole = stored_whole c.recorded.inside.book c.recorded.inside.history c.recorded.invariant.0 c.kept.ensures in
    sees_none c.args.caller.now.front c.show.new.to c.recorded.inside.history _ c.show.ensures.seen c.show.ensures.to
    (subst (λ (stored : List Alert). IfOk c.stored-stored.result (λ alerts. alerts ≡ stored)) whole c.stored-stored.ensures.alerts, refl)
