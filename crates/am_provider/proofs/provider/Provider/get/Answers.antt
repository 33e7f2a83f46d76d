use Rattle.std.proofs.Common.{◌≡◌, ◌≢◌, None, refl, subst, List}
use Rattle.std.specs.Arc.{arc_value}
use Rattle.std.specs.Option.{option_map}
use Rattle.std.specs.Prelude.{IfOk, OnErr}
use Rattle.am_alert.specs.declared.alert.Alert.{Alert}
use Rattle.am_store.specs.AlertList.{lookup}
use Rattle.am_provider.proofs.Answering.{sees_none}
use Rattle.am_provider.proofs.Recording.{stored_whole}
use Rattle.am_provider.proofs.provider.Provider.get.Goals as goal

pub returns-clause-sees : goal.returns-clause-sees
returns-clause-sees g c =
    let whole = stored_whole c.recorded.inside.book c.recorded.inside.history c.recorded.invariant.0 c.kept.ensures in
    sees_none c.args.caller.now.front c.show.new.to c.recorded.inside.history _ c.show.ensures.seen c.show.ensures.to (
      subst (λ (stored : List Alert). IfOk c.get.result (λ found. option_map arc_value found ≡ lookup c.args.labels.now stored)) whole c.get.ensures.found,
      subst (λ (stored : List Alert). OnErr c.get.result (lookup c.args.labels.now stored ≢ None)) whole c.get.ensures.stored,
      refl,
    )
