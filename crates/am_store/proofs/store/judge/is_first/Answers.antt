use Rattle.std.proofs.Common.{ap, ◌∙◌}
use Rattle.std.specs.Arc.{arc_value}
use Rattle.std.specs.Option.{option_map}
use Rattle.am_store.proofs.Entries.{lookup_held}
use Rattle.am_store.proofs.Judging.{first_is}
use Rattle.am_store.proofs.store.judge.is_first.Goals as goal

pub returns : goal.returns
returns c =
    first_is c.get.result c.is_none.result _ c.is_none.ensures
    (ap (option_map arc_value) c.get.ensures.value ∙ lookup_held c.args.labels.now c.args.alerts.now.entries c.requires)
