-- By which labels a route groups an alert (Alertmanager's `dispatch.getGroupLabels`).
use Rattle.std.specs.List.{list_any}
use Rattle.std.specs.FinMap.{retain_keys}
use Rattle.am_labels.specs.LabelSets.{Labels}
use Rattle.am_labels.specs.Texts.{same_text}
use Rattle.am_config.specs.declared.group_by.GroupBy.{GroupBy}
use Rattle.am_config.specs.declared.group_by.GroupBy.TheVariants.{All, Names}

-- those of an alert's labels whose names are in `group_by`; a label that is missing stays missing
abbrev pub group_labels : GroupBy → Labels → Labels
group_labels All labels = labels
group_labels (Names names) labels = retain_keys labels (λ name. list_any (same_text name) names)
