use Rattle.std.proofs.Common.{sym, subst}
use Rattle.am_labels.specs.LabelSets.{Labels}
use Rattle.am_posts.specs.FromParts.{HasValues}
use Rattle.am_posts.proofs.ValidAlerts.{labels_valued}
use Rattle.am_posts.proofs.unjudged_alert.UnjudgedAlert.from_parts.Goals as goal

pub invariant_of-result : goal.invariant_of-result
invariant_of-result c =
    subst (λ (labels : Labels). HasValues labels) (sym c.in_ok-labels_with_values.ensures) (labels_valued c.args.parts.labels.items)
