use Rattle.std.proofs.Common.{Some, ap, sym, ◌∙◌}
use Rattle.std.specs.Prelude.{filter, option_map, option_and_then}
use Rattle.serde_json.specs.View.{view}
use Rattle.am_labels.specs.LabelSets.{last_holds}
use Rattle.am_posts.specs.Postables.{has_value, labels_of}
use Rattle.am_posts.proofs.postable.labels_of.Goals as goal

pub returns : goal.returns
returns c =
    ap (λ value. option_and_then labels_of (option_map view value)) c.in-Some.is
    ∙ (ap (option_map (λ pairs. last_holds (filter has_value pairs))) c.in_ok-pairs_from.ensures ∙ ap Some (sym c.in_ok-labels_with_values.ensures))
