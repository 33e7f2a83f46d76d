use Rattle.std.proofs.Common.{◌≡◌, ◌++◌}
use Rattle.std.specs.Prelude.{option_map}
use Rattle.std.specs.Vec.Iter.{into_iter_items}
use Rattle.serde_json.specs.View.{items_view}
use Rattle.am_posts.specs.WholeAlerts.{whole_alerts_in}
use Rattle.am_script.proofs.put_reader.alerts_of_each.Given as goal

-- the alerts so far, with those of the elements that are left, are those of all elements
abbrev pub invariant-loop-element : goal.invariant-loop-element
invariant-loop-element l =
    option_map (λ rest. l.alerts.items ++ rest) (whole_alerts_in (items_view (into_iter_items l.element-iterator))) ≡ whole_alerts_in (items_view l.fn.elements.items)
