use Rattle.std.proofs.Common.{◌≡◌, IfOk, subst, rules, arith}
use Rattle.std.proofs.lemmas.Grind.{common_steps}
use Rattle.std.specs.FinMap.{entries}
use Rattle.am_labels.specs.LabelSets.{Labels, last_holds}
use Rattle.am_labels.proofs.LabelSets.LabelMaps.{entries_rising, map_of_entries, sorted_entries}
use Rattle.am_labels.proofs.label_set.LabelSet.of.Goals as goal

pub returns-then-are_ascending : goal.returns-then-are_ascending
returns-then-are_ascending c = grind (arith, common_steps, entries_rising, map_of_entries)

pub from_ascending-requires-2 : goal.from_ascending-requires-2
from_ascending-requires-2 c = grind (arith, common_steps, sorted_entries)

pub returns : goal.returns
returns c =
    let last : c.in_ok-last_of_each.field-0 ≡ entries (last_holds c.args.pairs) = search rules in
    subst (λ (m : Labels). IfOk c.from_ascending-2.result (λ labels. labels ≡ m)) (map_of_entries _ _ last) c.from_ascending-2.ensures
