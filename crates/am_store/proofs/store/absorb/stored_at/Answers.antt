use Rattle.std.proofs.Common.{◌≡◌, Some, None, sym, ap, ◌∙◌, rules}
use Rattle.std.specs.Arc.{arc_value}
use Rattle.std.specs.Option.{option_copied, option_map}
use Rattle.indexmap.specs.IndexMap.{index_of_by}
use Rattle.indexmap.proofs.MapLemmas.{Found-position, Missing-position}
use Rattle.am_labels.specs.LabelSets.{same_labels}
use Rattle.am_store.proofs.Entries.{lookup_held}
use Rattle.am_store.proofs.store.absorb.stored_at.Goals as goal

pub returns-in_err-at : goal.returns-in_err-at
returns-in_err-at c =
    let test = same_labels c.args.labels.now in
    let entries = c.args.alerts.now.entries in
    let none : index_of_by test c.args.alerts.now ≡ None = search rules in
    ap option_copied c.from_residual.ensures
    ∙ (ap (option_map arc_value) (sym (Missing-position test entries none).value) ∙ lookup_held c.args.labels.now entries c.requires.kept)

pub returns : goal.returns
returns c =
    let test = same_labels c.args.labels.now in
    let entries = c.args.alerts.now.entries in
    let at = c.in_ok-at.field-0 in
    let some : index_of_by test c.args.alerts.now ≡ Some at = search rules in
    ap Some c.deref.ensures
    ∙ (ap (option_map arc_value) (sym c.index.ensures ∙ sym (Found-position test entries at some).value) ∙ lookup_held c.args.labels.now entries c.requires.kept)
