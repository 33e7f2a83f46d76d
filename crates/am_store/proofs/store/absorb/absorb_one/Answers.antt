use Rattle.std.proofs.Common.{◌≡◌, Some, ap, sym, subst, ◌∙◌, rules, arith}
use Rattle.std.proofs.lemmas.Grind.{common_steps}
use Rattle.std.specs.Arc.{arc_value}
use Rattle.std.specs.List.{position}
use Rattle.std.specs.Map.{keys_of}
use Rattle.indexmap.specs.IndexMap.{set_value_at}
use Rattle.indexmap.proofs.CallerLemmas.{insert_entry-new}
use Rattle.am_alert.specs.declared.alert.Alert.{Alert}
use Rattle.am_alert.specs.Merging.{absorbed}
use Rattle.am_labels.specs.LabelSets.{same_labels}
use Rattle.am_store.specs.AlertList.{lookup, with_alert}
use Rattle.am_store.specs.AlertMaps.{stored_in, AreKeptByLabels}
use Rattle.am_store.proofs.Entries.{stored_inserted, kept_inserted, written_at, added_back, replaced_back, became_own}
use Rattle.am_store.proofs.store.absorb.absorb_one.Goals as goal

pub returns-in-Some-clause-stored : goal.returns-in-Some-clause-stored
returns-in-Some-clause-stored c =
    let entries = c.args.alerts.now.entries in
    let new = arc_value c.args.block.now in
    let labels = new.labels in
    let block = c.make_mut.follows.lender c.absorb_in_place.new.new in
    let shared = c.in_ok-shared.shared in
    let became : arc_value block ≡ absorbed c.args.now (lookup labels (stored_in entries)) new = search rules in
    let value : arc_value shared ≡ arc_value block = search rules in
    let own = ap (λ (a : Alert). a.labels) (value ∙ became) ∙ became_own c.args.now (stored_in entries) new in
    let found : position (same_labels labels) (keys_of entries) ≡ Some c.in-Some.at = search rules in
    let after : c.replace-before.new.dest ≡ shared = c.replace-before.ensures.after in
    ap stored_in (ap (set_value_at entries c.in-Some.at) after ∙ written_at entries labels shared c.in-Some.at found)
    ∙ (stored_inserted entries labels shared c.requires own ∙ ap (λ a. with_alert a (stored_in entries)) value)

pub returns-in-Some-clause-kept : goal.returns-in-Some-clause-kept
returns-in-Some-clause-kept c =
    let entries = c.args.alerts.now.entries in
    let new = arc_value c.args.block.now in
    let labels = new.labels in
    let block = c.make_mut.follows.lender c.absorb_in_place.new.new in
    let shared = c.in_ok-shared.shared in
    let became : arc_value block ≡ absorbed c.args.now (lookup labels (stored_in entries)) new = search rules in
    let value : arc_value shared ≡ arc_value block = search rules in
    let own = ap (λ (a : Alert). a.labels) (value ∙ became) ∙ became_own c.args.now (stored_in entries) new in
    let found : position (same_labels labels) (keys_of entries) ≡ Some c.in-Some.at = search rules in
    let after : c.replace-before.new.dest ≡ shared = c.replace-before.ensures.after in
    subst AreKeptByLabels (sym (ap (set_value_at entries c.in-Some.at) after ∙ written_at entries labels shared c.in-Some.at found)) (kept_inserted entries labels shared c.requires own)

pub returns-in-Some-clause-change : goal.returns-in-Some-clause-change
returns-in-Some-clause-change c = grind (arith, common_steps, replaced_back)

pub returns-in_ok-insert-in-None-clause-stored : goal.returns-in_ok-insert-in-None-clause-stored
returns-in_ok-insert-in-None-clause-stored c = grind (arith, common_steps, became_own, stored_inserted)

pub returns-in_ok-insert-in-None-clause-kept : goal.returns-in_ok-insert-in-None-clause-kept
returns-in_ok-insert-in-None-clause-kept c = grind (arith, common_steps, became_own, kept_inserted)

pub returns-in_ok-insert-in-None-clause-change : goal.returns-in_ok-insert-in-None-clause-change
returns-in_ok-insert-in-None-clause-change c =
    let entries = c.args.alerts.now.entries in
    let new = arc_value c.args.block.now in
    let block = c.make_mut.follows.lender c.absorb_in_place.new.new in
    let became : arc_value block ≡ absorbed c.args.now (lookup new.labels (stored_in entries)) new = search rules in
    let own = ap (λ (a : Alert). a.labels) became ∙ became_own c.args.now (stored_in entries) new in
    grind (arith, common_steps, insert_entry-new, added_back)
