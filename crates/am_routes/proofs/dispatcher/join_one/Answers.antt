use Rattle.std.proofs.Common.{◌≡◌, [], ◌∷◌, Some, None, refl, sym, ap, subst, ◌∙◌, arith, rules}
use Rattle.std.proofs.lemmas.Grind.{common_steps}
use Rattle.std.specs.List.{position}
use Rattle.std.specs.Map.{keys_of}
use Rattle.std.specs.Map as map_of
use Rattle.std.proofs.lemmas.List.{map-append}
use Rattle.indexmap.specs.IndexMap.{insert_entry, set_value_at}
use Rattle.indexmap.proofs.CallerLemmas.{insert_entry-new}
use Rattle.am_labels.specs.LabelSets.{Labels}
use Rattle.am_alert.specs.declared.alert.Alert.{Alert}
use Rattle.am_keyed.specs.Keyed.{with_last_alert}
use Rattle.am_routes.specs.declared.dispatcher.GroupKey.{GroupKey}
use Rattle.am_routes.specs.RouteAnswers.{Node}
use Rattle.am_config.specs.GroupLabels.{group_labels}
use Rattle.am_routes.specs.Groups.{GroupView}
use Rattle.am_routes.specs.inside.Searches.{node_of}
use Rattle.am_routes.specs.inside.GroupMaps.{groups_in, AreKeyedByGroups}
use Rattle.am_routes.proofs.GroupMaps.{take_last, same_key, IsKeyOf, member_begins, member_joins, keys_kept, group_written, written_same, written_kept, change_undone, nothing, err_holds}
use Rattle.am_routes.proofs.dispatcher.join_one.Goals as goal

begun : Node → Alert → Labels → GroupView
begun node alert labels = record { route = node.number; receiver = node.route.receiver; labels = labels; alerts = alert ∷ [] }

pub returns-in_err-change-in-Some-clause-kept : goal.returns-in_err-change-in-Some-clause-kept
returns-in_err-change-in-Some-clause-kept c = grind (arith, common_steps, written_same)

pub returns-in_err-change-in-Some-clause-err : goal.returns-in_err-change-in-Some-clause-err
returns-in_err-change-in-Some-clause-err c = grind (arith, common_steps, err_holds, written_same)

pub returns-in_ok-change-in-Some-clause-joined : goal.returns-in_ok-change-in-Some-clause-joined
returns-in_ok-change-in-Some-clause-joined c =
    let entries = c.args.groups.now.entries in
    let node = node_of c.args.found.now in
    let alert = c.args.alert.now in
    let group = c.index_mut.result.now in
    let labels = group_labels node.route.group_by alert.labels in
    let key : GroupKey = record { route = c.args.found.now.id; labels = c.in_ok-labels.labels } in
    let of : IsKeyOf node labels key = record { route = refl; labels_are = c.in_ok-labels.ensures } in
    let found : position (same_key key) (keys_of entries) ≡ Some c.in-Some.at = sym c.in-Some.ensures.index in
    let there : map_of.lookup (same_key key) entries ≡ Some group = sym c.in-Some.ensures.value ∙ c.index_mut.ensures.value in
    ap (λ g. groups_in (set_value_at entries c.in-Some.at g)) c.in_ok-change-in-Some.ensures.put
    ∙ (ap groups_in (group_written entries key (record group { alerts = with_last_alert alert group.alerts }) c.in-Some.at found)
    ∙ member_joins node labels alert key group entries of c.requires there)

pub returns-in_ok-change-in-Some-clause-undo : goal.returns-in_ok-change-in-Some-clause-undo
returns-in_ok-change-in-Some-clause-undo c = grind (arith, common_steps, change_undone)

pub returns-in_ok-change-in-Some-clause-kept : goal.returns-in_ok-change-in-Some-clause-kept
returns-in_ok-change-in-Some-clause-kept c = grind (arith, common_steps, written_kept)

pub returns-in_ok-insert-in-None-clause-joined : goal.returns-in_ok-insert-in-None-clause-joined
unfolding begun
returns-in_ok-insert-in-None-clause-joined c =
    let entries = c.args.groups.now.entries in
    let node = node_of c.args.found.now in
    let alert = c.args.alert.now in
    let labels = group_labels node.route.group_by alert.labels in
    let key : GroupKey = record { route = c.args.found.now.id; labels = c.in_ok-labels.labels } in
    let of : IsKeyOf node labels key = record { route = refl; labels_are = c.in_ok-labels.ensures } in
    let put : c.insert.new.self.entries ≡ insert_entry same_key entries key c.in_ok-group-in-None.group = c.in_ok-insert-in-None.ensures.entries in
    let none : map_of.lookup (same_key key) entries ≡ None = nothing (map_of.lookup (same_key key) entries) c.in-None.ensures.found in
    let new = begun node alert in
    let group : c.in_ok-group-in-None.group ≡ new labels = c.in_ok-group-in-None.ensures ∙ ap new (c.in_ok-copy-in-None.ensures ∙ c.in_ok-labels.ensures) in
    ap groups_in (put ∙ ap (insert_entry same_key entries key) group) ∙ member_begins node labels alert key entries of c.requires none

pub returns-in_ok-insert-in-None-clause-undo : goal.returns-in_ok-insert-in-None-clause-undo
returns-in_ok-insert-in-None-clause-undo c = search (rules, same_key, nothing, insert_entry-new, map-append, take_last)

pub returns-in_ok-insert-in-None-clause-kept : goal.returns-in_ok-insert-in-None-clause-kept
returns-in_ok-insert-in-None-clause-kept c =
    let entries = c.args.groups.now.entries in
    let key : GroupKey = record { route = c.args.found.now.id; labels = c.in_ok-labels.labels } in
    let put : c.insert.new.self.entries ≡ insert_entry same_key entries key c.in_ok-group-in-None.group = c.in_ok-insert-in-None.ensures.entries in
    let group = c.in_ok-group-in-None.ensures in
    subst AreKeyedByGroups (sym put) (keys_kept key c.in_ok-group-in-None.group entries (sym (ap (λ (g : GroupView). g.route) group)) (sym (ap (λ (g : GroupView). g.labels) group ∙ c.in_ok-copy-in-None.ensures)) c.requires)
