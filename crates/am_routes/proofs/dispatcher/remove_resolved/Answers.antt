use Rattle.std.proofs.Common.{◌≡◌, ◌+◌, ◌<◌, ℕ, length, take, min, sym, ap, ◌∙◌, arith, rules}
use Rattle.std.specs.List.{count_by}
use Rattle.std.proofs.lemmas.List.{length-map}
use Rattle.std.proofs.lemmas.Option.{get_or_from_slice_get}
use Rattle.indexmap.specs.Layout.{length-set_value_at}
use Rattle.am_alert.specs.Merging.{is_resolved_at}
use Rattle.am_routes.specs.declared.dispatcher.GroupKey.{GroupKey}
use Rattle.am_routes.specs.Groups.{GroupView, removed_alerts}
use Rattle.am_routes.specs.inside.GroupMaps.{groups_in}
use Rattle.am_routes.proofs.GroupMaps.{written_kept, groups_set, resolved_more}
use Rattle.std.proofs.Common.{get_or}
use Rattle.std.proofs.lemmas.List.Sums.{sum_by_more}
use Rattle.am_routes.proofs.dispatcher.remove_resolved.Goals as goal

at_most : (a b m : ℕ) → min (min a m + b) m ≡ min (a + b) m
at_most a b m = omega arith

pub loop-at-preserved : goal.loop-at-preserved
loop-at-preserved c =
    let now = c.args.now in
    let all = groups_in c.args.groups.now.entries in
    let at = c.loop-at.at in
    let entries = c.loop-at.groups.entries in
    let group = c.index_mut.result.now in
    let so_far = c.loop-at.invariant in
    let resolved = λ (g : GroupView). count_by (is_resolved_at now) g.alerts in
    let long : length all ≡ length c.args.groups.now.entries = length-map c.args.groups.now.entries (λ (entry : GroupKey × GroupView). entry.1) in
    let early : at < length all = omega (arith, c.len-at-end.ensures.len) in
    let step = resolved_more now (groups_in entries) all at group early so_far.left (sym (get_or_from_slice_get (groups_in entries) at group group c.index_mut.ensures.value)) in
    let counted : c.remove_resolved.result ≡ resolved (get_or all at group) = c.remove_resolved.ensures.removed ∙ ap resolved step.1 in
    let more : removed_alerts now (take (at + 1) all) ≡ removed_alerts now (take at all) + resolved (get_or all at group) = sum_by_more resolved all at group early in
    search (rules, groups_set, at_most, written_kept, length-set_value_at)
