use Rattle.std.proofs.Common.{rules, ◌≡◌, not, length, filter, refl, sym, ap, subst, ◌∙◌, arith}
use Rattle.std.specs.List.{count_by}
use Rattle.std.proofs.lemmas.List.Sums.{length-filter}
use Rattle.std.proofs.lemmas.List.Filters.{length-filter_both}
use Rattle.std.proofs.lemmas.List.{length-map}
use Rattle.indexmap.proofs.CallerLemmas.{filter-RetainsPairs}
use Rattle.am_routes.specs.declared.dispatcher.GroupKey.{GroupKey}
use Rattle.am_routes.specs.Groups.{GroupView, is_empty}
use Rattle.am_routes.specs.inside.GroupMaps.{groups_in, AreKeyedByGroups}
use Rattle.am_routes.proofs.GroupMaps.{groups_filtered, keys_filtered}
use Rattle.am_routes.proofs.dispatcher.remove_empty.Goals as goal

left : (c : goal.After-len) → c.retain.new.self.entries ≡ filter (λ (entry : GroupKey × GroupView). not (is_empty entry.1.alerts)) c.args.groups.now.entries
left c = filter-RetainsPairs _ _ _ (λ k v b w g call. search rules) _ _ c.retain.ensures.filtered

pub returns-clause-left : goal.returns-clause-left
returns-clause-left c = ap groups_in (left c) ∙ groups_filtered (λ group. not (is_empty group.alerts)) c.args.groups.now.entries

pub returns-clause-kept : goal.returns-clause-kept
returns-clause-kept c = subst AreKeyedByGroups (sym (left c)) (keys_filtered (λ group. not (is_empty group.alerts)) c.args.groups.now.entries c.requires)

pub returns-clause-removed : goal.returns-clause-removed
returns-clause-removed c =
    let olds = groups_in c.args.groups.now.entries in
    let none = λ (group : GroupView). is_empty group.alerts in
    let both = length-filter_both none (λ group. not (none group)) (λ group. refl) olds in
    let gone : length (filter none olds) ≡ count_by none olds = length-filter none olds in
    let rest : length (groups_in c.retain.new.self.entries) ≡ length (filter (λ group. not (none group)) olds) = ap length (returns-clause-left c) in
    let before : length olds ≡ length c.args.groups.now.entries = length-map c.args.groups.now.entries (λ (entry : GroupKey × GroupView). entry.1) in
    let after : length (groups_in c.retain.new.self.entries) ≡ length c.retain.new.self.entries = length-map c.retain.new.self.entries (λ (entry : GroupKey × GroupView). entry.1) in
    omega (arith, both, gone, rest, before, after, c.len-before.ensures.len, c.len.ensures.len)
