use Rattle.std.proofs.Common.{◌≡◌, [], ◌∷◌, ◌++◌, not, filter, sym, ap, ◌∙◌, arith}
use Rattle.std.proofs.lemmas.Grind.{common_steps}
use Rattle.am_routes.specs.Groups.{GroupView, is_empty}
use Rattle.am_routes.specs.inside.GroupMaps.{groups_in}
use Rattle.am_routes.specs.Groups.{DispatcherView, Sweep, groups_of}
use Rattle.am_routes.specs.inside.GroupLists.{swept}
use Rattle.am_routes.proofs.GroupMaps.{swept-filter, empties-count}
use Rattle.am_routes.proofs.Groups.{groups-sweep}
use Rattle.am_routes.proofs.dispatcher.Dispatcher.sweep.Goals as goal

pub returns-clause-swept : goal.returns-clause-swept
returns-clause-swept c =
    let old = c.args.self.now in
    let now = c.args.now in
    let tree : c.self.inside.tree ≡ old.tree = ap (λ (d : DispatcherView). d.tree) c.self.view_is in
    let groups : groups_in c.self.inside.groups.entries ≡ old.groups = ap (λ (d : DispatcherView). d.groups) c.self.view_is in (
      tree,
      λ events has.
          c.remove_empty-groups.ensures.left
          ∙ (ap (filter (λ (group : GroupView). not (is_empty group.alerts))) c.remove_resolved-alerts.ensures.left
          ∙ (swept-filter now (groups_in c.self.inside.groups.entries)
          ∙ (ap (swept now) (groups ∙ has)
          ∙ (sym (groups-sweep old.tree events now)
          ∙ ap (λ tree. groups_of tree (events ++ Sweep now ∷ [])) (sym tree))))),
    )

pub returns-clause-groups : goal.returns-clause-groups
returns-clause-groups c = grind (arith, common_steps, empties-count)
