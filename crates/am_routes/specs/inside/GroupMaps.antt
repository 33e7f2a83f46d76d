-- How a dispatcher keeps its groups. Only code of this crate cites it.
use Rattle.std.specs.Prelude.{◌≡◌, List, [], ◌∷◌, map, ⊤}
use Rattle.am_routes.specs.declared.dispatcher.GroupKey.{GroupKey}
use Rattle.am_routes.specs.Groups.{GroupView}

-- the groups, by the entries of their map
abbrev pub groups_in : List (GroupKey × GroupView) → List GroupView
groups_in entries = map (λ entry. entry.1) entries

-- each group has its route and its labels as its key
abbrev pub AreKeyedByGroups : List (GroupKey × GroupView) → Type 0
AreKeyedByGroups [] = ⊤
AreKeyedByGroups (entry ∷ entries) =
    ((entry.0.route.0 ≡ entry.1.route) × (entry.0.labels ≡ entry.1.labels)) × AreKeyedByGroups entries
