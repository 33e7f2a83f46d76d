-- What undoing the last alert that a dispatcher took gives, by the changes that it made.
use Rattle.std.specs.Prelude.{ℕ, zero, suc, ◌-◌, List, [], ◌∷◌, take, length}
use Rattle.am_alert.specs.declared.alert.Alert.{Alert}
use Rattle.am_keyed.specs.declared.keyed.KeyChange.{KeyChange}
use Rattle.am_keyed.specs.Keyed.{before_alert}
use Rattle.am_routes.specs.declared.dispatcher.GroupChange.{GroupChange}
use Rattle.am_routes.specs.declared.dispatcher.GroupChange.TheVariants.{Begun, Changed}
use Rattle.am_routes.specs.declared.dispatcher.Noted.{Noted}
use Rattle.am_routes.specs.Groups.{DispatcherView, GroupView}

-- groups before the last change of the one at an index
abbrev pub changed_back : ℕ → KeyChange Alert → List GroupView → List GroupView
changed_back at change [] = []
changed_back zero change (group ∷ groups) =
    record group { alerts = before_alert change group.alerts } ∷ groups
changed_back (suc at) change (group ∷ groups) = group ∷ changed_back at change groups

-- groups before their last change
abbrev pub groups_before : GroupChange → List GroupView → List GroupView
groups_before Begun groups = take (length groups - 1) groups
groups_before (Changed at change) groups = changed_back at change groups

-- groups before some changes
abbrev pub all_before : List GroupChange → List GroupView → List GroupView
all_before [] groups = groups
all_before (change ∷ changes) groups = groups_before change (all_before changes groups)

-- a dispatcher before the alert that made these changes
abbrev pub undone : Noted → DispatcherView → DispatcherView
undone noted dispatcher =
    record dispatcher { groups = all_before noted.changes.items dispatcher.groups }
