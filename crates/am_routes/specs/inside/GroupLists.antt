-- Groups as a list that alerts are put into, one after another. Only code of this crate cites it.
use Rattle.std.specs.Prelude.{ℕ, Bool, ◌&&◌, if◌then◌else◌, nat_eq, List, [], ◌∷◌, Option}
use Rattle.std.specs.Option.{option_map}
use Rattle.std.specs.List.{filter_map}
use Rattle.am_alert.specs.declared.alert.Alert.{Alert}
use Rattle.am_alert.specs.Merging.{unresolved}
use Rattle.am_labels.specs.LabelSets.{Labels, same_labels}
use Rattle.am_keyed.specs.Keyed.{with_last_alert}
use Rattle.am_routes.specs.RouteAnswers.{Node}
use Rattle.am_config.specs.GroupLabels.{group_labels}
use Rattle.am_routes.specs.Groups.{GroupView, some_of}

-- the group of a route and labels
abbrev pub is_group : Node → Labels → GroupView → Bool
is_group node labels group = nat_eq node.number group.route && same_labels labels group.labels

-- groups with an alert put into one: into the one of its route and labels, else into a new one at the end
abbrev pub with_member : Node → Labels → Alert → List GroupView → List GroupView
with_member node labels alert [] =
    record { route = node.number; receiver = node.route.receiver; labels = labels; alerts = alert ∷ [] } ∷ []
with_member node labels alert (group ∷ groups) =
    if is_group node labels group
    then record group { alerts = with_last_alert alert group.alerts } ∷ groups
    else group ∷ with_member node labels alert groups

-- groups with an alert put into one of a route
abbrev pub joined : Node → Alert → List GroupView → List GroupView
joined node alert groups =
    with_member node (group_labels node.route.group_by alert.labels) alert groups

-- groups with an alert put into one of each route
abbrev pub with_members : List Node → Alert → List GroupView → List GroupView
with_members [] alert groups = groups
with_members (node ∷ nodes) alert groups = with_members nodes alert (joined node alert groups)

-- a group without what is resolved, if an alert is left
abbrev pub swept_group : ℕ → GroupView → Option GroupView
swept_group now group =
    option_map (λ alerts. record group { alerts = alerts }) (some_of (unresolved now group.alerts))

-- groups without what is resolved, and without those that are left empty
abbrev pub swept : ℕ → List GroupView → List GroupView
swept now groups = filter_map (swept_group now) groups

-- a group without what is resolved
abbrev pub without_resolved : ℕ → GroupView → GroupView
without_resolved now group = record group { alerts = unresolved now group.alerts }
