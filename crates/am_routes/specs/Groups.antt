-- The groups of the alerts that a dispatcher was given (Alertmanager's `dispatch.Dispatcher.Groups`), by
-- the list of these alerts and of its sweeps: one fold for each label set in each group, and the order in
-- which they began.
use Rattle.std.specs.Prelude.{◌≡◌, ℕ, Bool, true, false, ◌++◌, ◌&&◌, if◌then◌else◌, nat_eq, List, [], ◌∷◌}
use Rattle.std.specs.Prelude.{map, fold, Option, Some, None, refl}
use Rattle.std.specs.Coded.{Coded, code_by, coded×, coded_ℕ, coded_list}
use Rattle.std.specs.Option.{option_and_then}
use Rattle.std.specs.List.{count_by, flat_map, filter_map, list_all, sum_by}
use Rattle.am_alert.specs.declared.alert.Alert.{Alert}
use Rattle.am_alert.specs.Alerts.{coded_alert}
use Rattle.am_alert.specs.Merging.{is_resolved_at, unless_resolved}
use Rattle.am_labels.specs.LabelSets.{Labels, same_labels, coded_labels}
use Rattle.am_config.specs.Routes.{Forest}
use Rattle.am_routes.specs.RouteAnswers.{Node, answer_of}
use Rattle.am_config.specs.GroupLabels.{group_labels}
use Rattle.am_routes.specs.InOrder.{in_order}

-- what a dispatcher is given: an alert, or a sweep of what is resolved at a moment
pub data DispatchEvent : Type 0 where
  Take : (alert : Alert) → DispatchEvent
  Sweep : (now : ℕ) → DispatchEvent

-- what changes groups: an alert joins that of a route and its group labels, or what is resolved is removed
pub data GroupUpdate : Type 0 where
  Join : (node : Node) (labels : Labels) (alert : Alert) → GroupUpdate
  Resolve : (now : ℕ) → GroupUpdate

-- an alert joins one group of each route that its label set matches
abbrev pub joins : List Node → Alert → List GroupUpdate
joins nodes alert = map (λ node. Join node (group_labels node.route.group_by alert.labels) alert) nodes

-- what an event updates
abbrev pub updates_of_event : Forest → DispatchEvent → List GroupUpdate
updates_of_event tree (Take alert) = joins (answer_of alert.labels 0 tree) alert
updates_of_event tree (Sweep now) = Resolve now ∷ []

-- what all events update, in order
abbrev pub group_updates : Forest → List DispatchEvent → List GroupUpdate
group_updates tree events = flat_map (updates_of_event tree) events

-- what identifies a group: its route and its labels
pub record GroupIdentity : Type 0 where
  pub route : ℕ
  pub labels : Labels

-- whether two groups are the same
abbrev pub same_group : GroupIdentity → GroupIdentity → Bool
same_group a b = nat_eq a.route b.route && same_labels a.labels b.labels

-- the group of an update
abbrev pub group_key : GroupUpdate → Option GroupIdentity
group_key (Join node labels alert) = Some (record { route = node.number; labels = labels })
group_key (Resolve now) = None

-- the label set of an update of a group
abbrev pub label_set : GroupIdentity → GroupUpdate → Option Labels
label_set key (Join node labels alert) =
    if same_group key (record { route = node.number; labels = labels })
    then Some alert.labels else None
label_set key (Resolve now) = None

-- what one label set holds in one group after an update: the alert that joins, or nothing if that is
-- resolved
abbrev pub after_group_update : GroupIdentity → Labels → Option Alert → GroupUpdate → Option Alert
after_group_update key labels held (Join node group alert) =
    if same_group key (record { route = node.number; labels = group }) && same_labels labels alert.labels
    then Some alert else held
after_group_update key labels held (Resolve now) = option_and_then (unless_resolved now) held

-- what it holds after all updates
abbrev pub held_in : GroupIdentity → Labels → List GroupUpdate → Option Alert
held_in key labels all = fold (after_group_update key labels) None all

-- a group's alerts, in the order in which their label sets began
abbrev pub alerts_of_group : GroupIdentity → List GroupUpdate → List Alert
alerts_of_group key all = map (λ entry. entry.1) (in_order (label_set key) (held_in key) all)

-- some alerts, or nothing
abbrev pub some_of : List Alert → Option (List Alert)
some_of [] = None
some_of (alert ∷ alerts) = Some (alert ∷ alerts)

-- what a group holds: its alerts, if there is one
abbrev pub members : GroupIdentity → List GroupUpdate → Option (List Alert)
members key all = some_of (alerts_of_group key all)

-- a group, as contracts see it
pub record GroupView : Type 0 where
  pub route : ℕ
  pub receiver : List ℕ
  pub labels : Labels
  pub alerts : List Alert

-- it is stored as the tuple of its fields
abbrev pub coded_group : Coded GroupView
coded_group =
    code_by (ℕ × (List ℕ × (Labels × List Alert)))
    (coded× coded_ℕ (coded× (coded_list coded_ℕ) (coded× coded_labels (coded_list coded_alert))))
    (λ g. (g.route, (g.receiver, (g.labels, g.alerts))))
    (λ p. record { route = p.0; receiver = p.1.0; labels = p.1.1.0; alerts = p.1.1.1 })
    (λ _. refl)

-- the group that an update began, with the alerts that it has
abbrev pub group_of : GroupUpdate × List Alert → Option GroupView
group_of (Join node labels alert, alerts) = Some (record {
  route = node.number;
  receiver = node.route.receiver;
  labels = labels;
  alerts = alerts;
})
group_of (Resolve now, alerts) = None

-- the groups that hold an alert, in the order in which they began
abbrev pub groups_after : List GroupUpdate → List GroupView
groups_after all = filter_map group_of (in_order group_key members all)

-- the groups of a tree after these events
abbrev pub groups_of : Forest → List DispatchEvent → List GroupView
groups_of tree events = groups_after (group_updates tree events)

-- a dispatcher, as contracts see it: its tree, and its groups
pub record DispatcherView : Type 0 where
  pub tree : Forest
  pub groups : List GroupView

-- a dispatcher after one more event: for each list of events of which it had the groups, it then has those
-- of that list followed by the event
abbrev pub Follows : DispatchEvent → DispatcherView → DispatcherView → Type 0
Follows event old new =
    (new.tree ≡ old.tree)
    × ((events : List DispatchEvent) → old.groups ≡ groups_of old.tree events
    → new.groups ≡ groups_of new.tree (events ++ event ∷ []))

-- no alert
abbrev pub is_empty : List Alert → Bool
is_empty [] = true
is_empty (alert ∷ alerts) = false

-- how many alerts a sweep removes: one that is in two groups counts twice
abbrev pub removed_alerts : ℕ → List GroupView → ℕ
removed_alerts now groups = sum_by (λ group. count_by (is_resolved_at now) group.alerts) groups

-- how many groups a sweep removes: those whose alerts are all resolved
abbrev pub removed_groups : ℕ → List GroupView → ℕ
removed_groups now groups = count_by (λ group. list_all (is_resolved_at now) group.alerts) groups
