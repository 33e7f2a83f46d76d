-- The groups go on alert by alert and sweep by sweep.
use Rattle.std.proofs.Common.{◌≡◌, ◌≢◌, ℕ, Bool, true, false, ◌&&◌, cond, List, [], ◌∷◌, ◌++◌, map, fold, Option, Some, None, refl, sym, ap, ◌∙◌, arith, rules}
use Rattle.std.specs.Option.{option_map, option_and_then, option_map_or, IfSome}
use Rattle.std.specs.Bool.{Decides}
use Rattle.std.specs.List.{filter_map}
use Rattle.std.proofs.lemmas.List.{append_assoc, append-nil}
use Rattle.std.proofs.lemmas.List.Sums.{fold-append}
use Rattle.std.proofs.lemmas.Bool.Decides.{Decides-and, Decides-like, Decides-eqb}
use Rattle.am_alert.specs.declared.alert.Alert.{Alert}
use Rattle.am_alert.specs.Merging.{unless_resolved, unresolved}
use Rattle.am_labels.specs.LabelSets.{Labels, same_labels}
use Rattle.am_labels.specs.LabelLaws.{labels_decide}
use Rattle.am_keyed.specs.Keyed.{with_last_alert}
use Rattle.am_config.specs.Routes.{Forest}
use Rattle.am_routes.specs.RouteAnswers.{Node, answer_of}
use Rattle.am_config.specs.GroupLabels.{group_labels}
use Rattle.am_routes.specs.InOrder.{in_order}
use Rattle.am_routes.specs.Groups.{DispatchEvent, Take, Sweep, GroupUpdate, Join, Resolve, joins, updates_of_event, group_updates, GroupIdentity, same_group, group_key, label_set, after_group_update, held_in, alerts_of_group, some_of, members, group_of, groups_after, groups_of}
use Rattle.am_routes.specs.inside.GroupLists.{with_member, with_members, swept}
use Rattle.am_routes.proofs.Cases.{by_bool}
use Rattle.am_routes.proofs.InOrder.{GoesByKeys, put, in_order-each, in_order-own, AllHold, in_order_hold}

-- ---- tests

group_decides : (a b : GroupIdentity) → Decides (same_group a b) (a ≡ b)
group_decides a b = grind (arith, Decides-like, Decides-and, Decides-eqb, labels_decide)

-- ---- one label set in one group

held_last : (key : GroupIdentity) (labels : Labels) (all : List GroupUpdate) (update : GroupUpdate) → held_in key labels (all ++ update ∷ []) ≡ after_group_update key labels (held_in key labels all) update
held_last key labels all update = fold-append (after_group_update key labels) None all (update ∷ [])

no_more : GroupUpdate → Alert → Option Alert
no_more (Join node labels alert) held = Some held
no_more (Resolve now) held = unless_resolved now held

differs : (key group : GroupIdentity) (labels one : Labels) (alert : Alert) → cond (same_group key group) (Some alert.labels) None ≡ Some one → labels ≢ one → (same_group key group && same_labels labels alert.labels) ≡ false
differs key group labels one alert is apart = grind (arith, labels_decide)

other_set : (key : GroupIdentity) (labels one : Labels) (held : Option Alert) (update : GroupUpdate) → label_set key update ≡ Some one → labels ≢ one → after_group_update key labels held update ≡ held
other_set key labels one held (Join node group alert) is apart = grind (arith, differs, labels_decide, append_assoc, append-nil)
other_set key labels one held (Resolve now) is apart = absurd (let no : None ≡ Some one = is in (cc))

no_set : (key : GroupIdentity) (labels : Labels) (held : Option Alert) (update : GroupUpdate) → label_set key update ≡ None → after_group_update key labels held update ≡ option_and_then (no_more update) held
unfolding no_more
no_set key labels held (Join node group alert) none = grind arith
no_set key labels held (Resolve now) none = refl

label_sets : (key : GroupIdentity) → GoesByKeys (label_set key) (held_in key) no_more
label_sets key = grind (arith, held_last, other_set, no_set)

-- ---- the alerts of one group

values_kept : (f : Alert → Option Alert) (entries : List (GroupUpdate × Alert))
    → map (λ (entry : GroupUpdate × Alert). entry.1) (filter_map (λ (entry : GroupUpdate × Alert). option_map {U = GroupUpdate × Alert} (λ value. (entry.0, value)) (f entry.1)) entries) ≡ filter_map f (map (λ (entry : GroupUpdate × Alert). entry.1) entries)
values_kept f [] = refl
values_kept f (entry ∷ entries) = let rest = values_kept f entries in grind arith

keep_each : (alerts : List Alert) → filter_map (λ (alert : Alert). Some alert) alerts ≡ alerts
keep_each [] = refl
keep_each (alert ∷ alerts) = ap (λ rest. alert ∷ rest) (keep_each alerts)

keep_unresolved : (now : ℕ) (alerts : List Alert) → filter_map (unless_resolved now) alerts ≡ unresolved now alerts
keep_unresolved now [] = refl
keep_unresolved now (alert ∷ alerts) = let rest = keep_unresolved now alerts in grind arith

alerts_each : (key : GroupIdentity) (all : List GroupUpdate) (update : GroupUpdate) → label_set key update ≡ None → alerts_of_group key (all ++ update ∷ []) ≡ filter_map (no_more update) (alerts_of_group key all)
alerts_each key all update none =
    ap (map (λ (entry : GroupUpdate × Alert). entry.1)) (in_order-each (label_set key) (held_in key) no_more (label_sets key) all update none)
    ∙ values_kept (no_more update) (in_order (label_set key) (held_in key) all)

alerts_other : (key : GroupIdentity) (all : List GroupUpdate) (node : Node) (labels : Labels) (alert : Alert) → same_group key (record { route = node.number; labels = labels }) ≡ false
    → alerts_of_group key (all ++ Join node labels alert ∷ []) ≡ alerts_of_group key all
unfolding no_more
alerts_other key all node labels alert other =
    alerts_each key all (Join node labels alert) (ap (λ b. cond b (Some alert.labels) None) other) ∙ keep_each (alerts_of_group key all)

alerts_resolve : (key : GroupIdentity) (all : List GroupUpdate) (now : ℕ) → alerts_of_group key (all ++ Resolve now ∷ []) ≡ unresolved now (alerts_of_group key all)
unfolding no_more
alerts_resolve key all now = alerts_each key all (Resolve now) refl ∙ keep_unresolved now (alerts_of_group key all)

-- what a label set holds has its labels
Own : Labels → Option Alert → Type 0
Own labels held = IfSome held (λ alert. alert.labels ≡ labels)

own_after : (key : GroupIdentity) (labels : Labels) (held : Option Alert) (update : GroupUpdate) → Own labels held → Own labels (after_group_update key labels held update)
unfolding Own
own_after key labels held (Join node group alert) own = grind (arith, labels_decide)
own_after key labels None (Resolve now) own = tt
own_after key labels (Some alert) (Resolve now) own = grind arith

own_from : (key : GroupIdentity) (labels : Labels) (held : Option Alert) (all : List GroupUpdate) → Own labels held → Own labels (fold (after_group_update key labels) held all)
own_from key labels held [] own = own
own_from key labels held (update ∷ all) own = own_from key labels (after_group_update key labels held update) all (own_after key labels held update own)

held_own : (key : GroupIdentity) (labels : Labels) (all : List GroupUpdate) (alert : Alert) → held_in key labels all ≡ Some alert → alert.labels ≡ labels
unfolding Own
held_own key labels all alert e = let own = own_from key labels None all tt in grind arith

-- whether an update of the group is of the label set
is_of : GroupIdentity → Labels → GroupUpdate → Bool
is_of key labels update = option_map_or (λ own. same_labels labels own) (label_set key update) false

is_of_own : (key : GroupIdentity) (labels : Labels) (update : GroupUpdate) → is_of key labels update ≡ true → label_set key update ≡ Some labels
unfolding is_of
is_of_own key labels update e = grind (arith, labels_decide)

own_is_of : (key : GroupIdentity) (labels : Labels) (update : GroupUpdate) → label_set key update ≡ Some labels → is_of key labels update ≡ true
unfolding is_of
own_is_of key labels update e = grind (arith, labels_decide)

values_put : (key : GroupIdentity) (all : List GroupUpdate) (alert : Alert) (update : GroupUpdate) (entries : List (GroupUpdate × Alert)) → AllHold (label_set key) (held_in key) all entries
    → map (λ (entry : GroupUpdate × Alert). entry.1) (put (is_of key alert.labels) (λ held. alert) update entries) ≡ with_last_alert alert (map (λ (entry : GroupUpdate × Alert). entry.1) entries)
unfolding put AllHold is_of
values_put key all alert update [] hold = refl
values_put key all alert update (entry ∷ entries) hold =
    let rest = values_put key all alert update entries in
    grind (arith, held_own, put)

alerts_own : (key : GroupIdentity) (all : List GroupUpdate) (node : Node) (labels : Labels) (alert : Alert) → same_group key (record { route = node.number; labels = labels }) ≡ true
    → alerts_of_group key (all ++ Join node labels alert ∷ []) ≡ with_last_alert alert (alerts_of_group key all)
alerts_own key all node labels alert own =
    let update = Join node labels alert in
    let is : label_set key update ≡ Some alert.labels = grind arith in
    let held : held_in key alert.labels (all ++ update ∷ []) ≡ Some alert = grind (arith, held_last, labels_decide) in
    ap (map (λ (entry : GroupUpdate × Alert). entry.1))
    (in_order-own (label_set key) (held_in key) no_more (label_sets key) same_labels labels_decide (is_of key alert.labels) alert.labels (is_of_own key alert.labels) (λ held. alert) all update is held (own_is_of key alert.labels))
    ∙ values_put key all alert update (in_order (label_set key) (held_in key) all) (in_order_hold (label_set key) (held_in key) all)

-- ---- the groups

left_of : GroupUpdate → List Alert → Option (List Alert)
left_of (Join node labels alert) alerts = Some alerts
left_of (Resolve now) alerts = some_of (unresolved now alerts)

some_left : (now : ℕ) (alerts : List Alert) → some_of (unresolved now alerts) ≡ option_and_then (λ alerts. some_of (unresolved now alerts)) (some_of alerts)
some_left now [] = refl
some_left now (alert ∷ alerts) = refl

other_members : (key one : GroupIdentity) (all : List GroupUpdate) (update : GroupUpdate) → group_key update ≡ Some one → key ≢ one → members key (all ++ update ∷ []) ≡ members key all
other_members key one all (Join node labels alert) is apart =
    let here : GroupIdentity = record { route = node.number; labels = labels } in
    let same : here ≡ one = (cc) in
    ap some_of (alerts_other key all node labels alert
    (by_bool (same_group key here) (λ t. absurd (apart ((group_decides key here).0 t ∙ same))) (λ f. f)))
other_members key one all (Resolve now) is apart = absurd (let no : None ≡ Some one = is in (cc))

each_members : (key : GroupIdentity) (all : List GroupUpdate) (update : GroupUpdate) → group_key update ≡ None → members key (all ++ update ∷ []) ≡ option_and_then (left_of update) (members key all)
unfolding left_of
each_members key all (Join node labels alert) none = absurd (cc)
each_members key all (Resolve now) none = ap some_of (alerts_resolve key all now) ∙ some_left now (alerts_of_group key all)

group_sets : GoesByKeys group_key members left_of
group_sets = search (rules, other_members, each_members)

is_in : GroupIdentity → GroupUpdate → Bool
is_in key update = option_map_or (λ own. same_group key own) (group_key update) false

is_in_own : (key : GroupIdentity) (update : GroupUpdate) → is_in key update ≡ true → group_key update ≡ Some key
unfolding is_in
is_in_own key (Join node labels alert) e = ap Some (sym ((group_decides key (record { route = node.number; labels = labels })).0 e))
is_in_own key (Resolve now) e = absurd (cc)

own_is_in : (key : GroupIdentity) (update : GroupUpdate) → group_key update ≡ Some key → is_in key update ≡ true
unfolding is_in
own_is_in key update e = grind (arith, group_decides)

with_one : Alert → Option (List Alert) → List Alert
with_one alert None = alert ∷ []
with_one alert (Some alerts) = with_last_alert alert alerts

some_with : (alert : Alert) (alerts : List Alert) → some_of (with_last_alert alert alerts) ≡ Some (with_one alert (some_of alerts))
unfolding with_one
some_with alert [] = refl
some_with alert (old ∷ olds) = grind arith

groups_put : (node : Node) (labels : Labels) (alert : Alert) (entries : List (GroupUpdate × List Alert))
    → filter_map group_of (put (is_in (record { route = node.number; labels = labels })) (with_one alert) (Join node labels alert) entries) ≡ with_member node labels alert (filter_map group_of entries)
unfolding put is_in with_one
groups_put node labels alert [] = refl
groups_put node labels alert ((Join other own first, alerts) ∷ entries) =
    let rest = groups_put node labels alert entries in
    grind arith
groups_put node labels alert ((Resolve now, alerts) ∷ entries) = groups_put node labels alert entries

-- an alert that joins a group is put into it
pub groups-join : (all : List GroupUpdate) (node : Node) (labels : Labels) (alert : Alert) → groups_after (all ++ Join node labels alert ∷ []) ≡ with_member node labels alert (groups_after all)
groups-join all node labels alert =
    let here : GroupIdentity = record { route = node.number; labels = labels } in
    let update = Join node labels alert in
    let made : members here (all ++ update ∷ []) ≡ Some (with_one alert (members here all)) =
    ap some_of (alerts_own here all node labels alert ((group_decides here here).1 refl)) ∙ some_with alert (alerts_of_group here all) in
    ap (filter_map group_of)
    (in_order-own group_key members left_of group_sets same_group group_decides (is_in here) here (is_in_own here) (with_one alert) all update refl made (own_is_in here))
    ∙ groups_put node labels alert (in_order group_key members all)

groups_kept : (now : ℕ) (entries : List (GroupUpdate × List Alert))
    → filter_map group_of (filter_map (λ (entry : GroupUpdate × List Alert). option_map {U = GroupUpdate × List Alert} (λ value. (entry.0, value)) (some_of (unresolved now entry.1))) entries) ≡ swept now (filter_map group_of entries)
groups_kept now [] = refl
groups_kept now ((Join node labels alert, alerts) ∷ entries) = let rest = groups_kept now entries in grind arith
groups_kept now ((Resolve then, alerts) ∷ entries) = let rest = groups_kept now entries in grind arith

-- what is resolved goes, with the groups that are left empty
pub groups-resolve : (all : List GroupUpdate) (now : ℕ) → groups_after (all ++ Resolve now ∷ []) ≡ swept now (groups_after all)
unfolding left_of
groups-resolve all now =
    ap (filter_map group_of) (in_order-each group_key members left_of group_sets all (Resolve now) refl)
    ∙ groups_kept now (in_order group_key members all)

-- an alert joins a group of each of some routes
groups_joins : (all : List GroupUpdate) (nodes : List Node) (alert : Alert) → groups_after (all ++ joins nodes alert) ≡ with_members nodes alert (groups_after all)
groups_joins all [] alert = ap groups_after (append-nil all)
groups_joins all (node ∷ nodes) alert =
    let rest = groups_joins (all ++ Join node (group_labels node.route.group_by alert.labels) alert ∷ []) nodes alert in
    grind (arith, append_assoc, groups-join)

updates_last : (tree : Forest) (events : List DispatchEvent) (event : DispatchEvent) → group_updates tree (events ++ event ∷ []) ≡ group_updates tree events ++ updates_of_event tree event
updates_last tree [] event = append-nil (updates_of_event tree event)
updates_last tree (first ∷ events) event = let rest = updates_last tree events event in grind (arith, append_assoc)

pub groups-take : (tree : Forest) (events : List DispatchEvent) (alert : Alert)
    → groups_of tree (events ++ Take alert ∷ []) ≡ with_members (answer_of alert.labels 0 tree) alert (groups_of tree events)
groups-take tree events alert = ap groups_after (updates_last tree events (Take alert)) ∙ groups_joins (group_updates tree events) (answer_of alert.labels 0 tree) alert

pub groups-sweep : (tree : Forest) (events : List DispatchEvent) (now : ℕ) → groups_of tree (events ++ Sweep now ∷ []) ≡ swept now (groups_of tree events)
groups-sweep tree events now = ap groups_after (updates_last tree events (Sweep now)) ∙ groups-resolve (group_updates tree events) now

pub groups-go-on : (tree : Forest) (one other : List DispatchEvent) (event : DispatchEvent) → groups_of tree one ≡ groups_of tree other → groups_of tree (one ++ event ∷ []) ≡ groups_of tree (other ++ event ∷ [])
groups-go-on tree one other (Take alert) same =
    groups-take tree one alert ∙ (ap (with_members (answer_of alert.labels 0 tree) alert) same ∙ sym (groups-take tree other alert))
groups-go-on tree one other (Sweep now) same = groups-sweep tree one now ∙ (ap (swept now) same ∙ sym (groups-sweep tree other now))
