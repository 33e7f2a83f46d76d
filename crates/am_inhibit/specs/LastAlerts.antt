-- The last alert of each label set, of those that an inhibitor was given (what Alertmanager's
-- `inhibit.Inhibitor` keeps as its sources; that they have an order is this project's own).
use Rattle.std.specs.Prelude.{not, if◌then◌else◌, List, [], ◌∷◌, filter, map, fold}
use Rattle.am_alert.specs.declared.alert.Alert.{Alert}
use Rattle.am_labels.specs.LabelSets.{Labels, same_labels}

-- the label sets of alerts
abbrev pub label_sets : List Alert → List Labels
label_sets alerts = map (λ alert. alert.labels) alerts

-- the alerts that are the first of their label sets
abbrev pub first_alerts : List Alert → List Alert
first_alerts [] = []
first_alerts (alert ∷ alerts) =
    alert ∷ filter (λ other. not (same_labels alert.labels other.labels)) (first_alerts alerts)

-- the last one of an alert's label set, or itself
abbrev pub last_of : List Alert → Alert → Alert
last_of alerts alert =
    fold (λ last next. if same_labels last.labels next.labels then next else last) alert alerts

-- of each label set its last alert, in the order in which the label sets began
abbrev pub last_alerts : List Alert → List Alert
last_alerts alerts = map (last_of alerts) (first_alerts alerts)
