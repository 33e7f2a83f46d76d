-- The alerts that an inhibitor keeps, by the list of its takes and sweeps: of each label set the last one,
-- until a sweep finds it resolved (the sources that Alertmanager's `inhibit.InhibitRule` keeps in its
-- `scache`, from which `store.Alerts.gc` removes the resolved ones; that they have an order is this
-- project's own).
use Rattle.std.specs.Prelude.{ℕ, Bool, false, not, if◌then◌else◌, List, [], ◌∷◌, filter, fold, Option}
use Rattle.std.specs.Prelude.{None, Some}
use Rattle.std.specs.Option.{option_and_then, option_map_or}
use Rattle.am_alert.specs.declared.alert.Alert.{Alert}
use Rattle.am_alert.specs.Merging.{is_resolved_at, unless_resolved}
use Rattle.am_labels.specs.LabelSets.{Labels, same_labels}

-- what an inhibitor is given: an alert, or a sweep of what is resolved at a moment
pub data InhibitorEvent : Type 0 where
  Take : (alert : Alert) → InhibitorEvent
  Sweep : (now : ℕ) → InhibitorEvent

-- an alert's label set after further events: its last alert, or nothing once a sweep has removed it
abbrev pub lasting : List InhibitorEvent → Alert → Option Alert
lasting [] alert = Some alert
lasting (Take next ∷ events) alert =
    lasting events (if same_labels alert.labels next.labels then next else alert)
lasting (Sweep now ∷ events) alert =
    if is_resolved_at now alert then None else lasting events alert

-- an alert, if there is one, before those of other label sets
abbrev pub before_others : Option Alert → List Alert → List Alert
before_others None alerts = alerts
before_others (Some alert) alerts =
    alert ∷ filter (λ other. not (same_labels alert.labels other.labels)) alerts

-- the alerts that are kept: of each label set the last one, in the order of the first take since the label
-- set was last absent. So one that was removed and is taken again comes at the end
abbrev pub kept_alerts : List InhibitorEvent → List Alert
kept_alerts [] = []
kept_alerts (Take alert ∷ events) = before_others (lasting events alert) (kept_alerts events)
kept_alerts (Sweep now ∷ events) = kept_alerts events

-- what a label set holds after an event: the alert that is taken, or nothing if what it held is resolved
abbrev pub after_event : Labels → Option Alert → InhibitorEvent → Option Alert
after_event labels held (Take alert) = if same_labels labels alert.labels then Some alert else held
after_event labels held (Sweep now) = option_and_then (unless_resolved now) held

-- what it holds after all events
abbrev pub held_after : Labels → List InhibitorEvent → Option Alert
held_after labels events = fold (after_event labels) None events

-- whether an event takes an alert of a label set that a sweep removes after some events
abbrev pub takes_removed : ℕ → List InhibitorEvent → InhibitorEvent → Bool
takes_removed swept events (Take alert) =
    option_map_or (is_resolved_at swept) (held_after alert.labels events) false
takes_removed swept events (Sweep now) = false
