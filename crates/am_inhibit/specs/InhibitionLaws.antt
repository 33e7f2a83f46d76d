-- Laws of the answers of an inhibitor.
use Rattle.std.specs.Prelude.{◌≡◌, ◌≢◌, ◌≤◌, ℕ, not, false, List, [], ◌∷◌, ◌++◌, map, filter, All, Some}
use Rattle.std.specs.Option.{option_map}
use Rattle.std.specs.List.{find, list_any}
use Rattle.am_alert.specs.declared.alert.Alert.{Alert}
use Rattle.am_alert.specs.Merging.{is_resolved_at, unresolved}
use Rattle.am_labels.specs.LabelSets.{Labels, same_labels}
use Rattle.am_config.specs.declared.inhibit_rule.InhibitRule.{InhibitRule}
use Rattle.am_inhibit.specs.LastAlerts.{last_alerts}
use Rattle.am_inhibit.specs.KeptAlerts.{InhibitorEvent, Take, Sweep, kept_alerts, held_after}
use Rattle.am_inhibit.specs.KeptAlerts.{takes_removed}
use Rattle.am_inhibit.specs.Muting.{candidates, candidate_inhibits, candidates_seen, count_to, muted}

-- what the last alerts become by one more alert depends on them alone, not on what led to them
abbrev pub LastAlertsGoOn : Type 0
LastAlertsGoOn = (given : List Alert) (alert : Alert)
    → last_alerts (last_alerts given ++ alert ∷ []) ≡ last_alerts (given ++ alert ∷ [])

-- the last alerts decide who is muted, and how many candidates are examined
abbrev pub LastAlertsDecide : Type 0
LastAlertsDecide = (given : List Alert) (rules : List InhibitRule) (labels : Labels) (now : ℕ)
    → (muted (last_alerts given) rules labels now ≡ muted given rules labels now)
    × (candidates_seen (last_alerts given) rules labels now ≡ candidates_seen given rules labels now)

-- no alert mutes itself
abbrev pub NoAlertMutesItself : Type 0
NoAlertMutesItself = (given : List Alert) (rules : List InhibitRule) (labels : Labels) (now number : ℕ)
    → muted given rules labels now ≢ Some (number, labels)

-- without sweeps the alerts that are kept are the last ones
abbrev pub KeptAreLast : Type 0
KeptAreLast = (given : List Alert) → kept_alerts (map Take given) ≡ last_alerts given

-- one more take makes the last alerts of them, one more sweep removes the resolved ones
abbrev pub KeptAlertsGoOn : Type 0
KeptAlertsGoOn = (events : List InhibitorEvent)
    → ((alert : Alert)
    → kept_alerts (events ++ Take alert ∷ []) ≡ last_alerts (kept_alerts events ++ alert ∷ []))
    × ((now : ℕ) → kept_alerts (events ++ Sweep now ∷ []) ≡ unresolved now (kept_alerts events))

-- the alert that is kept of a label set is what the label set holds after all events, each in its turn
abbrev pub KeptAlertsAreHeld : Type 0
KeptAlertsAreHeld = (labels : Labels) (events : List InhibitorEvent)
    → find (λ alert. same_labels labels alert.labels) (kept_alerts events) ≡ held_after labels events

-- a sweep keeps nothing that is resolved at its moment
abbrev pub SweepKeepsNoneResolved : Type 0
SweepKeepsNoneResolved = (events : List InhibitorEvent) (now : ℕ)
    → All (λ alert. is_resolved_at now alert ≡ false) (kept_alerts (events ++ Sweep now ∷ []))

-- from its moment on a sweep changes no answer, as long as no label set that it removed is taken again
abbrev pub SweepKeepsAnswers : Type 0
SweepKeepsAnswers = (events more : List InhibitorEvent) (swept now : ℕ) (rules : List InhibitRule)
    (labels : Labels) → swept ≤ now → list_any (takes_removed swept events) more ≡ false
    → muted (kept_alerts (events ++ Sweep swept ∷ more)) rules labels now
    ≡ muted (kept_alerts (events ++ more)) rules labels now

-- whatever is taken and swept later, a target is muted or not as without the sweep, and by the same rule.
-- Only the label set may be another one: one that was removed and is taken again has a later place
abbrev pub SweepKeepsRules : Type 0
SweepKeepsRules = (events more : List InhibitorEvent) (swept now : ℕ) (rules : List InhibitRule)
    (labels : Labels) → swept ≤ now
    → option_map (λ by. by.0) (muted (kept_alerts (events ++ Sweep swept ∷ more)) rules labels now)
    ≡ option_map (λ by. by.0) (muted (kept_alerts (events ++ more)) rules labels now)

-- an answer after a sweep examines the candidates alone that fire at the sweep's moment
abbrev pub SweepSparesResolved : Type 0
SweepSparesResolved = (events : List InhibitorEvent) (swept now : ℕ) (rules : List InhibitRule)
    (labels : Labels)
    → candidates_seen (kept_alerts (events ++ Sweep swept ∷ [])) rules labels now
    ≡ count_to (candidate_inhibits labels now)
    (filter (λ candidate. not (is_resolved_at swept candidate.alert))
    (candidates (kept_alerts events) rules labels))
