-- What a search through the rules of an inhibitor finds. Only code of this crate cites it.
use Rattle.std.specs.Prelude.{◌≡◌, ℕ, List, Option, Some, None}
use Rattle.std.specs.Option.{option_map}
use Rattle.std.specs.List.{find, flat_map, enumerate_from, slice_get}
use Rattle.am_alert.specs.declared.alert.Alert.{Alert}
use Rattle.am_labels.specs.LabelSets.{Labels}
use Rattle.am_config.specs.declared.inhibit_rule.InhibitRule.{InhibitRule}
use Rattle.am_inhibit.specs.declared.inhibitor.Muting.{Muting}
use Rattle.am_inhibit.specs.LastAlerts.{label_sets}
use Rattle.am_inhibit.specs.Muting.{Candidate, rule_candidates, candidate_inhibits}

-- the candidates of rules, the first of which has the number
abbrev pub candidates_from : ℕ → Labels → List Alert → List InhibitRule → List Candidate
candidates_from number labels alerts rules =
    flat_map (rule_candidates labels alerts) (enumerate_from number rules)

-- the first that mutes the target
abbrev pub first_muted : Labels → ℕ → List Candidate → Option (ℕ × Labels)
first_muted labels now all =
    option_map (λ candidate. (candidate.number, candidate.alert.labels))
    (find (candidate_inhibits labels now) all)

-- what was found gives an answer: the rule, and the label set of the alert
abbrev pub StandsFor : List Alert → Option Muting → Option (ℕ × Labels) → Type 0
StandsFor alerts None answer = answer ≡ None
StandsFor alerts (Some muting) answer =
    (labels : Labels) × (slice_get (label_sets alerts) muting.at ≡ Some labels)
    × (answer ≡ Some (muting.rule, labels))
