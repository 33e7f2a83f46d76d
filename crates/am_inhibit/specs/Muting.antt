-- Which alert mutes a target, and by which rule (Alertmanager's `inhibit.Inhibitor.Mutes`, and
-- "inhibit_rule" in its configuration documentation).
use Rattle.std.specs.Prelude.{ℕ, ◌+◌, min, Bool, not, ◌&&◌, List, map, filter, length, Option}
use Rattle.std.specs.Option.{option_map}
use Rattle.std.specs.List.{list_all, find, flat_map, enumerate_from, prefix_len}
use Rattle.am_alert.specs.declared.alert.Alert.{Alert}
use Rattle.am_alert.specs.Merging.{is_resolved_at}
use Rattle.am_labels.specs.LabelSets.{Labels, value_of}
use Rattle.am_matchers.specs.Matchers.{all_admitted}
use Rattle.am_labels.specs.Texts.{same_text}
use Rattle.am_config.specs.declared.inhibit_rule.InhibitRule.{InhibitRule}
use Rattle.am_inhibit.specs.LastAlerts.{last_alerts}

-- whether two label sets have the same value for each name; a missing label counts as empty (`equal`)
abbrev pub agree_on : List (List ℕ) → Labels → Labels → Bool
agree_on names one other = list_all (λ name. same_text (value_of one name) (value_of other name)) names

-- whether a label set matches both sides of a rule
abbrev pub is_on_both_sides : InhibitRule → Labels → Bool
is_on_both_sides rule labels = all_admitted rule.source labels && all_admitted rule.target labels

-- whether an alert may mute a target by a rule: the target matches the rule's target side, the
-- alert its source side, and both agree on `equal`
abbrev pub is_candidate : InhibitRule → Labels → Alert → Bool
is_candidate rule labels alert =
    all_admitted rule.target labels
    && (all_admitted rule.source alert.labels && agree_on rule.equal labels alert.labels)

-- whether such an alert mutes the target: it isn't resolved; and a target that matches both sides can't be
-- muted by an alert for which the same is true, itself included
abbrev pub inhibits : InhibitRule → Labels → ℕ → Alert → Bool
inhibits rule labels now alert =
    not (is_resolved_at now alert)
    && not (is_on_both_sides rule labels && is_on_both_sides rule alert.labels)

-- a rule, with its number, and an alert that may mute by it
pub record Candidate : Type 0 where
  pub number : ℕ
  pub rule : InhibitRule
  pub alert : Alert

-- those of a rule
abbrev pub rule_candidates : Labels → List Alert → ℕ × InhibitRule → List Candidate
rule_candidates labels alerts (number, rule) =
    map (λ alert. record { number = number; rule = rule; alert = alert })
    (filter (is_candidate rule labels) alerts)

-- those of all rules, the lowest first, and of a rule's those first whose label set was given first
abbrev pub candidates : List Alert → List InhibitRule → Labels → List Candidate
candidates given rules labels =
    flat_map (rule_candidates labels (last_alerts given)) (enumerate_from 0 rules)

-- whether a candidate mutes the target
abbrev pub candidate_inhibits : Labels → ℕ → Candidate → Bool
candidate_inhibits labels now candidate = inhibits candidate.rule labels now candidate.alert

-- the first that mutes the target: the number of its rule, and its label set
abbrev pub muted : List Alert → List InhibitRule → Labels → ℕ → Option (ℕ × Labels)
muted given rules labels now =
    option_map (λ candidate. (candidate.number, candidate.alert.labels))
    (find (candidate_inhibits labels now) (candidates given rules labels))

-- how many elements there are up to and including the first that passes a test; all, if none does
abbrev pub count_to : {X : Type 0} → (X → Bool) → List X → ℕ
count_to test all = min (length all) (prefix_len (λ x. not (test x)) all + 1)

-- how many candidates are examined for the answer
abbrev pub candidates_seen : List Alert → List InhibitRule → Labels → ℕ → ℕ
candidates_seen given rules labels now =
    count_to (candidate_inhibits labels now) (candidates given rules labels)
