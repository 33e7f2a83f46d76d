-- Who is muted, by the last alerts.
use Rattle.std.proofs.Common.{◌≡◌, ℕ, ◌+◌, List, [], ◌∷◌, ◌++◌, Option, Some, None, refl, ap, arith}
use Rattle.std.specs.List.{find, flat_map, enumerate_from}
use Rattle.std.specs.Option.{option_map}
use Rattle.std.proofs.lemmas.List.Folds.{find-append}
use Rattle.am_labels.specs.LabelSets.{Labels}
use Rattle.am_alert.specs.declared.alert.Alert.{Alert}
use Rattle.am_config.specs.declared.inhibit_rule.InhibitRule.{InhibitRule}
use Rattle.am_inhibit.specs.LastAlerts.{last_alerts}
use Rattle.am_inhibit.specs.Muting.{Candidate, rule_candidates, candidates, candidate_inhibits, muted, candidates_seen}
use Rattle.am_inhibit.proofs.KeptAlerts.{last_alerts-push, last_alerts-twice}

pub last_alerts_go_on : (given : List Alert) (alert : Alert) → last_alerts (last_alerts given ++ alert ∷ []) ≡ last_alerts (given ++ alert ∷ [])
last_alerts_go_on given alert = grind (arith, last_alerts-push, last_alerts-twice)

pub last_alerts_decide : (given : List Alert) (rules : List InhibitRule) (labels : Labels) (now : ℕ)
    → (muted (last_alerts given) rules labels now ≡ muted given rules labels now) × (candidates_seen (last_alerts given) rules labels now ≡ candidates_seen given rules labels now)
last_alerts_decide given rules labels now =
    let all : candidates (last_alerts given) rules labels ≡ candidates given rules labels = ap (λ alerts. flat_map (rule_candidates labels alerts) (enumerate_from 0 rules)) (last_alerts-twice given) in
    grind arith

-- ---- no alert mutes itself

-- a candidate that mutes the target isn't of the target's label set
record Others (labels : Labels) (now : ℕ) (all : List Candidate) : Type 0 where
  others : (candidate : Candidate) → find (candidate_inhibits labels now) all ≡ Some candidate → candidate.alert.labels ≡ labels → ⊥

rule_others : (labels : Labels) (now number : ℕ) (rule : InhibitRule) (alerts : List Alert) → Others labels now (rule_candidates labels alerts (number, rule))
rule_others labels now number rule [] = record { others = λ candidate found own. absurd (cc) }
rule_others labels now number rule (alert ∷ alerts) = let rest = rule_others labels now number rule alerts in grind arith

all_others : (labels : Labels) (now : ℕ) (alerts : List Alert) (number : ℕ) (rules : List InhibitRule) → Others labels now (flat_map (rule_candidates labels alerts) (enumerate_from number rules))
all_others labels now alerts number [] = record { others = λ candidate found own. absurd (cc) }
all_others labels now alerts number (rule ∷ rules) =
    let mine = rule_others labels now number rule alerts in
    let test = candidate_inhibits labels now in
    let rest = all_others labels now alerts (number + 1) rules in
    grind (arith, find-append)

pub no_alert_mutes_itself : (given : List Alert) (rules : List InhibitRule) (labels : Labels) (now number : ℕ) → muted given rules labels now ≡ Some (number, labels) → ⊥
no_alert_mutes_itself given rules labels now number answer =
    by_found (find (candidate_inhibits labels now) (candidates given rules labels)) answer ((all_others labels now (last_alerts given) 0 rules).others)
  where
    by_found : (found : Option Candidate) → option_map {U = ℕ × Labels} (λ (candidate : Candidate). (candidate.number, candidate.alert.labels)) found ≡ Some (number, labels) → ((candidate : Candidate) → found ≡ Some candidate → candidate.alert.labels ≡ labels → ⊥) → ⊥
    by_found None e none = absurd (let e' : ◌≡◌ {A = Option (ℕ × Labels)} None (Some (number, labels)) = e in (cc))
    by_found (Some candidate) e none =
        let e' : ◌≡◌ {A = Option (ℕ × Labels)} (Some (candidate.number, candidate.alert.labels)) (Some (number, labels)) = e in
        let parts : ◌≡◌ {A = ℕ × Labels} (candidate.number, candidate.alert.labels) (number, labels) = (cc) in
        none candidate refl (ap (λ (p : ℕ × Labels). p.1) parts)
