-- A search through the rules finds the first candidate that mutes the target.
use Rattle.std.proofs.Common.{◌≡◌, ℕ, zero, suc, ◌<◌, Bool, List, [], ◌∷◌, ◌++◌, map, filter, length, Option, Some, None, refl, sym, ap, subst, ◌∙◌, arith}
use Rattle.std.specs.List.{find, slice_get}
use Rattle.std.specs.Option.{option_map, option_and_then, option_or}
use Rattle.std.proofs.lemmas.List.Folds.{find-append}
use Rattle.std.proofs.lemmas.Option.{slice_get-map}
use Rattle.am_alert.specs.declared.alert.Alert.{Alert}
use Rattle.am_labels.specs.LabelSets.{Labels}
use Rattle.am_config.specs.declared.inhibit_rule.InhibitRule.{InhibitRule}
use Rattle.am_inhibit.specs.declared.inhibitor.Muting.{Muting}
use Rattle.am_inhibit.specs.LastAlerts.{label_sets, last_alerts}
use Rattle.am_inhibit.specs.Muting.{is_candidate, inhibits, Candidate, rule_candidates, candidate_inhibits, candidates_seen, count_to, muted}
use Rattle.am_inhibit.specs.inside.Searches.{candidates_from, first_muted, StandsFor}

-- an alert as a candidate of a rule
abbrev pub candidate_of : ℕ → InhibitRule → Alert → Candidate
candidate_of number rule alert = record { number = number; rule = rule; alert = alert }

find-shown : (labels : Labels) (now number : ℕ) (rule : InhibitRule) (alerts : List Alert) → find (candidate_inhibits labels now) (map (candidate_of number rule) alerts) ≡ option_map (candidate_of number rule) (find (inhibits rule labels now) alerts)
find-shown labels now number rule [] = refl
find-shown labels now number rule (alert ∷ alerts) = let rest = find-shown labels now number rule alerts in grind arith

count-shown : (labels : Labels) (now number : ℕ) (rule : InhibitRule) (alerts : List Alert) → count_to (candidate_inhibits labels now) (map (candidate_of number rule) alerts) ≡ count_to (inhibits rule labels now) alerts
count-shown labels now number rule [] = refl
count-shown labels now number rule (alert ∷ alerts) = let rest = count-shown labels now number rule alerts in grind arith

-- what the search of one rule found: the index of an alert, or none, and how many it looked at
pub record IsFound (labels : Labels) (now : ℕ) (alerts : List Alert) (rule : InhibitRule) (at : Option ℕ) (looked : ℕ) : Type 0 where
  pub found : option_and_then (slice_get alerts) at ≡ find (inhibits rule labels now) (filter (is_candidate rule labels) alerts)
  pub count : looked ≡ count_to (inhibits rule labels now) (filter (is_candidate rule labels) alerts)

pub rule-none : (labels : Labels) (now number : ℕ) (alerts : List Alert) (rule : InhibitRule) (looked : ℕ) → IsFound labels now alerts rule None looked → find (candidate_inhibits labels now) (rule_candidates labels alerts (number, rule)) ≡ None
rule-none labels now number alerts rule looked is = grind (arith, find-shown)

pub rule-some : (labels : Labels) (now number : ℕ) (alerts : List Alert) (rule : InhibitRule) (at looked : ℕ) (alert : Alert) → IsFound labels now alerts rule (Some at) looked → slice_get alerts at ≡ Some alert
    → find (candidate_inhibits labels now) (rule_candidates labels alerts (number, rule)) ≡ Some (candidate_of number rule alert)
rule-some labels now number alerts rule at looked alert is got = grind (arith, find-shown)

pub rule-count : (labels : Labels) (now number : ℕ) (alerts : List Alert) (rule : InhibitRule) (at : Option ℕ) (looked : ℕ) → IsFound labels now alerts rule at looked → count_to (candidate_inhibits labels now) (rule_candidates labels alerts (number, rule)) ≡ looked
rule-count labels now number alerts rule at looked is = count-shown labels now number rule (filter (is_candidate rule labels) alerts) ∙ sym is.count

pub find-first : {X : Type 0} (test : X → Bool) (xs ys : List X) (x : X) → find test xs ≡ Some x → find test (xs ++ ys) ≡ Some x
find-first test xs ys x found = find-append test xs ys ∙ ap (λ o. option_or o (find test ys)) found

pub find-later : {X : Type 0} (test : X → Bool) (xs ys : List X) → find test xs ≡ None → find test (xs ++ ys) ≡ find test ys
find-later test xs ys none = find-append test xs ys ∙ ap (λ o. option_or o (find test ys)) none

pub got_within : {X : Type 0} (xs : List X) (at : ℕ) → at < length xs → (x : X) × (slice_get xs at ≡ Some x)
got_within [] at early = absurd (omega arith)
got_within (x ∷ xs) zero early = (x, refl)
got_within (x ∷ xs) (suc at) early = got_within xs at (omega arith)

pub label_set_at : (alerts : List Alert) (at : ℕ) (alert : Alert) → slice_get alerts at ≡ Some alert → slice_get (label_sets alerts) at ≡ Some alert.labels
label_set_at alerts at alert got = slice_get-map (λ (a : Alert). a.labels) alerts at ∙ ap (option_map (λ (a : Alert). a.labels)) got

-- ---- the alerts that are searched, if no two are of one label set

pub muted_among : (alerts : List Alert) (rules : List InhibitRule) (labels : Labels) (now : ℕ) (muting : Option Muting) → last_alerts alerts ≡ alerts → StandsFor alerts muting (first_muted labels now (candidates_from 0 labels alerts rules))
    → StandsFor alerts muting (muted alerts rules labels now)
muted_among alerts rules labels now muting last found = subst (λ l. StandsFor alerts muting (first_muted labels now (candidates_from 0 labels l rules))) (sym last) found

pub seen_among : (alerts : List Alert) (rules : List InhibitRule) (labels : Labels) (now : ℕ) → last_alerts alerts ≡ alerts → candidates_seen alerts rules labels now ≡ count_to (candidate_inhibits labels now) (candidates_from 0 labels alerts rules)
seen_among alerts rules labels now last = ap (λ l. count_to (candidate_inhibits labels now) (candidates_from 0 labels l rules)) last
