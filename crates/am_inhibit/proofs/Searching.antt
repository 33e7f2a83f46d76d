-- The sources that an index lists for a target are those that come into question.
use Rattle.std.proofs.Common.{◌≡◌, ℕ, zero, suc, ◌+◌, ◌<◌, ◌≤◌, Bool, true, false, ◌&&◌, List, [], ◌∷◌, map, filter, length, drop, Some, refl, ap, arith}
use Rattle.std.specs.List.{slice_get, find, All, AllByRecursion}
use Rattle.std.specs.Option.{option_map, option_and_then}
use Rattle.std.proofs.lemmas.List.Elements.{All-from_recursion}
use Rattle.am_labels.specs.LabelSets.{Labels, value_of}
use Rattle.am_matchers.specs.Matchers.{all_admitted}
use Rattle.am_labels.specs.Texts.{same_text}
use Rattle.am_alert.specs.declared.alert.Alert.{Alert}
use Rattle.am_config.specs.declared.inhibit_rule.InhibitRule.{InhibitRule}
use Rattle.am_inhibit.specs.declared.source.Source.{Source}
use Rattle.am_inhibit.specs.LastAlerts.{label_sets}
use Rattle.am_inhibit.specs.Muting.{agree_on, is_candidate, inhibits, count_to}
use Rattle.am_inhibit.specs.inside.Sources.{same_values}
use Rattle.am_inhibit.specs.inside.Indexes.{IndexView, values_of as values_for, source_of, sources_listed, sources_from, IsSourceIndexOf, source_inhibits}

-- what is listed for a target's values are the sources among the label sets that agree with it
pub listed_are : (index : IndexView) (labels : Labels) (sets : List Labels) (names values : List (List ℕ)) → IsSourceIndexOf sets index → names ≡ index.rule.equal → values ≡ map (value_of labels) names
    → sources_listed values index.entries ≡ sources_from index.rule (values_for index.rule.equal labels) 0 sets
listed_are index labels sets names values is named have = grind arith

-- ---- a target

agree-same : (names : List (List ℕ)) (one other : Labels) → same_values (values_for names one) (values_for names other) ≡ agree_on names one other
agree-same [] one other = refl
agree-same (name ∷ names) one other = ap (λ b. same_text (value_of one name) (value_of other name) && b) (agree-same names one other)

drop_suc : {X : Type 0} (xs : List X) (at : ℕ) (x : X) (rest : List X) → drop at xs ≡ x ∷ rest → (slice_get xs at ≡ Some x) × (drop (suc at) xs ≡ rest)
drop_suc [] zero x rest e = absurd (cc)
drop_suc [] (suc at) x rest e = absurd (cc)
drop_suc (y ∷ xs) zero x rest e = ((let same : y ≡ x = (cc) in ap Some same), (let same : xs ≡ rest = (cc) in same))
drop_suc (y ∷ xs) (suc at) x rest e = drop_suc xs at x rest e

pub drop_next : {X : Type 0} (xs : List X) (at : ℕ) (x : X) (rest : List X) → drop at xs ≡ x ∷ rest → (slice_get xs at ≡ Some x) × (drop (at + 1) xs ≡ rest)
drop_next xs at x rest e = grind (arith, drop_suc)

-- nothing comes into question for a label set that is no target
pub none_candidates : (rule : InhibitRule) (labels : Labels) (alerts : List Alert) → all_admitted rule.target labels ≡ false → filter (is_candidate rule labels) alerts ≡ []
none_candidates rule labels [] none = refl
none_candidates rule labels (alert ∷ alerts) none = let rest = none_candidates rule labels alerts in grind arith

-- a target of a rule, and where its search stands
pub record Target (rule : InhibitRule) (labels : Labels) (is_source : Bool) : Type 0 where
  pub target : all_admitted rule.target labels ≡ true
  pub source : is_source ≡ all_admitted rule.source labels

same_test : (rule : InhibitRule) (labels : Labels) (is_source : Bool) (now : ℕ) (alerts : List Alert) (at : ℕ) (alert : Alert) → Target rule labels is_source → slice_get alerts at ≡ Some alert → all_admitted rule.source alert.labels ≡ true
    → source_inhibits is_source now alerts (source_of rule at alert.labels) ≡ inhibits rule labels now alert
same_test rule labels is_source now alerts at alert is got source = grind arith

both_of : (a b : Bool) → (a && b) ≡ true → (a ≡ true) × (b ≡ true)
both_of true b e = (refl, e)
both_of false b e = absurd (let e' : false ≡ true = e in (cc))

chosen : (rule : InhibitRule) (labels : Labels) (is_source : Bool) (alert : Alert) → Target rule labels is_source
    → (all_admitted rule.source alert.labels && same_values (values_for rule.equal labels) (values_for rule.equal alert.labels)) ≡ is_candidate rule labels alert
chosen rule labels is_source alert is = grind (arith, agree-same)

-- the first that mutes the target is the first alert that does
pub found-first : (rule : InhibitRule) (labels : Labels) (is_source : Bool) (now : ℕ) (alerts : List Alert) → Target rule labels is_source → (at : ℕ) (rest : List Alert) → drop at alerts ≡ rest
    → option_and_then (slice_get alerts) (option_map (λ (source : Source). source.at) (find (source_inhibits is_source now alerts) (sources_from rule (values_for rule.equal labels) at (label_sets rest))))
    ≡ find (inhibits rule labels now) (filter (is_candidate rule labels) rest)
found-first rule labels is_source now alerts is at [] e = refl
found-first rule labels is_source now alerts is at (alert ∷ rest) e =
    let next = drop_next alerts at alert rest e in
    let later = found-first rule labels is_source now alerts is (at + 1) rest next.1 in
    let choice = chosen rule labels is_source alert is in
    let test = same_test rule labels is_source now alerts at alert is next.0 in
    grind (arith, both_of)

-- and as many come before it
pub looked-count : (rule : InhibitRule) (labels : Labels) (is_source : Bool) (now : ℕ) (alerts : List Alert) → Target rule labels is_source → (at : ℕ) (rest : List Alert) → drop at alerts ≡ rest
    → count_to (source_inhibits is_source now alerts) (sources_from rule (values_for rule.equal labels) at (label_sets rest))
    ≡ count_to (inhibits rule labels now) (filter (is_candidate rule labels) rest)
looked-count rule labels is_source now alerts is at [] e = refl
looked-count rule labels is_source now alerts is at (alert ∷ rest) e =
    let next = drop_next alerts at alert rest e in
    let later = looked-count rule labels is_source now alerts is (at + 1) rest next.1 in
    let choice = chosen rule labels is_source alert is in
    let test = same_test rule labels is_source now alerts at alert is next.0 in
    grind (arith, both_of)

-- each source stands for an alert
within : (rule : InhibitRule) (values : List (List ℕ)) (at : ℕ) (sets : List Labels) (end : ℕ) → at + length sets ≤ end → AllByRecursion (λ (source : Source). source.at < end) (sources_from rule values at sets)
within rule values at [] end e = tt
within rule values at (labels ∷ sets) end e = let rest = within rule values (at + 1) sets end in grind arith

pub all_within : (rule : InhibitRule) (values : List (List ℕ)) (sets : List Labels) (end : ℕ) → length sets ≤ end → All (λ (source : Source). source.at < end) (sources_from rule values 0 sets)
all_within rule values sets end e = All-from_recursion (λ (source : Source). source.at < end) (sources_from rule values 0 sets) (within rule values 0 sets end (omega arith))

-- the same of all alerts
pub found-all : (rule : InhibitRule) (labels : Labels) (is_source : Bool) (now : ℕ) (alerts : List Alert) → Target rule labels is_source
    → option_and_then (slice_get alerts) (option_map (λ (source : Source). source.at) (find (source_inhibits is_source now alerts) (sources_from rule (values_for rule.equal labels) 0 (label_sets alerts)))) ≡ find (inhibits rule labels now) (filter (is_candidate rule labels) alerts)
found-all rule labels is_source now alerts is = found-first rule labels is_source now alerts is 0 alerts refl

pub looked-all : (rule : InhibitRule) (labels : Labels) (is_source : Bool) (now : ℕ) (alerts : List Alert) → Target rule labels is_source
    → count_to (source_inhibits is_source now alerts) (sources_from rule (values_for rule.equal labels) 0 (label_sets alerts)) ≡ count_to (inhibits rule labels now) (filter (is_candidate rule labels) alerts)
looked-all rule labels is_source now alerts is = looked-count rule labels is_source now alerts is 0 alerts refl
