-- Alerts of which no two are of one label set.
use Rattle.std.proofs.Common.{◌≡◌, Bool, true, false, not, ◌||◌, List, [], ◌∷◌, ◌++◌, filter, length, refl, ap, ◌∙◌, arith}
use Rattle.std.specs.Prelude.{⊤}
use Rattle.std.specs.List.{list_any, IsDistinct, AllByRecursion}
use Rattle.am_labels.specs.LabelSets.{Labels, same_labels}
use Rattle.am_labels.specs.LabelLaws.{labels_decide, labels_equiv}
use Rattle.am_alert.specs.declared.alert.Alert.{Alert}
use Rattle.am_keyed.specs.Keyed.{with_last_alert}
use Rattle.am_inhibit.specs.LastAlerts.{label_sets}

-- whether a label set has an alert
abbrev pub has : Labels → List Alert → Bool
has labels alerts = list_any (same_labels labels) (label_sets alerts)

-- no label set has two alerts
abbrev pub AreApart : List Alert → Type 0
AreApart [] = ⊤
AreApart (alert ∷ alerts) = (has alert.labels alerts ≡ false) × AreApart alerts

pub same_turned : (a b : Labels) → same_labels a b ≡ same_labels b a
same_turned a b = labels_equiv.symm a b

pub same_along : (a b c : Labels) → same_labels a b ≡ true → same_labels a c ≡ same_labels b c
same_along a b c e = ap (λ l. same_labels l c) ((labels_decide a b).0 e)

pub has-without : (labels : Labels) (alerts : List Alert) → has labels (filter (λ other. not (same_labels labels other.labels)) alerts) ≡ false
has-without labels [] = refl
has-without labels (alert ∷ alerts) = let rest = has-without labels alerts in grind arith

-- what a test leaves has no alert that wasn't there
has_less : (labels : Labels) (test : Alert → Bool) (alerts : List Alert) → has labels alerts ≡ false → has labels (filter test alerts) ≡ false
has_less labels test [] none = refl
has_less labels test (alert ∷ alerts) none = let rest = has_less labels test alerts in grind arith

pub apart_less : (test : Alert → Bool) (alerts : List Alert) → AreApart alerts → AreApart (filter test alerts)
apart_less test [] apart = tt
apart_less test (alert ∷ alerts) apart = let rest = apart_less test alerts in grind (arith, has_less)

-- a new label set's alert stands last
pub with_last_alert-new : (next : Alert) (alerts : List Alert) → has next.labels alerts ≡ false → with_last_alert next alerts ≡ alerts ++ next ∷ []
with_last_alert-new next [] none = refl
with_last_alert-new next (alert ∷ alerts) none = let rest = with_last_alert-new next alerts in grind arith

-- label sets that are distinct
pub apart_distinct : (alerts : List Alert) → IsDistinct same_labels (label_sets alerts) → AreApart alerts
unfolding IsDistinct
apart_distinct [] distinct = tt
apart_distinct (alert ∷ alerts) distinct = (none_of alert.labels alerts distinct.0, apart_distinct alerts distinct.1)
  where
    none_of : (labels : Labels) (alerts : List Alert) → AllByRecursion (λ other. same_labels labels other ≡ false) (label_sets alerts) → has labels alerts ≡ false
    none_of labels [] all = refl
    none_of labels (alert ∷ alerts) all = ap (λ b. b || has labels alerts) all.0 ∙ none_of labels alerts all.1

-- the label sets stay where an alert is put in the place of its label set's
pub label_sets-kept : (next : Alert) (alerts : List Alert) → has next.labels alerts ≡ true → label_sets (with_last_alert next alerts) ≡ label_sets alerts
label_sets-kept next [] there = absurd (let no : false ≡ true = there in (cc))
label_sets-kept next (alert ∷ alerts) there = let rest = label_sets-kept next alerts in grind (arith, labels_decide)

pub length-kept : (next : Alert) (alerts : List Alert) → has next.labels alerts ≡ true → length (with_last_alert next alerts) ≡ length alerts
length-kept next [] there = absurd (let no : false ≡ true = there in (cc))
length-kept next (alert ∷ alerts) there = let rest = length-kept next alerts in grind arith
