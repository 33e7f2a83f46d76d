-- Values with keys, as a list that values are put into, one after another.
use Rattle.std.specs.Prelude.{Bool, List, [], ◌∷◌, ◌-◌, if◌then◌else◌, take, length}
use Rattle.am_alert.specs.declared.alert.Alert.{Alert}
use Rattle.am_labels.specs.LabelSets.{same_labels}
use Rattle.am_keyed.specs.declared.keyed.KeyChange.{KeyChange}
use Rattle.am_keyed.specs.declared.keyed.KeyChange.TheVariants.{Added, Replaced}

module _ {K V : Type 0} (eq : K → K → Bool) (key : V → K) where
  -- values with one more: it replaces that of its key, or is added at the end
  abbrev pub with_value : V → List V → List V
  with_value value [] = value ∷ []
  with_value value (old ∷ olds) =
      if eq (key value) (key old) then value ∷ olds else old ∷ with_value value olds

  -- values with one put back in the place of its key
  abbrev pub with_old : V → List V → List V
  with_old before [] = []
  with_old before (value ∷ values) =
      if eq (key before) (key value) then before ∷ values else value ∷ with_old before values

  -- values before their last change
  abbrev pub before_change : KeyChange V → List V → List V
  before_change Added values = take (length values - 1) values
  before_change (Replaced before) values = with_old before values

-- alerts with one more: it replaces that of its label set, or is added at the end
abbrev pub with_last_alert : Alert → List Alert → List Alert
with_last_alert = with_value same_labels (λ alert. alert.labels)

-- alerts before their last change
abbrev pub before_alert : KeyChange Alert → List Alert → List Alert
before_alert = before_change same_labels (λ alert. alert.labels)
