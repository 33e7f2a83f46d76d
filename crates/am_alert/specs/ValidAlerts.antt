-- What holds of each valid alert (Alertmanager's `types.Alert.Validate`, once `removeEmptyLabels` has taken
-- out the labels with no value), and of the order of the invalid ones.
use Rattle.std.specs.Prelude.{◌≡◌, ◌≢◌, ℕ, ◌<◌, ◌≤◌, false, List, [], map, Some}
use Rattle.std.specs.List.Sorted.{IsStrictlyIncreasing}
use Rattle.std.specs.FinMap.{contains_key, get, len}
use Rattle.am_alert.specs.declared.alert.Alert.{Alert}
use Rattle.am_alert.specs.declared.post.AlertFault.{AlertFault}

-- an alert has a label, each label a value, each name a byte, and it doesn't end before it starts
pub record IsWellFormed (alert : Alert) : Type 0 where
  pub has_label : 0 < len alert.labels
  pub has_values : (name : List ℕ) → get alert.labels name ≢ Some []
  pub has_names : contains_key alert.labels [] ≡ false
  pub has_annotation_names : contains_key alert.annotations [] ≡ false
  pub ordered : alert.start ≤ alert.end

-- the indices of invalid alerts in their post
abbrev pub indices_of : List (ℕ × AlertFault) → List ℕ
indices_of faults = map (λ fault. fault.0) faults

-- each index is above the one before
abbrev pub Rises : List ℕ → Type 0
Rises indices = IsStrictlyIncreasing indices
