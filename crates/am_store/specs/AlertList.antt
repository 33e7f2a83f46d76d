-- The stored alerts as a list that reports are absorbed into, one after another.
use Rattle.std.specs.Prelude.{◌≡◌, ℕ, Bool, true, not, ◌&&◌, if◌then◌else◌, List, [], ◌∷◌, Option, Some, None}
use Rattle.std.specs.Prelude.{⊤}
use Rattle.am_alert.specs.declared.alert.Alert.{Alert}
use Rattle.am_labels.specs.LabelSets.{Labels, same_labels}
use Rattle.am_alert.specs.Merging.{absorbed}

-- the stored alert of a label set (`store.Alerts.Get`)
abbrev pub lookup : Labels → List Alert → Option Alert
lookup labels [] = None
lookup labels (old ∷ olds) = if same_labels labels old.labels then Some old else lookup labels olds

-- the stored alerts with an alert set: in its label set's place, else at the end
-- (`store.Alerts.Set`)
abbrev pub with_alert : Alert → List Alert → List Alert
with_alert alert [] = alert ∷ []
with_alert alert (old ∷ olds) =
    if same_labels alert.labels old.labels then alert ∷ olds else old ∷ with_alert alert olds

-- the stored alerts with each of some alerts set
abbrev pub with_alerts : List Alert → List Alert → List Alert
with_alerts [] olds = olds
with_alerts (alert ∷ alerts) olds = with_alerts alerts (with_alert alert olds)

-- the stored alerts after a report (`provider/mem`'s Put, one turn of its loop)
abbrev pub absorb_into : ℕ → Alert → List Alert → List Alert
absorb_into now new olds = with_alert (absorbed now (lookup new.labels olds) new) olds

-- what each report became, over what those before it left (`provider/mem`'s Put)
abbrev pub batch_by_list : ℕ → List Alert → List Alert → List Alert
batch_by_list now [] olds = []
batch_by_list now (new ∷ news) olds =
    absorbed now (lookup new.labels olds) new ∷ batch_by_list now news (absorb_into now new olds)

-- no alert has the label set
abbrev pub absent : Labels → List Alert → Bool
absent labels [] = true
absent labels (old ∷ olds) = not (same_labels labels old.labels) && absent labels olds

-- no two alerts have one label set
abbrev pub AreDistinct : List Alert → Type 0
AreDistinct [] = ⊤
AreDistinct (old ∷ olds) = (absent old.labels olds ≡ true) × AreDistinct olds
