-- The store's map: its alerts in order, and what it was before a change (`store.Alerts` keeps such a map).
use Rattle.std.specs.Prelude.{◌≡◌, ◌-◌, List, [], ◌∷◌, map, take, length, ⊤}
use Rattle.std.specs.Arc.{arc_value}
use Rattle.std.specs.declared.sync.Arc.{Arc}
use Rattle.std.specs.declared.alloc.Global.{Global}
use Rattle.indexmap.specs.IndexMap.{set_value_at}
use Rattle.am_labels.specs.LabelSets.{Labels}
use Rattle.am_alert.specs.declared.alert.Alert.{Alert}
use Rattle.am_store.specs.declared.store.absorb.Change.{Change}
use Rattle.am_store.specs.declared.store.absorb.Change.TheVariants.{Added, Replaced}

-- the stored alerts, by the entries of their map
abbrev pub stored_in : List (Labels × Arc Alert Global) → List Alert
stored_in entries = map (λ entry. arc_value entry.1) entries

-- each alert is kept under its own label set
abbrev pub AreKeptByLabels : List (Labels × Arc Alert Global) → Type 0
AreKeptByLabels [] = ⊤
AreKeptByLabels (entry ∷ entries) =
    (entry.0 ≡ (arc_value entry.1).labels) × AreKeptByLabels entries

-- the entries without a change: the last one goes, or one holds again what it held before
abbrev pub taken_back : Change → List (Labels × Arc Alert Global) → List (Labels × Arc Alert Global)
taken_back Added entries = take (length entries - 1) entries
taken_back (Replaced at before) entries = set_value_at entries at before

-- the entries without some changes, of which the last one is taken back first
abbrev pub all_taken_back : List Change → List (Labels × Arc Alert Global) → List (Labels × Arc Alert Global)
all_taken_back [] entries = entries
all_taken_back (change ∷ changes) entries = taken_back change (all_taken_back changes entries)
