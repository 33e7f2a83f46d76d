-- What is stored, by the journal alone: one fold for each label set, and the order in which they
-- began.
use Rattle.std.specs.Prelude.{ℕ, ◌+◌, if◌then◌else◌, nat_eq, List, [], ◌∷◌, ◌++◌, map, Option, Some, None}
use Rattle.std.specs.Option.{option_to_list}
use Rattle.std.specs.List.{flat_map}
use Rattle.am_alert.specs.declared.alert.Alert.{Alert}
use Rattle.am_labels.specs.LabelSets.{Labels, same_labels}
use Rattle.am_alert.specs.Merging.{absorbed, is_resolved_at}
use Rattle.am_store.specs.declared.call.Call.{Call}
use Rattle.am_store.specs.declared.call.Call.TheVariants.{Posted, Collected, Subscribed, Left, Closed}
use Rattle.am_store.specs.Journal.{JournalView}

-- one update of the store: a report (`provider/mem`'s Put, one turn of its loop), or the removal of what is
-- resolved (its garbage collection)
pub data Update : Type 0 where
  Report : (now : ℕ) (alert : Alert) → Update
  Collect : (now : ℕ) → Update

-- the updates of one call
abbrev pub updates_of : Call → List Update
updates_of (Posted now alerts) = map (Report now) alerts
updates_of (Collected now) = Collect now ∷ []
updates_of (Subscribed lane) = []
updates_of (Left lane) = []
updates_of Closed = []

-- the updates of some calls
abbrev pub call_updates : List Call → List Update
call_updates calls = flat_map updates_of calls

-- stored alerts, each as the first report of its label set
abbrev pub first_reports : List Alert → List Update
first_reports alerts = map (Report 0) alerts

-- the updates of a journal: what the dropped calls left stored, then those of its calls
abbrev pub updates : JournalView → List Update
updates journal = first_reports journal.store ++ call_updates journal.calls

-- what one label set holds: its alert, and the index of the update that reported it first since it
-- last held nothing
pub record Holding : Type 0 where
  pub since : ℕ
  pub alert : Alert

-- what a label set holds after a report of it (`provider/mem`'s Put: the merge, or the new alert)
abbrev pub after_report : ℕ → ℕ → Alert → Option Holding → Holding
after_report at now new None = record { since = at; alert = new }
after_report at now new (Some held) =
    record { since = held.since; alert = absorbed now (Some held.alert) new }

-- what a label set holds after a collection: nothing where its alert is resolved
abbrev pub after_collection : ℕ → Option Holding → Option Holding
after_collection now None = None
after_collection now (Some held) = if is_resolved_at now held.alert then None else Some held

-- what a label set holds after the update at an index
abbrev pub after_update : Labels → ℕ → Option Holding → Update → Option Holding
after_update labels at held (Report now new) =
    if same_labels labels new.labels then Some (after_report at now new held) else held
after_update labels at held (Collect now) = after_collection now held

-- what a label set holds after updates from an index on
abbrev pub holding_from : Labels → ℕ → Option Holding → List Update → Option Holding
holding_from labels at held [] = held
holding_from labels at held (update ∷ rest) =
    holding_from labels (at + 1) (after_update labels at held update) rest

-- what a label set holds after all updates
abbrev pub holding_of : Labels → List Update → Option Holding
holding_of labels all = holding_from labels 0 None all

-- the alert held, if it began at an index
abbrev pub begun_at : ℕ → Option Holding → Option Alert
begun_at at None = None
begun_at at (Some held) = if nat_eq held.since at then Some held.alert else None

-- what is stored by the update at an index: the alert of its label set, if it was this update that began
-- it
abbrev pub stored_at : List Update → ℕ → Update → Option Alert
stored_at all at (Report now new) = begun_at at (holding_of new.labels all)
stored_at all at (Collect now) = None

-- what a function finds at each update, from an index on
abbrev pub gathered : (ℕ → Update → Option Alert) → ℕ → List Update → List Alert
gathered found at [] = []
gathered found at (update ∷ rest) =
    option_to_list (found at update) ++ gathered found (at + 1) rest

-- the stored alerts: of each label set that holds one, in the order in which they began
abbrev pub stored : List Update → List Alert
stored all = gathered (stored_at all) 0 all
