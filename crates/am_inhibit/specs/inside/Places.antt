-- How a sweep moves the sources of an index to the new indexes of their alerts. Only code of this crate
-- cites it.
use Rattle.std.specs.Prelude.{◌≤◌, ℕ, ◌+◌, Bool, true, false, not, if◌then◌else◌, List, [], ◌∷◌, map}
use Rattle.std.specs.Prelude.{filter, length, Option, None, Some}
use Rattle.std.specs.List.{filter_map, slice_get}
use Rattle.std.specs.Option.{option_map, unwrap_or}
use Rattle.am_alert.specs.declared.alert.Alert.{Alert}
use Rattle.am_alert.specs.Merging.{is_resolved_at}
use Rattle.am_config.specs.declared.inhibit_rule.InhibitRule.{InhibitRule}
use Rattle.am_inhibit.specs.declared.source.Source.{Source}
use Rattle.am_inhibit.specs.LastAlerts.{label_sets}
use Rattle.am_inhibit.specs.inside.Indexes.{SourceEntries, IndexView, AreSourceIndexesOf}

-- the new index of each alert, counted from a number; nothing for one that is resolved
abbrev pub new_places : ℕ → ℕ → List Alert → List (Option ℕ)
new_places place now [] = []
new_places place now (alert ∷ alerts) =
    if is_resolved_at now alert then None ∷ new_places place now alerts
    else Some place ∷ new_places (place + 1) now alerts

-- a source at the new index of its alert, unless that is dropped
abbrev pub moved : List (Option ℕ) → Source → Option Source
moved places source =
    option_map (λ place. record source { at = place }) (unwrap_or (slice_get places source.at) None)

-- those of some sources whose alerts stay, moved
abbrev pub moved_sources : List (Option ℕ) → List Source → List Source
moved_sources places sources = filter_map (moved places) sources

-- no source
abbrev pub has_no_sources : List Source → Bool
has_no_sources [] = true
has_no_sources (source ∷ sources) = false

-- entries, their sources moved, without those that are left with none
abbrev pub swept_entries : List (Option ℕ) → SourceEntries → SourceEntries
swept_entries places entries =
    filter (λ entry. not (has_no_sources entry.1))
    (map (λ entry. (entry.0, moved_sources places entry.1)) entries)

-- an index after a sweep
abbrev pub index_swept : List (Option ℕ) → IndexView → IndexView
index_swept places index = record index { entries = swept_entries places index.entries }

-- the indexes are those of the rules among the alerts, and there is room for the new index of each alert
abbrev pub IsIndexed : List InhibitRule → List Alert → List IndexView → ℕ → Type 0
IsIndexed rules alerts indexes room =
    AreSourceIndexesOf rules (label_sets alerts) indexes × (length alerts ≤ room)
