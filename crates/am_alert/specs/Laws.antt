-- What follows for whoever posts from how two reports are merged.
use Rattle.std.specs.Prelude.{◌≡◌, ◌≢◌, ◌⊎◌, ℕ, ◌≤◌, nat_lt, if◌then◌else◌}
use Rattle.am_alert.specs.declared.alert.Alert.{Alert}
use Rattle.am_alert.specs.Merging.{is_resolved_at, merged}

-- the report that was updated later; the new one if both were updated at once
abbrev pub younger : Alert → Alert → Alert
younger stored new = if nat_lt new.updated stored.updated then stored else new

-- the merged alert starts no later than either report
abbrev pub MergingStartsEarliest : Type 0
MergingStartsEarliest =
    (now : ℕ) (stored new : Alert)
    → ((merged now stored new).start ≤ stored.start) × ((merged now stored new).start ≤ new.start)

-- the merged alert ends when one of the two reports ends
abbrev pub MergingEndsAtAnEnd : Type 0
MergingEndsAtAnEnd =
    (now : ℕ) (stored new : Alert)
    → ((merged now stored new).end ≡ stored.end) ⊎ ((merged now stored new).end ≡ new.end)

-- it is resolved exactly if the younger report is: one that resolves is never overruled, nor one that
-- fires
abbrev pub YoungerReportDecides : Type 0
YoungerReportDecides =
    (now : ℕ) (stored new : Alert)
    → is_resolved_at now (merged now stored new) ≡ is_resolved_at now (younger stored new)

-- all but start and end is the younger report's
abbrev pub YoungerReportStays : Type 0
YoungerReportStays =
    (now : ℕ) (stored new : Alert)
    → let both = merged now stored new in
    both ≡ record (younger stored new) { start = both.start; end = both.end }

-- in which order two reports came doesn't matter if they were updated at different moments
abbrev pub MergingHasNoOrder : Type 0
MergingHasNoOrder =
    (now : ℕ) (one other : Alert) → one.updated ≢ other.updated → merged now one other ≡ merged now other one
