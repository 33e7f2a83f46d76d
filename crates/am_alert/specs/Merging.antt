-- Alerts that overlap, and what becomes of a stored report and a new one of its label set.
use Rattle.std.specs.Prelude.{ℕ, Bool, not, ◌&&◌, ◌||◌, if◌then◌else◌, nat_lt, nat_le, min}
use Rattle.std.specs.Prelude.{List, filter, Option, Some, None}
use Rattle.am_alert.specs.declared.alert.Alert.{Alert}

-- whether an alert's end isn't after the moment (`types.Alert.ResolvedAt`)
abbrev pub is_resolved_at : ℕ → Alert → Bool
is_resolved_at now alert = nat_le alert.end now

-- an alert, unless it is resolved
abbrev pub unless_resolved : ℕ → Alert → Option Alert
unless_resolved now alert = if is_resolved_at now alert then None else Some alert

-- the alerts that aren't resolved, in their order
abbrev pub unresolved : ℕ → List Alert → List Alert
unresolved now alerts = filter (λ alert. not (is_resolved_at now alert)) alerts

-- whether the new report ends or begins strictly within the stored one (the test before Merge in
-- `provider/mem`'s Put)
abbrev pub overlap : Alert → Alert → Bool
overlap old new =
    (nat_lt old.start new.end && nat_lt new.end old.end)
    || (nat_lt old.start new.start && nat_lt new.start old.end)

-- whether the older report's end is kept: it is later, and either both are resolved, or the younger isn't
-- and the older's end was given (`types.Alert.Merge`)
abbrev pub older_end_wins : ℕ → Alert → Alert → Bool
older_end_wins now older younger =
    nat_lt younger.end older.end
    && ((is_resolved_at now older && is_resolved_at now younger)
    || (not (is_resolved_at now younger) && not older.timeout))

-- the younger report, from the earlier of both starts (`types.Alert.Merge`)
abbrev pub combined : ℕ → Alert → Alert → Alert
combined now older younger = record younger {
  start = min older.start younger.start;
  end = if older_end_wins now older younger then older.end else younger.end;
}

-- both reports as one: the new one is the older only if it was updated earlier (`types.Alert.Merge`)
abbrev pub merged : ℕ → Alert → Alert → Alert
merged now stored new =
    if nat_lt new.updated stored.updated then combined now new stored else combined now stored new

-- what a label set holds once a report of it came (`provider/mem`'s Put)
abbrev pub absorbed : ℕ → Option Alert → Alert → Alert
absorbed now None new = new
absorbed now (Some stored) new = if overlap stored new then merged now stored new else new
