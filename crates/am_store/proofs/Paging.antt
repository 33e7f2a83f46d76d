-- A page of a list: some of its items from an index on.
use Rattle.std.proofs.Common.{◌≡◌, ℕ, min, List, length, take, drop, arith}
use Rattle.std.proofs.Math.Nat.{min-eq_left, min-eq_right}
use Rattle.std.proofs.lemmas.Bool.{cases_lt}
use Rattle.std.proofs.lemmas.List.{drop_all, take_all, take-map, drop-map}
use Rattle.std.specs.Map.{values_of}
use Rattle.std.specs.declared.sync.Arc.{Arc}
use Rattle.std.specs.declared.alloc.Global.{Global}
use Rattle.am_labels.specs.LabelSets.{Labels}
use Rattle.am_alert.specs.declared.alert.Alert.{Alert}
use Rattle.am_store.specs.Shared.{alerts_in}
use Rattle.am_store.specs.AlertMaps.{stored_in}
use Rattle.am_store.proofs.Entries.{values_stored}

take_within : {A : Type 0} (most : ℕ) (xs : List A) → take (min most (length xs)) xs ≡ take most xs
take_within most xs = grind (arith, cases_lt, min-eq_left, min-eq_right, take_all)

drop_within : {A : Type 0} (from : ℕ) (xs : List A) → drop (min from (length xs)) xs ≡ drop from xs
drop_within from xs = grind (arith, cases_lt, min-eq_left, min-eq_right, drop_all)

-- a page of the map's entries is that page of what is stored
pub page_stored : (entries rest some : List (Labels × Arc Alert Global)) (from most : ℕ) → rest ≡ drop (min from (length entries)) entries → some ≡ take (min most (length rest)) rest
    → alerts_in (values_of some) ≡ take most (drop from (stored_in entries))
page_stored entries rest some from most since page = grind (arith, take_within, drop_within, values_stored, take-map, drop-map)
