-- The callers of a provider, gathered at its end.
use Rattle.std.specs.Prelude.{◌≡◌, List, [], length, Option, None, Some}
use Rattle.std.specs.List.{All}
use mathlib.Core.List.{IsPrefix}
use Rattle.am_alert.specs.declared.alert.Alert.{Alert}
use Rattle.am_history.specs.Fronts.{FrontView}
use Rattle.am_store.specs.declared.call.Call.{Call}
use Rattle.am_cast.specs.Posters.{PassView}
use Rattle.am_provider.specs.Settling.{JoinedView, own_of, made_of}
use Rattle.am_provider.specs.Histories.{EntryView}

-- the joined passes own what the passes do, and the joined front was shown all of the history, which each
-- front begins, and made what the fronts did; or there is no caller
abbrev pub IsGathered : List EntryView → List (PassView Alert Call) → List (FrontView EntryView)
    → Option (JoinedView × FrontView EntryView) → Type 0
IsGathered entries passes fronts None = (passes ≡ []) × (fronts ≡ [])
IsGathered entries passes fronts (Some all) =
    (all.0 ≡ record { parts = length passes; own = own_of passes })
    × (all.1 ≡ record all.1 { seen = entries; made = made_of fronts; parts = length fronts })
    × All (λ (front : FrontView EntryView). IsPrefix front.seen entries) fronts
