-- What a call of `next` or `next_slice` shows, and what it leaves (`provider.AlertIterator`'s Next).
use Rattle.std.specs.Prelude.{◌≡◌, ◌<◌, ◌⊎◌, Bool, true, false, List, [], ◌∷◌, ◌++◌, length, ⊤}
use mathlib.Core.List.{IsPrefix}
use Rattle.am_alert.specs.declared.alert.Alert.{Alert}
use Rattle.am_cast.specs.Cursors.{GoesOn, HasCut}
use Rattle.am_cast.specs.Lent.{IsPending, IsClosed, IsCut, IsRest}
use Rattle.am_cast.specs.Lent as cast
use Rattle.am_store.specs.Shared.{alerts_in, run_end}
use Rattle.am_provider.specs.declared.answers.Slice.{Slice}
use Rattle.am_provider.specs.declared.answers.Slice.TheVariants as slice
use Rattle.am_provider.specs.declared.answers.Step.{Step}
use Rattle.am_provider.specs.declared.answers.Step.TheVariants as step
use Rattle.am_provider.specs.Batches.{Batch}
use Rattle.am_provider.specs.Subscriptions.{SubscriptionView, taken}

-- alerts are shown at the end of what was taken, and none once `Closed` or `Cut` was answered
pub record ShowsAlerts (old : SubscriptionView) (alerts : List Alert) (new : SubscriptionView) : Type 0 where
  pub taken : taken new ≡ taken old ++ alerts
  pub at : new.at ≡ old.at
  pub opening : new.opening ≡ old.opening
  pub on : GoesOn old.cursor new.cursor
  pub told : (old.closed_told ≡ false) × (new.closed_told ≡ false)
  pub was_uncut : HasCut old.cursor → ⊥

-- one alert more
abbrev pub ShowsItem : SubscriptionView → Alert → SubscriptionView → Type 0
ShowsItem old alert new = ShowsAlerts old (alert ∷ []) new

-- the opening was shown, and nothing but the cursor changes, and whether `Closed` was answered
pub record ShowsNone (old : SubscriptionView) (told : Bool) (new : SubscriptionView) : Type 0 where
  pub shown : old.shown ≡ length old.opening
  pub rest : new ≡ record old { cursor = new.cursor; closed_told = told }
  pub on : GoesOn old.cursor new.cursor

-- nothing more was shown or answered
pub record StaysShown (old new : SubscriptionView) : Type 0 where
  pub rest : new ≡ record old { cursor = new.cursor }
  pub on : GoesOn old.cursor new.cursor
  pub taken : taken new ≡ taken old

-- nothing more was shown or answered, and an answer other than Pending is known: of the opening, that the log
-- was closed, or of the log
pub record HasNews (old new : SubscriptionView) : Type 0 where
  pub stays : StaysShown old new
  pub known : (new.shown < length new.opening) ⊎ (new.closed_told ≡ true) ⊎ cast.HasNews old.cursor new.cursor

-- what an answer shows: an alert more; that nothing is left after a look of this call, which showed the
-- log open; that the log is closed and all of it was shown; or that a post cut the lane
abbrev pub Shows : SubscriptionView → Step → SubscriptionView → Type 0
Shows old (step.Item alert) new = ShowsItem old alert.now new
Shows old step.Pending new = ShowsNone old old.closed_told new × IsPending old.cursor new.cursor
Shows old step.Closed new = ShowsNone old true new × IsClosed old.cursor new.cursor
Shows old step.Cut new = ShowsNone old old.closed_told new × IsCut old.cursor new.cursor

-- what an answer with many alerts shows: all that lay together of the rest of the opening, or was left of a
-- batch, and at least one
abbrev pub ShowsSlice : SubscriptionView → Slice → SubscriptionView → Type 0
ShowsSlice old (slice.Stored alerts) new =
    ShowsAlerts old (alerts_in alerts.now) new × (old.shown < length old.opening)
    × (new ≡ record old { shown = run_end old.shown (length old.opening) })
ShowsSlice old (slice.Posted items) new =
    ShowsAlerts old items.now new × ShowsNone old old.closed_told new × IsRest old.cursor new.cursor items.now
ShowsSlice old slice.Pending new = Shows old step.Pending new
ShowsSlice old slice.Closed new = Shows old step.Closed new
ShowsSlice old slice.Cut new = Shows old step.Cut new

-- where nothing is left, all that a pass knows of the log was shown
abbrev pub ShowsPast : List Batch → Step → SubscriptionView → Type 0
ShowsPast noted step.Pending new = IsPrefix noted new.cursor.lane.front
ShowsPast noted other new = ⊤
