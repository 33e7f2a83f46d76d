-- How a subscription moves on before its alert is lent.
use Rattle.std.specs.Prelude.{◌≡◌, ℕ, ◌<◌, ◌+◌, ◌-◌, ◌^◌, ◌%◌, Bool, true, false, List, [], length, ⊤}
use Rattle.std.specs.Prelude.{slice_get, Option, Some}
use mathlib.Core.List.{IsPrefix}
use Rattle.am_alert.specs.declared.alert.Alert.{Alert}
use Rattle.am_cast.specs.Cursors.{shown_items}
use Rattle.am_cast.specs.Lent.{IsItem, IsPending, IsClosed, IsCut, IsInHand}
use Rattle.am_cast.specs.declared.lends.Moved.{Moved}
use Rattle.am_cast.specs.declared.lends.Moved.TheVariants as moved
use Rattle.am_provider.specs.declared.answers.Step.{Step}
use Rattle.am_provider.specs.declared.answers.Step.TheVariants as step
use Rattle.am_provider.specs.declared.subscription.Advance.{Advance}
use Rattle.am_provider.specs.declared.subscription.Advance.TheVariants as advance
use Rattle.am_provider.specs.Batches.{Batch}
use Rattle.am_provider.specs.Subscriptions.{SubscriptionView}
use Rattle.am_provider.specs.Showings.{ShowsNone}
use Rattle.am_provider.specs.inside.Subscribed.{IsFresh}

-- one alert more of the opening or of the log, or why there is none
abbrev pub Advances : SubscriptionView → Advance → SubscriptionView → Type 0
Advances old advance.Opened new =
    (old.shown < length old.opening) × IsFresh old.cursor × (old.closed_told ≡ false)
    × (new ≡ record old { shown = old.shown + 1 })
Advances old advance.Logged new =
    ShowsNone old old.closed_told new × (old.closed_told ≡ false) × IsItem old.cursor new.cursor
Advances old advance.Pending new = ShowsNone old old.closed_told new × IsPending old.cursor new.cursor
Advances old advance.Closed new = ShowsNone old true new × IsClosed old.cursor new.cursor
Advances old advance.Cut new = ShowsNone old old.closed_told new × IsCut old.cursor new.cursor

-- where nothing is left, all that was noted of the log was seen
abbrev pub AdvancesPast : List Batch → SubscriptionView → Advance → Type 0
AdvancesPast noted new advance.Pending = IsPrefix noted new.cursor.lane.front
AdvancesPast noted new other = ⊤

-- what was advanced can be lent
abbrev pub CanShow : Advance → SubscriptionView → Type 0
CanShow advance.Opened s = (0 < s.shown) × (shown_items s.cursor ≡ [])
CanShow advance.Logged s = s.cursor.lane.held ≡ true
CanShow other s = ⊤

-- an answer lends the alert that was advanced to, or says why there is none
abbrev pub IsShown : SubscriptionView → Advance → Step → Type 0
IsShown s advance.Opened (step.Item alert) = slice_get s.opening (s.shown - 1) ≡ Some alert.now
IsShown s advance.Logged (step.Item alert) = IsInHand s.cursor alert.now
IsShown s advance.Pending answer = answer ≡ step.Pending
IsShown s advance.Closed answer = answer ≡ step.Closed
IsShown s advance.Cut answer = answer ≡ step.Cut
IsShown s other answer = ⊥

-- what memory has of the opening after a move of the cursor: as before, unless the log showed an alert
abbrev pub LetsGo : Moved → Option (List Alert) → Option (List Alert) → Type 0
LetsGo moved.One was is = ⊤
LetsGo other was is = is ≡ was

-- a subscription's count, and whether it answered `Closed`, after a move of its cursor
abbrev pub Notes : Moved → ℕ → Bool → Advance → ℕ → Bool → Type 0
Notes moved.One count told given more tells =
    (given ≡ advance.Logged) × (more ≡ (count + 1) % 2 ^ 64) × (tells ≡ told)
Notes moved.Pending count told given more tells =
    (given ≡ advance.Pending) × (more ≡ count) × (tells ≡ told)
Notes moved.Closed count told given more tells =
    (given ≡ advance.Closed) × (more ≡ count) × (tells ≡ true)
Notes moved.Cut count told given more tells =
    (given ≡ advance.Cut) × (more ≡ count) × (tells ≡ told)
