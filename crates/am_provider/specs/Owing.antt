-- What is due to a subscription as the history goes on.
use Rattle.std.specs.Prelude.{◌≡◌, ℕ, ◌≤◌, true, List, length, take}
use mathlib.Core.List.{IsPrefix}
use Rattle.am_alert.specs.declared.alert.Alert.{Alert}
use Rattle.am_store.specs.Journal.{is_closed, IsLegal}
use Rattle.am_store.specs.Broadcast.{due, IsFront}
use Rattle.am_provider.specs.declared.answers.Step.TheVariants as step
use Rattle.am_provider.specs.Batches.{Batch, sent_in}
use Rattle.am_provider.specs.Headline.{TakesItsDue}
use Rattle.am_provider.specs.Histories.{EntryView, calls_of, sent_by, whole}
use Rattle.am_provider.specs.Showings.{Shows}
use Rattle.am_provider.specs.Subscriptions.{SubscriptionView, taken}

-- what begins what was due after a history begins what is due after each longer one
abbrev pub StaysFrontOfDue : Type 0
StaysFrontOfDue =
    (first later : List EntryView) (at : ℕ) (front : List Alert) → IsPrefix first later
    → at ≤ length (calls_of first) → IsFront front (due (whole first) at)
    → IsFront front (due (whole later) at)

-- and such a list is as many alerts of it as the list has: what a subscription took that was given back is
-- known by the history and its ending's numbers
abbrev pub BeginningIsKnown : Type 0
BeginningIsKnown =
    (first later : List EntryView) (at : ℕ) (front : List Alert) → IsPrefix first later
    → at ≤ length (calls_of first) → IsFront front (due (whole first) at)
    → front ≡ take (length front) (due (whole later) at)

-- once the log was ended, a legal history owes nothing more
abbrev pub ClosedOwesNoMore : Type 0
ClosedOwesNoMore =
    (first later : List EntryView) (at : ℕ) → IsPrefix first later → IsLegal (whole later)
    → at ≤ length (calls_of first) → is_closed (whole first) ≡ true
    → due (whole later) at ≡ due (whole first) at

-- a subscription that answers Pending, once it has seen all that a history sent out, has taken all that the
-- history owed it. `was` is the subscription as it was when that history was looked at
abbrev pub PendingOwesNothing : Type 0
PendingOwesNothing =
    (before : List EntryView) (noted : List Batch) (was old new : SubscriptionView) → TakesItsDue was before
    → sent_in noted ≡ sent_by before → old.opening ≡ was.opening
    → old.cursor.lane.start ≡ was.cursor.lane.start → Shows old step.Pending new
    → IsPrefix noted new.cursor.lane.front → IsFront (due (whole before) was.at) (taken new)
