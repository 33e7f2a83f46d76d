-- What a Book says of a subscription, while it reads and as it is given back.
use Rattle.std.specs.Prelude.{◌≡◌, ◌+◌, ◌/◌, ◌≤◌, true, ◌++◌, drop}
use mathlib.Core.List.{IsPrefix}
use Rattle.am_alert.specs.declared.alert.Alert.{Alert}
use Rattle.am_cast.specs.Changes.{AreInLog}
use Rattle.am_cast.specs.Cursors.{HasCut}
use Rattle.am_cast.specs.Rule.{cut}
use Rattle.am_cast.specs.Seats.{account_of}
use Rattle.am_cast.specs.Posters.{PassView}
use Rattle.am_store.specs.declared.call.Call.{Call}
use Rattle.am_store.specs.Broadcast.{due, items_of, IsFront}
use Rattle.am_store.specs.Journal.{is_closed, IsOpenSubscription}
use Rattle.am_provider.specs.Batches.{sent_in}
use Rattle.am_provider.specs.BookView.{BookView, batches}
use Rattle.am_provider.specs.Subscriptions.{SubscriptionView, taken}

-- an open subscription has taken what begins its due by the journal, and all of it if it answered `Closed`,
-- which it does of a closed log alone. One that answered `Cut` was cut. One that was cut has passed no batch
-- since but the one in its hand. Its due is what was stored when it came, and what the log has from there on
pub record HasTakenDue (book : BookView) (subscription : SubscriptionView) : Type 0 where
  pub lane : IsOpenSubscription book.journal subscription.cursor.lane.number subscription.at
  pub owes : due book.journal subscription.at
      ≡ subscription.opening ++ items_of (drop subscription.cursor.lane.start (sent_in (batches book)))
  pub front : IsFront (taken subscription) (due book.journal subscription.at)
  pub complete : subscription.closed_told ≡ true → taken subscription ≡ due book.journal subscription.at
  pub told_closed : subscription.closed_told ≡ true → is_closed book.journal ≡ true
  pub told_cut : HasCut subscription.cursor
      → (account_of book.log subscription.cursor.lane.number).stand ≡ cut
  pub places : subscription.cursor.lane.places ≡ book.log.tail.places
  pub lags : let account = account_of book.log subscription.cursor.lane.number in account.stand ≡ cut
      → subscription.cursor.lane.passed ≤ account.half / 2 + 1

-- a pass, which owns what it did, knows the whole log of a Book
pub record KnowsWholeLog (book : BookView) (was is : PassView Alert Call) : Type 0 where
  pub own : is.own ≡ was.own
  pub noted : is.noted ≡ batches book
  pub more : IsPrefix was.noted is.noted
  pub known : AreInLog is.own is.noted
