-- What the end of a provider for threads shows.
use Rattle.std.specs.Prelude.{◌≡◌, ℕ, ◌+◌, ◌≤◌, ◌<◌, true, List, length, drop, filter}
use Rattle.std.specs.List.{All}
use mathlib.Core.List.{IsPrefix}
use Rattle.am_alert.specs.declared.alert.Alert.{Alert}
use Rattle.am_cast.specs.Changes.{AreInLog}
use Rattle.am_cast.specs.Posters.{PassView}
use Rattle.am_cast.specs.Rule.{Once}
use Rattle.am_history.specs.Fronts.{FrontView, AreMade, AreMadeOnce, IsMade}
use Rattle.am_store.specs.AlertMaps.{stored_in}
use Rattle.am_store.specs.Broadcast.{due}
use Rattle.am_store.specs.Journal.{is_closed, journal_of, lefts_of, IsLegal}
use Rattle.am_store.specs.Trims.{IsTrimmed}
use Rattle.am_store.specs.declared.call.Call.{Call}
use Rattle.am_provider.specs.Batches.{Batch, posts_in, sent_in}
use Rattle.am_provider.specs.Histories.{EntryView, calls_of, endings_of, kept_endings, sent_by, sends}
use Rattle.am_provider.specs.Histories.{gone_by, stored_after, whole}
use Rattle.am_provider.specs.Settling.{IsOwn, made_of, own_of}
use Rattle.am_provider.specs.declared.answers.Ended.{Ended}
use Rattle.am_provider.specs.declared.settled.Settled.{Settled}

-- a subscription's ending: it took no more than a history owes it, and all of that if it answered `Closed`,
-- which it does only of a closed log
pub record IsOwed (entries : List EntryView) (ended : Ended) : Type 0 where
  pub at : ended.at ≤ length (calls_of entries)
  pub within : ended.taken ≤ length (due (whole entries) ended.at)
  pub complete : ended.closed ≡ true → ended.taken ≡ length (due (whole entries) ended.at)
  pub closed : ended.closed ≡ true → is_closed (whole entries) ≡ true

-- what memory has of a history, as trims and compactions left it: calls, the store, and the endings of
-- subscriptions that were given back, except for those whose Subscribed is gone, which are counted
pub record IsLeftOf (entries : List EntryView) (end : Settled) : Type 0 where
  pub legal : IsLegal (whole entries)
  pub journal : IsTrimmed (whole entries) (gone_by entries) (journal_of end.journal)
  pub stored : stored_in end.store.entries ≡ stored_after entries
  pub endings : end.ended.items ≡ kept_endings entries
  pub early : end.early + length end.ended.items ≡ length (endings_of entries)
  pub lefts : length (endings_of entries) ≡ lefts_of (journal_of end.journal)
  pub owed : All (IsOwed entries) end.ended.items

-- the log that a history sends out, with the post that sent each batch, as far as the journal has it. Each
-- own post of a pass is in it at its place with what was posted, none twice; these are all if all passes
-- are there
pub record IsSentBy (entries : List EntryView) (passes : List (PassView Alert Call)) (end : Settled)
    (log : List Batch) : Type 0 where
  pub sent : sent_in log ≡ sent_by entries
  pub senders : drop (journal_of end.journal).places (posts_in log)
      ≡ filter sends (journal_of end.journal).calls
  pub own : AreInLog (own_of passes) log
  pub once : Once (own_of passes)
  pub all : end.complete ≡ true → (place : ℕ) → place < length log → IsOwn (own_of passes) place

-- the history that each caller's front begins. What the callers added is in it, no entry twice; if all
-- callers are there, it is all of it
pub record IsMadeBy (entries : List EntryView) (fronts : List (FrontView EntryView)) (end : Settled)
    : Type 0 where
  pub seen : All (λ (front : FrontView EntryView). IsPrefix front.seen entries) fronts
  pub made : AreMade (made_of fronts) entries
  pub once : AreMadeOnce (made_of fronts)
  pub all : end.complete ≡ true → (index : ℕ) → index < length entries → IsMade (made_of fronts) index

-- a provider ended: there is one history of its calls, trims and compactions
pub record IsSettledFrom (passes : List (PassView Alert Call)) (fronts : List (FrontView EntryView))
    (end : Settled) : Type 0 where
  pub entries : List EntryView
  pub log : List Batch
  pub left : IsLeftOf entries end
  pub sent : IsSentBy entries passes end log
  pub made : IsMadeBy entries fronts end
