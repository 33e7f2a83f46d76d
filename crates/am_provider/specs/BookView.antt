-- What contracts see of a Book over the log.
use Rattle.std.specs.Prelude.{◌≡◌, ◌≢◌, ℕ, ◌+◌, ◌≤◌, ◌<◌, true, false, List, [], Some, length, map}
use Rattle.std.specs.Prelude.{drop, filter}
use Rattle.std.specs.List.{All}
use Rattle.am_alert.specs.declared.alert.Alert.{Alert}
use Rattle.am_cast.specs.Rule.{idle}
use Rattle.am_cast.specs.Seats.{account_of}
use Rattle.am_store.specs.Journal.{JournalView, new_journal, call_count, until, is_closed, lefts_of, is_open}
use Rattle.am_store.specs.Journal.{IsOpenSubscription}
use Rattle.am_store.specs.Stored.{updates, stored}
use Rattle.am_store.specs.Broadcast.{broadcast, due}
use Rattle.am_store.specs.PlainBook.{PlainBook, FollowsJournal}
use Rattle.am_provider.specs.declared.answers.Policy.{Policy}
use Rattle.am_provider.specs.declared.answers.Ended.{Ended}
use Rattle.am_provider.specs.Batches.{Batch, LogView, sent_in, posts_in}
use Rattle.am_provider.specs.Histories.{sends}
use Rattle.am_provider.specs.Lefts.{left_ats}

-- a Book: its stored alerts in order, its journal of accepted calls, how many calls memory has no more, and
-- the log as its writer knows it. Then the endings of subscriptions that were given back, how many more
-- endings were dropped, and what it does if the log is full
pub record BookView : Type 0 where
  pub stored : List Alert
  pub journal : JournalView
  pub gone : ℕ
  pub log : LogView
  pub endings : List Ended
  pub early : ℕ
  pub policy : Policy

-- a Book over a log of this many places, of which nothing was asked yet
pub record IsNewBook (policy : Policy) (places : ℕ) (book : BookView) : Type 0 where
  pub stored : book.stored ≡ []
  pub journal : book.journal ≡ new_journal
  pub gone : book.gone ≡ 0
  pub tail : book.log.tail ≡ record { places = places; log = []; closed = false }
  pub endings : (book.endings ≡ []) × (book.early ≡ 0)
  pub policy_is : book.policy ≡ policy

-- the batches that were sent out, with what sent them
abbrev pub batches : BookView → List Batch
batches book = book.log.tail.log

-- the same Book without its lanes and endings
abbrev pub plain : BookView → PlainBook
plain book =
    record { stored = book.stored; journal = book.journal; log = sent_in (batches book) }

-- how many batches the calls of a journal sent out, those that were dropped too
abbrev pub places_of : JournalView → ℕ
places_of journal = journal.places + length (broadcast journal)

-- what the log has of a lane agrees with the journal: an idle lane isn't open; an open one reads the
-- log from the batches before its subscription on, of which its reader is known to have passed no fewer, with
-- a note of when it was subscribed and what was stored then
pub record IsLaneOf (book : BookView) (lane : ℕ) : Type 0 where
  pub shut : is_open book.journal lane ≡ false → (account_of book.log lane).stand ≡ idle
  pub given : is_open book.journal lane ≡ true → (account_of book.log lane).stand ≢ idle
  pub begun : is_open book.journal lane ≡ true → (at : ℕ) × IsOpenSubscription book.journal lane at
      × ((account_of book.log lane).start ≤ (account_of book.log lane).known)
  pub start : (at : ℕ) → IsOpenSubscription book.journal lane at → (account_of book.log lane).start
      ≡ places_of (until book.journal at)
  pub note : (at : ℕ) → IsOpenSubscription book.journal lane at → (account_of book.log lane).note
      ≡ Some (record { at = at; opening = stored (updates (until book.journal at)) })

-- a subscription's ending: it took no more than was due to it, and all of it if it answered `Closed`
pub record IsEndingOf (journal : JournalView) (ended : Ended) : Type 0 where
  pub within : ended.taken ≤ length (due journal ended.at)
  pub complete : ended.closed ≡ true → ended.taken ≡ length (due journal ended.at)
  pub closed : ended.closed ≡ true → is_closed journal ≡ true
  pub low : journal.before ≤ ended.at
  pub high : ended.at ≤ call_count journal

-- what is stored, what was sent out and by which post, whether the log is closed, each lane and each
-- ending follow from the journal, and the journal is legal. There is one ending for each subscription that
-- was given back, in that order, except for those whose Subscribed was dropped, which are counted: with these
-- there are as many endings as Lefts
pub record IsFaithful (book : BookView) : Type 0 where
  pub journal : FollowsJournal (plain book)
  pub posts : drop book.journal.places (posts_in (batches book)) ≡ filter sends book.journal.calls
  pub closed : book.log.tail.closed ≡ is_closed book.journal
  pub lanes : (lane : ℕ) → lane < 8 → IsLaneOf book lane
  pub endings : All (IsEndingOf book.journal) book.endings
  pub lefts : map (λ (ended : Ended). ended.at) book.endings ≡ left_ats book.journal
  pub ends : book.early + length book.endings ≡ lefts_of book.journal
