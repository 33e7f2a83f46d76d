-- The fields of a Book, and what always holds of them.
use Rattle.std.specs.Prelude.{◌≡◌, ◌≢◌, ℕ, ◌+◌, ◌≤◌, ◌<◌, List, Option, None, Some, length, map, drop, filter}
use Rattle.std.specs.List.{All}
use Rattle.am_alert.specs.declared.alert.Alert.{Alert}
use Rattle.am_cast.specs.declared.views.Account.{Account}
use Rattle.am_cast.specs.Rule.{idle}
use Rattle.am_cast.specs.Seats.{account_of}
use Rattle.am_segment.specs.Segments.{KeyView}
use Rattle.am_store.specs.declared.lanes.OpenLane.{OpenLane}
use Rattle.am_store.specs.Journal.{JournalView, until, lefts_of}
use Rattle.am_store.specs.Broadcast.{broadcast}
use Rattle.am_store.specs.KeptJournals.{KeptView}
use Rattle.am_store.specs.Stored.{updates, stored}
use Rattle.am_store.specs.Lanes.{lane_at, open_count}
use Rattle.am_store.specs.Pages.{Pages, AgreesWithJournal}
use Rattle.am_provider.specs.declared.answers.Policy.{Policy}
use Rattle.am_provider.specs.declared.answers.Ended.{Ended}
use Rattle.am_provider.specs.Batches.{LogView, sent_in, posts_in}
use Rattle.am_provider.specs.Lefts.{left_ats}
use Rattle.am_provider.specs.BookView.{BookView, IsEndingOf}
use Rattle.am_provider.specs.Histories.{sends}

-- the fields of a Book
pub record Shelf : Type 0 where
  pub stored : List Alert
  pub journal : KeptView
  pub log : LogView
  pub posts : ℕ
  pub lanes : List (Option OpenLane)
  pub endings : List Ended
  pub early : ℕ
  pub policy : Policy

-- a Book as contracts see it
abbrev pub view_of : Shelf → BookView
view_of shelf = record {
  stored = shelf.stored;
  journal = shelf.journal.journal;
  gone = shelf.journal.gone;
  log = shelf.log;
  endings = shelf.endings;
  early = shelf.early;
  policy = shelf.policy;
}

-- what it has besides what the log knows of its lanes
abbrev pub pages_of : Shelf → Pages
pages_of shelf = record {
  stored = shelf.stored;
  journal = shelf.journal;
  sent = sent_in shelf.log.tail.log;
  posts = shelf.posts;
  lanes = shelf.lanes;
  closed = shelf.log.tail.closed;
}

-- the log has of a lane what the Book keeps of it
abbrev pub IsKeptLane : JournalView → Account (KeyView Alert) OpenLane → Option OpenLane → Type 0
IsKeptLane journal account None = account.stand ≡ idle
IsKeptLane journal account (Some one) =
    (account.stand ≢ idle)
    × (account.note ≡ Some (record { at = one.at; opening = stored (updates (until journal one.at)) }))
    × (account.start ≡ journal.places + length (broadcast (until journal one.at)))
    × (account.start ≤ account.known)

-- the fields agree with the journal and with each other: each post is counted in the ledger, and
-- there is room for an ending of each open lane
pub record IsKeptBook (shelf : Shelf) (counted places : ℕ) : Type 0 where
  pub pages : AgreesWithJournal (pages_of shelf)
  pub posts : drop shelf.journal.journal.places (posts_in shelf.log.tail.log)
      ≡ filter sends shelf.journal.journal.calls
  pub lanes : (lane : ℕ) → lane < 8
      → IsKeptLane shelf.journal.journal (account_of shelf.log lane) (lane_at shelf.lanes lane)
  pub endings : All (IsEndingOf shelf.journal.journal) shelf.endings
  pub lefts : map (λ (ended : Ended). ended.at) shelf.endings ≡ left_ats shelf.journal.journal
  pub ends : shelf.early + length shelf.endings ≡ lefts_of shelf.journal.journal
  pub total : counted ≡ length shelf.log.tail.log
  pub room : length shelf.endings + open_count shelf.lanes ≤ places
