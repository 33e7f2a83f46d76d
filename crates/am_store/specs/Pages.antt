-- What a Book keeps besides its log, and what always holds of it.
use Rattle.std.specs.Prelude.{◌≡◌, ℕ, ◌<◌, ◌≤◌, ◌+◌, Bool, List, Option, if◌then◌else◌, length}
use Rattle.std.specs.Option.{is_some, IfSome}
use Rattle.am_alert.specs.declared.alert.Alert.{Alert}
use Rattle.am_store.specs.declared.lanes.OpenLane.{OpenLane}
use Rattle.am_store.specs.Journal.{is_closed, is_open, posts_of}
use Rattle.am_store.specs.PlainBook.{PlainBook, FollowsJournal}
use Rattle.am_store.specs.KeptJournals.{KeptView}
use Rattle.am_store.specs.Lanes.{lane_at, IsItsOpening, open_count}
use Rattle.am_store.specs.LogLimits.{IsWithinLogLimits}

-- what a Book keeps: its stored alerts, its journal, the batches sent out, how many posts there were,
-- what each lane has, and whether the log was ended
pub record Pages : Type 0 where
  pub stored : List Alert
  pub journal : KeptView
  pub sent : List (List Alert)
  pub posts : ℕ
  pub lanes : List (Option OpenLane)
  pub closed : Bool

-- as contracts see it
abbrev pub book_of : Pages → PlainBook
book_of pages = record {
  stored = pages.stored;
  journal = pages.journal.journal;
  log = pages.sent;
}

-- it agrees with the journal, which has room for what may come without memory: a Left for each open
-- lane and a Closed
pub record AgreesWithJournal (pages : Pages) : Type 0 where
  pub kept : FollowsJournal (book_of pages)
  pub eight : length pages.lanes ≡ 8
  pub closed : pages.closed ≡ is_closed pages.journal.journal
  pub lanes : (lane : ℕ) → lane < 8
      → is_some (lane_at pages.lanes lane) ≡ is_open pages.journal.journal lane
  pub openings : (lane : ℕ)
      → IfSome (lane_at pages.lanes lane) (IsItsOpening pages.journal.gone pages.journal.journal lane)
  pub posts : pages.posts ≡ posts_of pages.journal.journal
  pub limits : IsWithinLogLimits pages.sent
  pub room : open_count pages.lanes + (if pages.closed then 0 else 1) ≤ pages.journal.room
