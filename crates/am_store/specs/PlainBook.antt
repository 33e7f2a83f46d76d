-- What a Book has, however its log is kept: its stored alerts, its journal and the batches sent out.
use Rattle.std.specs.Prelude.{◌≡◌, ◌≤◌, List, length, drop}
use Rattle.am_alert.specs.declared.alert.Alert.{Alert}
use Rattle.am_store.specs.Journal.{JournalView, IsLegal}
use Rattle.am_store.specs.Stored.{updates, stored}
use Rattle.am_store.specs.Broadcast.{broadcast}
use Rattle.am_store.specs.AlertList.{AreDistinct}

-- a Book: its stored alerts in order, its journal of accepted calls, and the log of batches sent
-- out
pub record PlainBook : Type 0 where
  pub stored : List Alert
  pub journal : JournalView
  pub log : List (List Alert)

-- what is stored and what was sent out follow from the journal, and the journal is legal. The log has
-- every batch, those of the dropped calls first
pub record FollowsJournal (book : PlainBook) : Type 0 where
  pub stored : book.stored ≡ stored (updates book.journal)
  pub log : drop book.journal.places book.log ≡ broadcast book.journal
  pub places : book.journal.places ≤ length book.log
  pub base : AreDistinct book.journal.store
  pub legal : IsLegal book.journal
