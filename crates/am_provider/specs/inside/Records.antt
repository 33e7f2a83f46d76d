-- A Book with its history.
use Rattle.std.specs.Prelude.{◌≡◌, ◌≢◌, ℕ, ◌+◌, ◌/◌, ◌≤◌, ◌<◌, true, false, List, length, Some}
use Rattle.am_cast.specs.declared.limits.TheConstants.{LANES}
use Rattle.am_cast.specs.Rule.{cut}
use Rattle.am_cast.specs.Seats.{account_of}
use Rattle.am_store.specs.Journal.{IsLegal}
use Rattle.am_store.specs.Trims.{IsTrimmed}
use Rattle.am_store.specs.declared.lanes.OpenLane.{OpenLane}
use Rattle.am_provider.specs.declared.answers.Policy.{Policy}
use Rattle.am_provider.specs.Batches.{sent_in}
use Rattle.am_provider.specs.Headline.{HasLagged}
use Rattle.am_provider.specs.BookView.{BookView, batches}
use Rattle.am_provider.specs.Histories.{EntryView, calls_of, whole, trimmed_by, sent_by, is_cut}
use Rattle.am_provider.specs.Histories.{endings_of, endings_since, gone_by}

-- a Book, and the history of its calls, trims and compactions
pub record RecordedView : Type 0 where
  pub book : BookView
  pub entries : List EntryView

-- the history is legal, the journal and the endings are what its trims left of it, and as many calls are
-- gone as it says; its posts sent out what the log has, and a lane's account is cut exactly if a post cut the
-- lane, at a word by which its reader lagged then
pub record IsRecorded (policy : Policy) (places : ℕ) (book : BookView) (entries : List EntryView)
    : Type 0 where
  pub legal : IsLegal (whole entries)
  pub few : trimmed_by entries ≤ length (calls_of entries)
  pub journal : IsTrimmed (whole entries) (trimmed_by entries) book.journal
  pub gone : book.gone ≡ gone_by entries
  pub sent : sent_in (batches book) ≡ sent_by entries
  pub cuts : (lane : ℕ) → lane < LANES → is_cut entries lane ≡ true → (account_of book.log lane).stand ≡ cut
  pub spares : (lane : ℕ) → lane < LANES → is_cut entries lane ≡ false
      → (account_of book.log lane).stand ≢ cut
  pub lags : (lane : ℕ) → lane < LANES → is_cut entries lane ≡ true → (one : OpenLane)
      → (account_of book.log lane).note ≡ Some one
      → HasLagged places lane one.at ((account_of book.log lane).half / 2 + 1) entries
  pub endings : book.endings ≡ endings_since (trimmed_by entries) entries
  pub early : book.early + length book.endings ≡ length (endings_of entries)
  pub limits : (book.policy ≡ policy) × (book.log.tail.places ≡ places)
