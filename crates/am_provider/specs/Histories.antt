-- The history of a provider: its accepted calls, its trims and its compactions, in one order.
use Rattle.std.specs.Prelude.{ℕ, ◌+◌, max, Bool, false, ◌||◌, if◌then◌else◌, nat_eq, nat_le, List, [], ◌∷◌}
use Rattle.std.specs.Prelude.{Option, None, Some, filter, length, true}
use Rattle.std.specs.List.{flat_map}
use Rattle.am_alert.specs.declared.alert.Alert.{Alert}
use Rattle.am_store.specs.LaneSets.{has_lane}
use Rattle.am_store.specs.declared.call.Call.{Call}
use Rattle.am_store.specs.declared.call.Call.TheVariants.{Posted, Collected, Subscribed, Left, Closed}
use Rattle.am_store.specs.Journal.{JournalView, new_journal}
use Rattle.am_store.specs.Stored.{updates, stored}
use Rattle.am_store.specs.Broadcast.{broadcast}
use Rattle.am_provider.specs.declared.answers.Ended.{Ended}

-- an entry of the history: an accepted call, the lanes that it cut (lane l in bit l), and what it answered
-- of a subscription that it took back. Or a trim, which discarded `count` calls of the journal, or a
-- compaction, which took `count` out of memory
pub data EntryView : Type 0 where
  Accepted : (call : Call) (cut : ℕ) (ended : Option Ended) → EntryView
  Trimmed : (count : ℕ) → EntryView
  Compacted : (count : ℕ) → EntryView

-- the entry of a call that cut no lane and took no subscription back
abbrev pub only_call : Call → EntryView
only_call call = Accepted call 0 None

-- the call of an entry, if it is one of the journal
abbrev pub call_of : EntryView → List Call
call_of (Accepted call cut ended) = call ∷ []
call_of (Trimmed count) = []
call_of (Compacted count) = []

-- the calls of a history, in order
abbrev pub calls_of : List EntryView → List Call
calls_of entries = flat_map call_of entries

-- the journal of all of a history's calls, as if none had been trimmed
abbrev pub whole : List EntryView → JournalView
whole entries = record new_journal { calls = calls_of entries }

-- how many calls the trims of a history discarded
abbrev pub trimmed_by : List EntryView → ℕ
trimmed_by [] = 0
trimmed_by (Accepted call cut ended ∷ entries) = trimmed_by entries
trimmed_by (Trimmed count ∷ entries) = count + trimmed_by entries
trimmed_by (Compacted count ∷ entries) = trimmed_by entries

-- how many calls memory has no more after some entries more, if trims had discarded `trimmed` and `gone` had
-- left memory. A trim leaves no call in memory that it discarded, and a compaction takes `count` more
abbrev pub gone_from : ℕ → ℕ → List EntryView → ℕ
gone_from trimmed gone [] = gone
gone_from trimmed gone (Accepted call cut ended ∷ entries) = gone_from trimmed gone entries
gone_from trimmed gone (Trimmed count ∷ entries) =
    gone_from (trimmed + count) (max gone (trimmed + count)) entries
gone_from trimmed gone (Compacted count ∷ entries) = gone_from trimmed (gone + count) entries

-- how many calls of a history memory has no more
abbrev pub gone_by : List EntryView → ℕ
gone_by entries = gone_from 0 0 entries

-- what is stored after a history
abbrev pub stored_after : List EntryView → List Alert
stored_after entries = stored (updates (whole entries))

-- whether a call sends a batch out: a post with an alert does
abbrev pub sends : Call → Bool
sends (Posted now []) = false
sends (Posted now (alert ∷ alerts)) = true
sends (Collected now) = false
sends (Subscribed lane) = false
sends (Left lane) = false
sends Closed = false

-- how many batches calls send out
abbrev pub batch_count : List Call → ℕ
batch_count calls = length (filter sends calls)

-- the batches that a history sent out: the log that subscriptions read
abbrev pub sent_by : List EntryView → List (List Alert)
sent_by entries = broadcast (whole entries)

-- whether a lane is cut after a call that cut these lanes. It isn't when it is given out or left
abbrev pub cut_after : ℕ → Bool → Call → ℕ → Bool
cut_after lane was (Posted now alerts) cut = was || has_lane cut lane
cut_after lane was (Collected now) cut = was
cut_after lane was (Subscribed other) cut = if nat_eq other lane then false else was
cut_after lane was (Left other) cut = if nat_eq other lane then false else was
cut_after lane was Closed cut = was

-- whether a lane is cut after some entries more
abbrev pub cut_from : ℕ → Bool → List EntryView → Bool
cut_from lane was [] = was
cut_from lane was (Accepted call cut ended ∷ entries) = cut_from lane (cut_after lane was call cut) entries
cut_from lane was (Trimmed count ∷ entries) = cut_from lane was entries
cut_from lane was (Compacted count ∷ entries) = cut_from lane was entries

-- whether a post cut the lane since it was given out
abbrev pub is_cut : List EntryView → ℕ → Bool
is_cut entries lane = cut_from lane false entries

-- what an entry answered of a subscription that it took back
abbrev pub ending_of : EntryView → List Ended
ending_of (Accepted call cut None) = []
ending_of (Accepted call cut (Some ended)) = ended ∷ []
ending_of (Trimmed count) = []
ending_of (Compacted count) = []

-- what was answered of each subscription that was taken back, in order
abbrev pub endings_of : List EntryView → List Ended
endings_of entries = flat_map ending_of entries

-- those of them whose subscription came after at least `count` calls
abbrev pub endings_since : ℕ → List EntryView → List Ended
endings_since count entries = filter (λ (ended : Ended). nat_le count ended.at) (endings_of entries)

-- those of them whose Subscribed memory has: no trim discarded it, and no compaction came after it
abbrev pub kept_endings : List EntryView → List Ended
kept_endings entries = endings_since (gone_by entries) entries
