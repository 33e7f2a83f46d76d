-- What a compaction rests on, beyond am_store's laws of trims.
use Rattle.std.specs.Prelude.{ℕ, ◌+◌, List}
use Rattle.am_store.specs.declared.call.Call.{Call}
use Rattle.am_store.specs.Journal.{JournalView, IsLegal}
use Rattle.am_store.specs.Trims.{IsTrimmed}
use Rattle.am_store.specs.KeptJournals.{journal_with, trimmed_to}

-- of two trims of one journal, the longer is one of what the shorter left
abbrev pub TrimmedBetween : Type 0
TrimmedBetween =
    (whole once twice : JournalView) (first more : ℕ)
    → IsTrimmed whole first once → IsTrimmed whole (first + more) twice → IsTrimmed once more twice

-- a legal journal of calls has the trim to any of them
abbrev pub TrimmedToSo : Type 0
TrimmedToSo =
    (calls : List Call) (count : ℕ) → IsLegal (journal_with calls)
    → IsTrimmed (journal_with calls) count (trimmed_to count calls)
