-- A journal that has fewer calls in memory than trims left it.
use Rattle.std.specs.Prelude.{ℕ, ◌-◌, ◌*◌, ◌^◌, ◌%◌, ◌≤◌, List, [], ◌∷◌, map, length, take, drop}
use Rattle.std.specs.Prelude.{bit_or, bit_and}
use Rattle.am_store.specs.declared.past.Past.{Past}
use Rattle.am_store.specs.declared.call.Call.{Call}
use Rattle.am_store.specs.declared.call.Call.TheVariants.{Posted, Collected, Subscribed, Left, Closed}
use Rattle.am_store.specs.declared.journal.Journal.{Journal}
use Rattle.am_store.specs.Journal.{JournalView, new_journal, journal_of, first_calls, is_closed}
use Rattle.am_store.specs.Journal.{posts_of, lefts_of, AreCounted, IsLegal}
use Rattle.am_store.specs.Stored.{updates, stored}
use Rattle.am_store.specs.Broadcast.{broadcast}
use Rattle.am_store.specs.Trims.{IsTrimmed}

-- a journal as trims left it, how many of its calls memory has no more, and for how many more it has room
pub record KeptView : Type 0 where
  pub journal : JournalView
  pub gone : ℕ
  pub room : ℕ

-- the calls that past values were
abbrev pub calls_in : List (Past Call) → List Call
calls_in pasts = map (λ (past : Past Call). past.value) pasts

-- the journal of calls of which none was discarded
abbrev pub journal_with : List Call → JournalView
journal_with calls = record new_journal { calls = calls }

-- the lanes that are open after one call more, as a set (lane l in bit l)
abbrev pub lanes_after : ℕ → Call → ℕ
lanes_after lanes (Posted now alerts) = lanes
lanes_after lanes (Collected now) = lanes
lanes_after lanes (Subscribed lane) = bit_or lanes (1 * 2 ^ lane % 256)
lanes_after lanes (Left lane) = bit_and lanes (255 - 1 * 2 ^ lane % 256)
lanes_after lanes Closed = lanes

-- the same after some calls
abbrev pub lanes_from : ℕ → List Call → ℕ
lanes_from lanes [] = lanes
lanes_from lanes (call ∷ calls) = lanes_from (lanes_after lanes call) calls

-- the journal of some calls without the first `count`
abbrev pub trimmed_to : ℕ → List Call → JournalView
trimmed_to count calls = record {
  before = count;
  places = length (broadcast (first_calls count (journal_with calls)));
  posts = posts_of (first_calls count (journal_with calls));
  lefts = lefts_of (first_calls count (journal_with calls));
  store = stored (updates (first_calls count (journal_with calls)));
  lanes = lanes_from 0 (take count calls);
  closed = is_closed (first_calls count (journal_with calls));
  calls = drop count calls;
}

-- memory has what is left of all calls without the first: at least those that trims discarded are gone
pub record IsKeptJournal (before : ℕ) (calls : List Call) (held : Journal) : Type 0 where
  pub legal : IsLegal (journal_with calls)
  pub few : before ≤ held.before
  pub within : held.before ≤ length calls
  pub trimmed : IsTrimmed (journal_with calls) held.before (journal_of held)
  pub counted : AreCounted held
