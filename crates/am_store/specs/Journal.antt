-- The journal of accepted calls: when its log is closed, which lanes are open, and which call may
-- come next. Its first calls may have been dropped; what they left is kept in their place.
use Rattle.std.specs.Prelude.{◌≡◌, ℕ, ◌+◌, ◌-◌, ◌^◌, ◌<◌, ◌≤◌, Bool, true, false, ◌||◌, if◌then◌else◌, nat_eq}
use Rattle.std.specs.Prelude.{List, [], ◌∷◌, ◌++◌, length, take, drop, slice_get, Some, ⊤}
use Rattle.std.specs.List.{All, count_by, list_any}
use Rattle.am_alert.specs.declared.alert.Alert.{Alert}
use Rattle.am_store.specs.LaneSets.{has_lane}
use Rattle.am_store.specs.declared.call.Call.{Call}
use Rattle.am_store.specs.declared.journal.Journal.{Journal}
use Rattle.am_store.specs.declared.journal.TheConstants.{MAX_BEFORE}
use Rattle.am_store.specs.declared.call.Call.TheVariants.{Posted, Collected, Subscribed, Left, Closed}

-- a journal: how many of its first calls were dropped, how many batches they sent out, how many posts
-- were among them and how many subscriptions they gave back, what was stored, which lanes were open
-- (lane l in bit l) and whether the log was ended after them, and the calls since
pub record JournalView : Type 0 where
  pub before : ℕ
  pub places : ℕ
  pub posts : ℕ
  pub lefts : ℕ
  pub store : List Alert
  pub lanes : ℕ
  pub closed : Bool
  pub calls : List Call

-- the fields of a journal as contracts see them
abbrev pub journal_of : Journal → JournalView
journal_of journal = record {
  before = journal.before;
  places = journal.places;
  posts = journal.posts;
  lefts = journal.lefts;
  store = journal.store;
  lanes = journal.lanes;
  closed = journal.closed;
  calls = journal.calls.items;
}

-- a discarded batch is a discarded post's, a discarded post or Left is a discarded call, these can be
-- counted, and there are eight lanes
pub record AreCounted (journal : Journal) : Type 0 where
  pub places : journal.places ≤ journal.posts
  pub posts : journal.posts ≤ journal.before
  pub lefts : journal.lefts ≤ journal.before
  pub before : journal.before ≤ MAX_BEFORE
  pub lanes : journal.lanes < 2 ^ 8

-- the journal before any call
abbrev pub new_journal : JournalView
new_journal =
    record { before = 0; places = 0; posts = 0; lefts = 0; store = []; lanes = 0; closed = false; calls = [] }

-- the journal with one call more
abbrev pub with_call : JournalView → Call → JournalView
with_call journal call = record journal { calls = journal.calls ++ call ∷ [] }

-- how many calls there were, those that were dropped too
abbrev pub call_count : JournalView → ℕ
call_count journal = journal.before + length journal.calls

-- the journal as it was after the first `count` of the calls that weren't dropped
abbrev pub first_calls : ℕ → JournalView → JournalView
first_calls count journal = record journal { calls = take count journal.calls }

-- the journal as it was after `at` calls, those that were dropped counted too
abbrev pub until : JournalView → ℕ → JournalView
until journal at = first_calls (at - journal.before) journal

-- the calls after the first `at`
abbrev pub since : JournalView → ℕ → List Call
since journal at = drop (at - journal.before) journal.calls

-- whether a call is the one that ends the log
abbrev pub closes : Call → Bool
closes (Posted now alerts) = false
closes (Collected now) = false
closes (Subscribed lane) = false
closes (Left lane) = false
closes Closed = true

-- whether the log was ended
abbrev pub is_closed : JournalView → Bool
is_closed journal = journal.closed || list_any closes journal.calls

-- whether a call is a post
abbrev pub is_post : Call → Bool
is_post (Posted now alerts) = true
is_post (Collected now) = false
is_post (Subscribed lane) = false
is_post (Left lane) = false
is_post Closed = false

-- how many posts there were, with an alert or without
abbrev pub posts_of : JournalView → ℕ
posts_of journal = journal.posts + count_by is_post journal.calls

-- whether a call gives a subscription back
abbrev pub is_left : Call → Bool
is_left (Posted now alerts) = false
is_left (Collected now) = false
is_left (Subscribed lane) = false
is_left (Left lane) = true
is_left Closed = false

-- how many subscriptions were given back
abbrev pub lefts_of : JournalView → ℕ
lefts_of journal = journal.lefts + count_by is_left journal.calls

-- whether a lane is open after one more call
abbrev pub open_after : ℕ → Bool → Call → Bool
open_after lane was (Posted now alerts) = was
open_after lane was (Collected now) = was
open_after lane was (Subscribed other) = was || nat_eq other lane
open_after lane was (Left other) = if nat_eq other lane then false else was
open_after lane was Closed = was

-- whether a lane is open after some calls more
abbrev pub open_from : ℕ → Bool → List Call → Bool
open_from lane was [] = was
open_from lane was (call ∷ calls) = open_from lane (open_after lane was call) calls

-- whether a lane is open: it was subscribed and not left since
abbrev pub is_open : JournalView → ℕ → Bool
is_open journal lane = open_from lane (has_lane journal.lanes lane) journal.calls

-- none of the calls leaves the lane
abbrev pub IsKept : ℕ → List Call → Type 0
IsKept lane calls = All (λ call. open_after lane true call ≡ true) calls

-- the lane was subscribed after `at` calls, and wasn't left since
pub record IsOpenSubscription (journal : JournalView) (lane at : ℕ) : Type 0 where
  pub begun : journal.before ≤ at
  pub entry : slice_get journal.calls (at - journal.before) ≡ Some (Subscribed lane)
  pub kept : IsKept lane (since journal at)

-- the lane is the lowest of the eight that isn't open
pub record IsLowestIdle (journal : JournalView) (lane : ℕ) : Type 0 where
  pub within : lane < 8
  pub idle : is_open journal lane ≡ false
  pub lowest : (other : ℕ) → other < lane → is_open journal other ≡ true

-- all eight lanes are open
abbrev pub AreAllOpen : JournalView → Type 0
AreAllOpen journal = (lane : ℕ) → lane < 8 → is_open journal lane ≡ true

-- the call may come after those: once the log is closed only a collection or the end of a
-- subscription may
abbrev pub MayFollow : JournalView → Call → Type 0
MayFollow journal (Posted now alerts) = is_closed journal ≡ false
MayFollow journal (Collected now) = ⊤
MayFollow journal (Subscribed lane) = (is_closed journal ≡ false) × IsLowestIdle journal lane
MayFollow journal (Left lane) = is_open journal lane ≡ true
MayFollow journal Closed = is_closed journal ≡ false

-- each call of the journal might follow those before it
abbrev pub IsLegal : JournalView → Type 0
IsLegal journal =
    (at : ℕ) (call : Call) → slice_get journal.calls at ≡ Some call
    → MayFollow (first_calls at journal) call
