-- What stays as the journal grows or is trimmed, and what the stored list holds.
use Rattle.std.specs.Prelude.{◌≡◌, ◌↔◌, ℕ, ◌+◌, ◌-◌, ◌≤◌, true, List, [], ◌∷◌, ◌++◌, map, length, drop}
use Rattle.std.specs.Option.{option_map}
use Rattle.am_alert.specs.declared.alert.Alert.{Alert}
use Rattle.am_labels.specs.LabelSets.{Labels}
use Rattle.am_store.specs.declared.call.Call.{Call}
use Rattle.am_store.specs.declared.call.Call.TheVariants.{Posted, Collected, Subscribed, Left, Closed}
use Rattle.am_store.specs.Journal.{JournalView, with_call, call_count, until, is_closed, posts_of, lefts_of}
use Rattle.am_store.specs.Journal.{open_after, is_open, IsOpenSubscription, MayFollow}
use Rattle.am_store.specs.Stored.{Update, Holding, holding_of, first_reports, updates, stored}
use Rattle.am_store.specs.Broadcast.{broadcast, due, IsFront}
use Rattle.am_store.specs.Trims.{AreBeforeOpen, IsTrimmed}
use Rattle.am_store.specs.AlertList.{lookup, AreDistinct}

-- a subscription stays open, over the same calls before it, as a call comes that doesn't leave its lane
abbrev pub StaysOpen : Type 0
StaysOpen =
    (journal : JournalView) (lane at : ℕ) (call : Call)
    → IsOpenSubscription journal lane at → open_after lane true call ≡ true
    → IsOpenSubscription (with_call journal call) lane at
    × (until (with_call journal call) at ≡ until journal at)

-- the lane of an open subscription is open
abbrev pub OpenLanesAreOpen : Type 0
OpenLanesAreOpen =
    (journal : JournalView) (lane at : ℕ) → IsOpenSubscription journal lane at
    → is_open journal lane ≡ true

-- a subscription whose lane is left is open no more, whoever takes the lane later
abbrev pub LeavingEnds : Type 0
LeavingEnds =
    (journal : JournalView) (lane at : ℕ) (later : List Call) → IsOpenSubscription journal lane at
    → IsOpenSubscription (record journal { calls = journal.calls ++ Left lane ∷ later }) lane at → ⊥

-- what begins what is due still does when a call comes
abbrev pub StaysFront : Type 0
StaysFront =
    (journal : JournalView) (call : Call) (at : ℕ) (front : List Alert) → at ≤ call_count journal
    → IsFront front (due journal at) → IsFront front (due (with_call journal call) at)

-- once the log was ended, no call makes more due
abbrev pub EndedOwesNoMore : Type 0
EndedOwesNoMore =
    (journal : JournalView) (call : Call) (at : ℕ) → at ≤ call_count journal
    → is_closed journal ≡ true → MayFollow journal call
    → due (with_call journal call) at ≡ due journal at

-- the label sets of a batch
abbrev pub labels_of_batch : List Alert → List Labels
labels_of_batch batch = map (λ alert. alert.labels) batch

-- the label sets of each post with an alert
abbrev pub posted_labels : List Call → List (List Labels)
posted_labels [] = []
posted_labels (Posted now [] ∷ calls) = posted_labels calls
posted_labels (Posted now (alert ∷ alerts) ∷ calls) =
    labels_of_batch (alert ∷ alerts) ∷ posted_labels calls
posted_labels (Collected now ∷ calls) = posted_labels calls
posted_labels (Subscribed lane ∷ calls) = posted_labels calls
posted_labels (Left lane ∷ calls) = posted_labels calls
posted_labels (Closed ∷ calls) = posted_labels calls

-- each post with an alert is answered by one batch, in order, which has one alert for each of the
-- post, in order, of its label set
abbrev pub BatchesAnswerPosts : Type 0
BatchesAnswerPosts =
    (journal : JournalView) → map labels_of_batch (broadcast journal) ≡ posted_labels journal.calls

-- of each label set the stored list has exactly the alert that its own fold holds
abbrev pub StoredIsOfEach : Type 0
StoredIsOfEach =
    (labels : Labels) (all : List Update)
    → lookup labels (stored all) ≡ option_map (λ (one : Holding). one.alert) (holding_of labels all)

-- no two stored alerts have one label set
abbrev pub StoredIsDistinct : Type 0
StoredIsDistinct = (all : List Update) → AreDistinct (stored all)

-- a journal without calls gives the stored list that the dropped ones left, in its order
abbrev pub StartsWithBase : Type 0
StartsWithBase = (alerts : List Alert) → AreDistinct alerts → stored (first_reports alerts) ≡ alerts

-- what a journal and a trimmed one have in common
pub record GiveTheSame (whole trimmed : JournalView) : Type 0 where
  pub stored : stored (updates trimmed) ≡ stored (updates whole)
  pub lanes : (lane : ℕ) → is_open trimmed lane ≡ is_open whole lane
  pub closed : is_closed trimmed ≡ is_closed whole
  pub posts : posts_of trimmed ≡ posts_of whole
  pub lefts : lefts_of trimmed ≡ lefts_of whole
  pub sent : broadcast trimmed ≡ drop (trimmed.places - whole.places) (broadcast whole)
  pub due : (at : ℕ) → trimmed.before ≤ at → due trimmed at ≡ due whole at
  pub follow : (call : Call) → MayFollow trimmed call ↔ MayFollow whole call

-- a trimmed journal stores the same, has the same lanes open and owes each subscription that may still
-- be open the same
abbrev pub TrimmedGivesTheSame : Type 0
TrimmedGivesTheSame =
    (whole trimmed : JournalView) (count : ℕ) → count ≤ length whole.calls
    → IsTrimmed whole count trimmed → GiveTheSame whole trimmed

-- a trimmed journal that grows is the grown one trimmed
abbrev pub TrimmedGrows : Type 0
TrimmedGrows =
    (whole trimmed : JournalView) (count : ℕ) (call : Call) → count ≤ length whole.calls
    → IsTrimmed whole count trimmed → IsTrimmed (with_call whole call) count (with_call trimmed call)

-- two trims are one of all that both drop
abbrev pub TrimmedTwice : Type 0
TrimmedTwice =
    (whole once twice : JournalView) (first more : ℕ)
    → first ≤ length whole.calls → more ≤ length once.calls
    → IsTrimmed whole first once → IsTrimmed once more twice → IsTrimmed whole (first + more) twice

-- how many calls there are before the earliest open subscription is one number
abbrev pub OneTrim : Type 0
OneTrim =
    (journal : JournalView) (count other : ℕ)
    → AreBeforeOpen journal count → AreBeforeOpen journal other → count ≡ other
