-- What the end of a Book shows.
use Rattle.std.specs.Prelude.{◌≡◌, ℕ, ◌+◌, ◌-◌, ◌<◌, ◌≤◌, nat_le, true, List, [], ◌∷◌, ◌++◌, length}
use Rattle.std.specs.Prelude.{filter, Option, None, Some}
use mathlib.Core.Option.{some}
use lib.ListN.{get_elem?}
use Rattle.am_alert.specs.declared.alert.Alert.{Alert}
use Rattle.am_store.specs.declared.call.Call.{Call}
use Rattle.am_history.specs.Fronts.{FrontView}
use Rattle.am_history.specs.declared.views.Made.{Made}
use Rattle.am_store.specs.Journal.{call_count, lefts_of, journal_of}
use Rattle.am_store.specs.AlertMaps.{stored_in}
use Rattle.am_store.specs.Trims.{IsTrimmed}
use Rattle.am_cast.specs.declared.views.Own.{Own}
use Rattle.am_cast.specs.Rule.{Once}
use Rattle.am_cast.specs.Changes.{AreInLog}
use Rattle.am_cast.specs.Posters.{PassView}
use Rattle.am_provider.specs.declared.answers.Ended.{Ended}
use Rattle.am_provider.specs.declared.settled.Settled.{Settled}
use Rattle.am_provider.specs.Batches.{Batch}
use Rattle.am_provider.specs.BookView.{BookView, batches, IsFaithful}
use Rattle.am_provider.specs.Histories.{EntryView}

-- the own posts of some passes, each pass's in its order
abbrev pub own_of : List (PassView Alert Call) → List (Own Batch)
own_of [] = []
own_of (pass ∷ passes) = own_of passes ++ pass.own

-- a place is one of these
abbrev pub IsOwn : List (Own Batch) → ℕ → Type 0
IsOwn own place = (k : ℕ) × (o : Own Batch) × (get_elem? own k ≡ some o) × (o.place ≡ place)

-- passes that were joined: how many there are, and their own posts
pub record JoinedView : Type 0 where
  pub parts : ℕ
  pub own : List (Own Batch)

-- the own posts of all passes, and how many passes there are, if there is any
abbrev pub own_in : Option JoinedView → List (Own Batch)
own_in None = []
own_in (Some all) = all.own

abbrev pub parts_in : Option JoinedView → ℕ
parts_in None = 0
parts_in (Some all) = all.parts

-- the journal and the endings are what memory has of those of the Book, and the store is the Book's, which
-- its journal explains. Each own post is in its log at its place with what was posted, none twice; if all
-- passes were given, these are all places. The endings, with the number of the others, are as many as the
-- journal's Lefts
pub record IsSettled (book : BookView) (own : List (Own Batch)) (settled : Settled) : Type 0 where
  pub faithful : IsFaithful book
  pub gone : (book.journal.before ≤ book.gone) × (book.gone ≤ call_count book.journal)
  pub journal : IsTrimmed book.journal (book.gone - book.journal.before) (journal_of settled.journal)
  pub store : stored_in settled.store.entries ≡ book.stored
  pub ended : settled.ended.items ≡ filter (λ (ended : Ended). nat_le book.gone ended.at) book.endings
  pub early : settled.early + length settled.ended.items ≡ book.early + length book.endings
  pub ends : settled.early + length settled.ended.items ≡ lefts_of (journal_of settled.journal)
  pub posts : AreInLog own (batches book)
  pub once : Once own
  pub all : settled.complete ≡ true → (place : ℕ) → place < length (batches book) → IsOwn own place

-- what some callers added to the history, each caller's in its order
abbrev pub made_of : List (FrontView EntryView) → List (Made EntryView)
made_of [] = []
made_of (front ∷ fronts) = made_of fronts ++ front.made
