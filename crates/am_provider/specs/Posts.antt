-- What a post does to its pass, to the lanes and to the log, and why it is refused.
use Rattle.std.specs.Prelude.{◌≡◌, ℕ, ◌<◌, Bool, true, false, List, [], ◌∷◌, ◌++◌, Option, None, Some, length}
use Rattle.std.specs.Prelude.{slice_index_or, if◌then◌else◌, nat_eq, ◌⊎◌, ◌↔◌, IsTrue}
use Rattle.std.specs.Prelude.{Result, IfOk, IfErr, OnOk, OnErr, IsErrOf}
use mathlib.Core.Option.{some}
use mathlib.Core.List.{IsPrefix}
use lib.ListN.{get_elem?}
use Rattle.am_alert.specs.declared.alert.Alert.{Alert}
use Rattle.am_store.specs.declared.call.Call.{Call}
use Rattle.am_store.specs.declared.call.Call.TheVariants.{Posted}
use Rattle.am_store.specs.LaneSets.{has_lane}
use Rattle.am_alert.specs.declared.post.Post.{Post}
use Rattle.am_store.specs.Journal.{call_count, is_closed, with_call}
use Rattle.am_store.specs.Judging.{Filter, AreJudged, WasAsked}
use Rattle.am_cast.specs.declared.views.Own.{Own}
use Rattle.am_cast.specs.Rule.{live}
use Rattle.am_cast.specs.Changes.{AreInLog, own_at}
use Rattle.am_cast.specs.Seats.{account_of}
use Rattle.am_cast.specs.Posters.{KnowsOwn, PassView}
use Rattle.am_cast.specs.Writers.{StaysAs, SameAdmission, IsCutAs}
use Rattle.am_provider.specs.declared.answers.Policy.TheVariants.{Refuse}
use Rattle.am_provider.specs.declared.answers.Posted as answers
use Rattle.am_provider.specs.declared.answers.PostedIf.{PostedIf}
use Rattle.am_store.specs.declared.faults.PutFault.{PutFault}
use Rattle.am_store.specs.declared.faults.PutFault.TheVariants as put_fault
use Rattle.am_provider.specs.Batches.{Batch, LogView}
use Rattle.am_provider.specs.BookView.{BookView, batches}
use Rattle.am_provider.specs.Sending.{IsLogCause}

-- a post with a place is one own post more of its pass, at that place and with what was posted when;
-- one without leaves the pass as it was
abbrev pub AddsOwn : PassView Alert Call → ℕ → List Alert → Option ℕ → PassView Alert Call → Type 0
AddsOwn was now posted None is = is ≡ was
AddsOwn was now posted (Some place) is =
    ((x : Batch) × (x.post ≡ Posted now posted) × (is.own ≡ was.own ++ own_at place x ∷ []))
    × KnowsOwn was is

-- a pass met a subscription that has seen the batches `seen`. Each of the pass's own posts that was seen is
-- at its place there. The pass has the same own posts as before, and knows all that was seen
pub record HasMet (seen : List Batch) (was is : PassView Alert Call) : Type 0 where
  pub own : is.own ≡ was.own
  pub stand : (k : ℕ) (o : Own Batch) → get_elem? was.own k ≡ some o → o.place < length seen
      → get_elem? seen o.place ≡ some o.batch
  pub noted : IsPrefix was.noted is.noted × IsPrefix seen is.noted × AreInLog was.own is.noted

-- which lanes a post cut: only such as lagged by as many batches as the log has places, and none if the
-- policy is to refuse
pub record IsCutBy (old new : BookView) (bits : ℕ) : Type 0 where
  pub lanes : (lane : ℕ) → lane < 8 → SameAdmission (account_of old.log lane) (account_of new.log lane)
  pub cuts : (lane : ℕ) → lane < 8 → IsCutAs (length (batches old)) old.log.tail.places
      (account_of old.log lane) (account_of new.log lane) (has_lane bits lane)
  pub none : old.policy ≡ Refuse → bits ≡ 0

-- the same of a flag for each lane
pub record IsCutTo (old new : BookView) (flags : List Bool) : Type 0 where
  pub lanes : (lane : ℕ) → lane < 8 → SameAdmission (account_of old.log lane) (account_of new.log lane)
  pub cuts : (lane : ℕ) → lane < 8 → IsCutAs (length (batches old)) old.log.tail.places
      (account_of old.log lane) (account_of new.log lane) (slice_index_or flags lane false)
  pub none : old.policy ≡ Refuse → (lane : ℕ) → slice_index_or flags lane false ≡ false

-- a post of these valid alerts was accepted: its entry, its place, its pass and the lanes that it cut
pub record Puts (old new : BookView) (was is : PassView Alert Call) (now : ℕ) (post : Post)
    (posted : answers.Posted) : Type 0 where
  pub journal : new.journal ≡ with_call old.journal (Posted now post.valid)
  pub valid : posted.valid ≡ length post.valid
  pub faults : posted.faults ≡ post.faults
  pub place : posted.place ≡ (if nat_eq (length post.valid) 0 then None else Some (length (batches old)))
  pub own : AddsOwn was now post.valid posted.place is
  pub cut : IsCutBy old new posted.cut

-- a post of those alerts that a filter accepted, each judged as it would be stored
abbrev pub PutsIf : {F : Type 0} → Filter F → F → F → BookView → BookView → PassView Alert Call
    → PassView Alert Call → ℕ → Post → PostedIf → Type 0
PutsIf filter accepts last old new was is now post done =
    (kept : Post)
    × AreJudged filter now last accepts 0 old.stored post.valid kept.valid done.refused.items
    × (kept.faults ≡ post.faults) × Puts old new was is now kept done.posted

-- each live lane's word was loaded
abbrev pub Loads : LogView → LogView → Type 0
Loads old new = (lane : ℕ) → lane < 8 → (account_of old lane).stand ≡ live
    → (account_of old lane).loads < (account_of new lane).loads

-- the policy and the number of places are those that the Book began with
abbrev pub HasSameLimits : BookView → BookView → Type 0
HasSameLimits old new = (new.policy ≡ old.policy) × (new.log.tail.places ≡ old.log.tail.places)

-- the endings, what memory has of the calls, and the limits are as before
pub record KeepsRest (old new : BookView) : Type 0 where
  pub endings : (new.endings ≡ old.endings) × (new.early ≡ old.early)
  pub gone : new.gone ≡ old.gone
  pub limits : HasSameLimits old new

-- the stored alerts, the journal, the batches and the endings are as before, and no lane was given out,
-- left or cut
pub record IsAsBefore (old new : BookView) : Type 0 where
  pub stored : new.stored ≡ old.stored
  pub journal : new.journal ≡ old.journal
  pub tail : new.log.tail ≡ old.log.tail
  pub lanes : (lane : ℕ) → lane < 8 → StaysAs (account_of old.log lane) (account_of new.log lane)
  pub endings : (new.endings ≡ old.endings) × (new.early ≡ old.early)
  pub policy : new.policy ≡ old.policy

-- why a post of `count` valid alerts is refused: the first cause in this order. One without an alert needs no
-- place
abbrev pub IsPutCause : BookView → BookView → ℕ → PutFault → Type 0
IsPutCause old new count put_fault.Closed = is_closed old.journal ≡ true
IsPutCause old new count put_fault.NoMemory =
    (is_closed old.journal ≡ false)
    × (0 < count → IsLogCause old.policy old.log new.log put_fault.NoMemory)
IsPutCause old new count fault =
    (is_closed old.journal ≡ false) × (0 < count) × IsLogCause old.policy old.log new.log fault

-- a post of these valid alerts was accepted, or refused for the first cause that there was, and then changed
-- nothing. Either way each lane was looked at, unless there was no alert or the log was closed
pub record PutsOrRefuses (old new : BookView) (was is : PassView Alert Call) (now : ℕ) (post : Post)
    (result : Result answers.Posted PutFault) : Type 0 where
  pub posted : IfOk result (Puts old new was is now post)
  pub last : OnOk result (new.gone < call_count new.journal)
  pub log : IsPrefix (batches old) (batches new)
  pub loads : 0 < length post.valid → is_closed old.journal ≡ false → Loads old.log new.log
  pub rest : KeepsRest old new
  pub closed : IsErrOf result put_fault.Closed ↔ IsTrue (is_closed old.journal)
  pub refused : IfErr result (IsPutCause old new (length post.valid))
  pub err : OnErr result (IsAsBefore old new × (is ≡ was))

-- a filter was asked of some of the first alerts, in order, over what was stored, and of none if the log was
-- closed
abbrev pub WasAskedBefore : {F : Type 0} → Filter F → F → F → ℕ → List Alert → List Alert → PutFault → Type 0
WasAskedBefore filter accepts last now stored alerts fault =
    WasAsked filter now last accepts stored alerts × (fault ≡ put_fault.Closed → last ≡ accepts)

-- why a post of those alerts that a filter accepts is refused: before the filter was asked of all, or as a
-- post of those that it accepted
abbrev pub IsPutIfCause : {F : Type 0} → Filter F → F → F → BookView → BookView → ℕ → Post → PutFault → Type 0
IsPutIfCause filter accepts last old new now post fault =
    (IsPutCause old new 0 fault × WasAskedBefore filter accepts last now old.stored post.valid fault)
    ⊎ ((kept : List Alert) × (refused : List ℕ)
    × AreJudged filter now last accepts 0 old.stored post.valid kept refused
    × IsPutCause old new (length kept) fault)
