-- What sending a batch out does to the log and to the poster's pass, or why it isn't sent.
use Rattle.std.specs.Prelude.{◌≡◌, ℕ, ◌<◌, ◌≤◌, Bool, true, false, List, [], ◌∷◌, ◌++◌, length, ⊤}
use Rattle.std.specs.Prelude.{slice_index_or}
use Rattle.am_alert.specs.declared.alert.Alert.{Alert}
use Rattle.am_store.specs.declared.call.Call.{Call}
use Rattle.am_cast.specs.declared.faults.PublishFault.{PublishFault}
use Rattle.am_cast.specs.declared.faults.PublishFault.TheVariants as publish
use Rattle.am_cast.specs.declared.limits.TheConstants.{LONGEST_LOG}
use Rattle.am_cast.specs.Keys.{batch_items}
use Rattle.am_cast.specs.Changes.{longer_tail, own_at}
use Rattle.am_cast.specs.Seats.{account_of}
use Rattle.am_cast.specs.Posters.{KnowsOwn, PassView}
use Rattle.am_cast.specs.Writers.{HasRoom, StaysAs, SameAdmission, IsCutAs}
use Rattle.am_cast.specs.Refusals.{IsOpen, IsRefusal}
use Rattle.am_provider.specs.declared.answers.Policy.{Policy}
use Rattle.am_provider.specs.declared.answers.Policy.TheVariants.{Refuse}
use Rattle.am_store.specs.declared.faults.PutFault.{PutFault}
use Rattle.am_store.specs.declared.faults.PutFault.TheVariants as put_fault
use Rattle.am_provider.specs.Batches.{Batch, LogView}

-- the batch is the log's next place, which the pass owns and knows
pub record IsSent (policy : Policy) (old new : LogView) (was is : PassView Alert Call) (call : Call)
    (items : List Alert) (place : ℕ) (cut : List Bool) : Type 0 where
  pub next : place ≡ length old.tail.log
  pub still_open : IsOpen old
  pub batch : (x : Batch) × (x.post ≡ call) × (batch_items x ≡ items)
      × (new.tail ≡ longer_tail x old.tail) × (is.own ≡ was.own ++ own_at place x ∷ [])
  pub known : KnowsOwn was is
  pub lanes : (lane : ℕ) → lane < 8 → SameAdmission (account_of old lane) (account_of new lane)
  pub cuts : (lane : ℕ) → lane < 8 → IsCutAs (length old.tail.log) old.tail.places
      (account_of old lane) (account_of new lane) (slice_index_or cut lane false)
  pub kept : policy ≡ Refuse → (lane : ℕ) → slice_index_or cut lane false ≡ false

-- why the log takes no batch: the first cause in this order. A full lane is the lowest such, as it was
-- found in this call
abbrev pub IsLogCause : Policy → LogView → LogView → PutFault → Type 0
IsLogCause policy old new put_fault.Closed = old.tail.closed ≡ true
IsLogCause policy old new put_fault.LogEnd =
    (old.tail.closed ≡ false) × (LONGEST_LOG ≤ length old.tail.log)
IsLogCause policy old new (put_fault.Full lane passed) =
    (policy ≡ Refuse) × IsRefusal old new (publish.Full lane passed)
IsLogCause policy old new put_fault.NoMemory = IsOpen old × (policy ≡ Refuse → HasRoom new 8)

-- the log is as before, except for what its lanes were found to have passed
pub record IsUnsent (policy : Policy) (old new : LogView) (fault : PutFault) : Type 0 where
  pub tail : new.tail ≡ old.tail
  pub lanes : (lane : ℕ) → lane < 8 → StaysAs (account_of old lane) (account_of new lane)
  pub why : IsLogCause policy old new fault

-- the log's refusal in the provider's words
abbrev pub fault_as_put : PublishFault → PutFault
fault_as_put publish.NoMemory = put_fault.NoMemory
fault_as_put publish.Closed = put_fault.Closed
fault_as_put publish.LogEnd = put_fault.LogEnd
fault_as_put (publish.Full lane passed) = put_fault.Full lane passed

-- it names one of the eight lanes, where it names one
abbrev pub NamesALane : PublishFault → Type 0
NamesALane (publish.Full lane passed) = lane < 8
NamesALane fault = ⊤
