-- What a refusal says of the log. `Full` and `Closed` are `TrySendError`'s `Full` and `Disconnected` of
-- crossbeam's channel; tokio's `broadcast::Sender::send` has no `Full`, since it overwrites.
use Rattle.std.specs.Prelude.{◌≡◌, ◌≢◌, ℕ, ◌<◌, ◌≤◌, length, true, false}
use Rattle.am_cast.specs.declared.limits.TheConstants.{LANES, LONGEST_LOG}
use Rattle.am_cast.specs.declared.views.WriterView.{WriterView}
use Rattle.am_cast.specs.declared.faults.PublishFault.{PublishFault}
use Rattle.am_cast.specs.declared.faults.PublishFault.TheVariants.{NoMemory, Closed, Full, LogEnd}
use Rattle.am_cast.specs.declared.faults.AdmitFault.{AdmitFault}
use Rattle.am_cast.specs.declared.faults.AdmitFault.TheVariants as admit
use Rattle.am_cast.specs.Rule.{idle}
use Rattle.am_cast.specs.Seats.{account_of}
use Rattle.am_cast.specs.Writers.{HasRoom, IsBehind}

module _ {B K A : Type 0} where
  -- the log may grow
  abbrev pub IsOpen : WriterView B K A → Type 0
  IsOpen q = (q.tail.closed ≡ false) × (length q.tail.log < LONGEST_LOG)

  -- why nothing was published: the first cause in this order. `q` is what the writer knew before,
  -- and `q'` what it found
  abbrev pub IsRefusal : WriterView B K A → WriterView B K A → PublishFault → Type 0
  IsRefusal q q' Closed = q.tail.closed ≡ true
  IsRefusal q q' LogEnd = (q.tail.closed ≡ false) × (LONGEST_LOG ≤ length q.tail.log)
  -- the lowest lane that lags by `places` batches
  IsRefusal q q' (Full lane passed) = IsOpen q × (lane < LANES) × (passed ≡ (account_of q' lane).known)
      × IsBehind q' lane × HasRoom q' lane
  IsRefusal q q' NoMemory = IsOpen q × HasRoom q' LANES

  -- the same of a publish that cuts slow lanes: no lane is full for it
  abbrev pub IsCutRefusal : WriterView B K A → PublishFault → Type 0
  IsCutRefusal q Closed = q.tail.closed ≡ true
  IsCutRefusal q LogEnd = (q.tail.closed ≡ false) × (LONGEST_LOG ≤ length q.tail.log)
  IsCutRefusal q (Full lane passed) = ⊥
  IsCutRefusal q NoMemory = IsOpen q

  -- why no lane was given out: the first cause in this order
  abbrev pub IsAdmitRefusal : WriterView B K A → AdmitFault → Type 0
  IsAdmitRefusal q admit.Closed = q.tail.closed ≡ true
  IsAdmitRefusal q admit.NoLane = (q.tail.closed ≡ false)
      × ((m : ℕ) → m < LANES → (account_of q m).stand ≢ idle)
