-- Which places are freed, as the writer knows it: am_steps' words over what the writer knows of each lane.
use Rattle.std.specs.Prelude.{◌≡◌, ◌≢◌, ℕ, zero, suc, ◌<◌, ◌≤◌, ◌⊎◌, true, length, Option, Some, None}
use Rattle.std.specs.Prelude.{List, count_by, nat_eq}
use Rattle.std.specs.List.{All}
use mathlib.Core.Option.{some}
use lib.ListN.{get_elem?}
use Rattle.am_segment.specs.Segments.{KeyView}
use Rattle.am_steps.specs.declared.lane_record.LaneRecord.{LaneRecord}
use Rattle.am_steps.specs.Needed.{KeepsKey}
use Rattle.am_cast.specs.declared.limits.TheConstants.{LANES}
use Rattle.am_cast.specs.declared.batch_view.BatchView.{BatchView}
use Rattle.am_cast.specs.declared.views.Account.{Account}
use Rattle.am_cast.specs.declared.views.WriterView.{WriterView}
use Rattle.am_cast.specs.Rule.{live, cut}
use Rattle.am_cast.specs.Core.{record_behind}
use Rattle.am_cast.specs.Seats.{account_of}
use Rattle.am_cast.specs.Keys.{key_of}

-- the record, if the standing of that number has one: live or cut
abbrev pub only_used : ℕ → LaneRecord → Option LaneRecord
only_used (suc zero) m = Some m
only_used (suc (suc zero)) m = Some m
only_used _ m = None

module _ {K A : Type 0} where
  -- the core's record of the lane, unless it is idle or was found vacated
  abbrev pub record_kept : Account K A → Option LaneRecord
  record_kept b = only_used b.stand (record_behind b)

  -- the lane's key of the place is in one of its slots, or in its cursor's hand
  abbrev pub IsOut : Account K A → ℕ → Type 0
  IsOut b i = ((b.cleared ≤ i) × (i < b.stop)) ⊎ ((b.away ≡ true) × (i ≡ b.known))

  -- the writer has taken out all keys of the lane that it may
  pub record IsGathered (b : Account K A) : Type 0 where
    pub low : b.start ≤ b.known
    pub live_is : b.stand ≡ live → b.cleared ≡ b.known
    pub rest_is : b.stand ≢ live → b.cleared ≡ b.stop
    pub away_is : b.away ≡ true → b.stand ≡ cut

-- the place is in the log, and the writer keeps no lane's key of it
abbrev pub IsFreedFor : {B K A : Type 0} → WriterView B K A → ℕ → Type 0
IsFreedFor q i = (i < length q.tail.log)
    × ((l : ℕ) (m : LaneRecord) → l < LANES → record_kept (account_of q l) ≡ Some m → KeepsKey m i → ⊥)

module _ {T P A : Type 0} where
  -- the keys of a place that came home, and wait for those that are out: a place that is freed has none
  pub record AreHome (q : WriterView (BatchView T P) (KeyView T) A) (i : ℕ) (keys : List (KeyView T))
      : Type 0 where
    pub batch : BatchView T P
    pub there : get_elem? q.tail.log i ≡ some batch
    -- each is a lane's key of the place's batch
    pub each : All (λ key. key ≡ key_of batch key.number) keys
    -- each lane's is among them once, or else it is out
    pub home : (l : ℕ) → l < LANES → (IsOut (account_of q l) i → ⊥)
        → count_by (λ key. nat_eq key.number l) keys ≡ 1
    pub out : (l : ℕ) → l < LANES → IsOut (account_of q l) i
        → count_by (λ key. nat_eq key.number l) keys ≡ 0
    pub waits : IsFreedFor q i → ⊥

  -- what the writer keeps of a place: the keys that came home, or none where the place is freed or not there
  abbrev pub Keeps : WriterView (BatchView T P) (KeyView T) A → ℕ → Option (List (KeyView T)) → Type 0
  Keeps q i None = i < length q.tail.log → IsFreedFor q i
  Keeps q i (Some keys) = AreHome q i keys
