-- Which places lanes need, and which are freed: this project's own.
use Rattle.std.specs.Prelude.{◌≡◌, ℕ, ◌<◌, ◌≤◌, true, length, Some, cond}
use Rattle.am_steps.specs.declared.lane_record.LaneRecord.{LaneRecord}
use Rattle.am_steps.specs.States.{Core, LaneWord, record_of, word_of}

-- an admitted or open lane needs each place from its start on that it has not passed. One that was
-- cut needs the place of the key in its hand alone
abbrev pub NeedsPlace : LaneRecord → LaneWord → ℕ → Type 0
NeedsPlace m w i = cond m.cut
    ((w.held ≡ true) × (i ≡ w.passed))
    ((m.start ≤ i) × (w.passed ≤ i))

-- the writer keeps a lane's keys of the places from its start on that it does not know to be
-- passed. Of a lane that it cut it keeps the key that was in its hand
abbrev pub KeepsKey : LaneRecord → ℕ → Type 0
KeepsKey m i = cond m.cut
    ((m.key_out ≡ true) × (i ≡ m.known))
    ((m.start ≤ i) × (m.known ≤ i))

module _ {X : Type 0} where
  -- some admitted or open lane needs the place
  abbrev pub IsNeeded : Core X → ℕ → Type 0
  IsNeeded c i = (i < length c.log) × ((l : ℕ) × (m : LaneRecord) × (w : LaneWord)
      × (record_of (c.lane l) ≡ Some m) × (word_of (c.lane l) ≡ Some w) × NeedsPlace m w i)

  -- the place is in the log, and the writer keeps no lane's key of it
  abbrev pub IsFreed : Core X → ℕ → Type 0
  IsFreed c i = (i < length c.log)
      × ((l : ℕ) (m : LaneRecord) → record_of (c.lane l) ≡ Some m → KeepsKey m i → ⊥)
