-- The rows of the table that change one lane or one poster, as what becomes of it. There is nothing
-- if the event isn't possible. For the crate alone: public contracts cite the relation.
use Rattle.std.specs.Prelude.{◌≡◌, ℕ, ◌+◌, ◌-◌, Bool, true, false, cond, ◌&&◌, ◌||◌, not}
use Rattle.std.specs.Prelude.{nat_eq, nat_lt, nat_le}
use Rattle.std.specs.Prelude.{List, [], ◌∷◌, length, Option, Some, None, MatchOption}
use Rattle.am_steps.specs.declared.lane_record.LaneRecord.{LaneRecord}
use Rattle.am_steps.specs.declared.lane.Lane.{Lane}
use Rattle.am_steps.specs.declared.lane.Lane.TheVariants.{Idle, Admitted, Open, Left}
use Rattle.am_steps.specs.declared.poster.Poster.{Poster}
use Rattle.am_steps.specs.States.{new_record, new_cursor}
use Rattle.am_steps.specs.Steps.{MayOwn, one_further, with_own}

-- the lane may be cut: it wasn't, its word is the one last found, and it lags by `places` batches
abbrev pub may_cut : ℕ → ℕ → LaneRecord → ℕ → Bool → Bool
may_cut places length m passed held = not m.cut
    && (nat_eq passed m.known
    && (cond m.key_out held (not held) && nat_eq (m.known + places) length))

-- the writer keeps the lane's key of the place
abbrev pub keeps_key : ℕ → LaneRecord → Bool
keeps_key i m = cond m.cut (m.key_out && nat_eq i m.known) (nat_le m.start i && nat_le m.known i)

module _ {X : Type 0} where
  -- the lane after a Harvest
  abbrev pub after_harvest : Lane X → Option (Lane X)
  after_harvest Idle = None
  after_harvest (Admitted m) = Some (Admitted (record m { known = m.start; key_out = false }))
  after_harvest (Open m r) = Some (Open (record m { known = r.passed; key_out = r.held }) r)
  after_harvest (Left m) = None

  -- the lane after an Admit, in a log of that length
  abbrev pub after_admit : ℕ → Lane X → Option (Lane X)
  after_admit length Idle = Some (Admitted (new_record length))
  after_admit length (Admitted m) = None
  after_admit length (Open m r) = None
  after_admit length (Left m) = None

  -- the lane after an Open
  abbrev pub after_open : Lane X → Option (Lane X)
  after_open Idle = None
  after_open (Admitted m) = Some (Open m (new_cursor m.start))
  after_open (Open m r) = None
  after_open (Left m) = None

  -- the lane after a Look, at a log of that length that is closed or not
  abbrev pub after_look : ℕ → Bool → Lane X → Option (Lane X)
  after_look length closed Idle = None
  after_look length closed (Admitted m) = None
  after_look length closed (Open m r) = Some (Open m (record r { seen = length; told = closed }))
  after_look length closed (Left m) = None

  -- the lane after a Take
  abbrev pub after_take : Lane X → Option (Lane X)
  after_take Idle = None
  after_take (Admitted m) = None
  after_take (Open m r) = cond (not r.held && nat_lt r.passed r.seen)
      (Some (Open m (cond m.cut (record r { told_cut = true }) (record r { held = true }))))
      None
  after_take (Left m) = None

  -- the place of the key in the cursor's hand
  abbrev pub place_in_hand : Lane X → Option ℕ
  place_in_hand Idle = None
  place_in_hand (Admitted m) = None
  place_in_hand (Open m r) = cond r.held (Some r.passed) None
  place_in_hand (Left m) = None

  -- the lane after a Pass of a place with that name
  abbrev pub after_pass : X → Lane X → Option (Lane X)
  after_pass x Idle = None
  after_pass x (Admitted m) = None
  after_pass x (Open m r) = cond r.held
      (Some (Open m (one_further m x r)))
      None
  after_pass x (Left m) = None

  -- the lane after a Cut, in a log of that many places and that length
  abbrev pub after_cut : ℕ → ℕ → Lane X → Option (Lane X)
  after_cut places length Idle = None
  after_cut places length (Admitted m) = cond (may_cut places length m m.start false)
      (Some (Admitted (record m { cut = true })))
      None
  after_cut places length (Open m r) = cond (may_cut places length m r.passed r.held)
      (Some (Open (record m { cut = true }) r))
      None
  after_cut places length (Left m) = None

  -- the lane after a Leave
  abbrev pub after_leave : Lane X → Option (Lane X)
  after_leave Idle = None
  after_leave (Admitted m) = None
  after_leave (Open m r) = Some (Left m)
  after_leave (Left m) = None

  -- the lane after a Retire
  abbrev pub after_retire : Lane X → Option (Lane X)
  after_retire Idle = None
  after_retire (Admitted m) = None
  after_retire (Open m r) = None
  after_retire (Left m) = Some Idle

  -- what became of the lane, and whether it was possible
  abbrev pub Becomes : Option (Lane X) → Lane X → Lane X → Bool → Type 0
  Becomes next old new made =
      MatchOption next ((made ≡ false) × (new ≡ old)) (λ v. (made ≡ true) × (new ≡ v))

  -- the lane's lag doesn't keep the log from growing
  abbrev pub leaves_room : ℕ → ℕ → Lane X → Bool
  leaves_room places length Idle = true
  leaves_room places length (Admitted m) = m.cut || nat_lt (length - m.known) places
  leaves_room places length (Open m r) = m.cut || nat_lt (length - m.known) places
  leaves_room places length (Left m) = m.cut || nat_lt (length - m.known) places

  -- the writer keeps no key of the lane of the place
  abbrev pub keeps_none : ℕ → Lane X → Bool
  keeps_none i Idle = true
  keeps_none i (Admitted m) = not (keeps_key i m)
  keeps_none i (Open m r) = not (keeps_key i m)
  keeps_none i (Left m) = not (keeps_key i m)

  -- true: the post may become the poster's own; it is now, and the poster knows the whole log
  abbrev pub DoesNote : List X → Option (ℕ × X) → Poster X → Poster X → Bool → Type 0
  DoesNote log post old new true = MayOwn log old post
      × (new ≡ record { places_known = length log; own = with_own old.own post })
  DoesNote log post old new false = (MayOwn log old post → ⊥) × (new ≡ old)
