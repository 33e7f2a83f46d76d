-- A `State`'s fields as contracts see them, and what always holds of them. For the crate alone.
use Rattle.std.specs.Prelude.{ℕ}
use Rattle.am_steps.specs.declared.state.State.TheInside.{Inside}
use Rattle.am_steps.specs.States.{StateView, core_of}
use Rattle.am_steps.specs.Soundness.{IsSound}

-- the fields, each list as its items
abbrev pub fields_view : Inside → StateView ℕ
fields_view s = record {
  places = s.places;
  log = s.log.items;
  closed = s.closed;
  lanes = s.lanes.items;
  posters = s.posters.items;
}

-- a `State` is in a sound state
abbrev pub IsSoundState : Inside → Type 0
IsSoundState s = IsSound (core_of (fields_view s))
