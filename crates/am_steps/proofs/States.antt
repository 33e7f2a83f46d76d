-- Which kind a lane is, and the states at first.
use Rattle.std.proofs.Common.{◌≡◌, ℕ, false, List, [], length, get_or, replicate, Option, Some, None, sym, ap, ◌∙◌}
use Rattle.std.proofs.lemmas.List.{length-replicate}
use Rattle.std.proofs.lemmas.Option.{same_Some}
use Rattle.am_steps.specs.declared.lane_record.LaneRecord.{LaneRecord}
use Rattle.am_steps.specs.declared.cursor.Cursor.{Cursor}
use Rattle.am_steps.specs.declared.lane.Lane.{Lane}
use Rattle.am_steps.specs.declared.lane.Lane.TheVariants.{Idle, Admitted, Open, Left}
use Rattle.am_steps.specs.declared.poster.Poster.{Poster}
use Rattle.am_steps.specs.States.{core_of, unaware_poster, new_open_lane, first_state_open}
use Rattle.am_steps.proofs.Common.{get_or_replicate_same, get_or_replicate}

module _ {X : Type 0} where
  -- which kind of lane it is
  abbrev pub admitted_record : Lane X → Option LaneRecord
  admitted_record Idle = None
  admitted_record (Admitted m) = Some m
  admitted_record (Open m r) = None
  admitted_record (Left m) = None

  abbrev pub open_parts : Lane X → Option (LaneRecord × Cursor X)
  open_parts Idle = None
  open_parts (Admitted m) = None
  open_parts (Open m r) = Some (m, r)
  open_parts (Left m) = None

  abbrev pub left_record : Lane X → Option LaneRecord
  left_record Idle = None
  left_record (Admitted m) = None
  left_record (Open m r) = None
  left_record (Left m) = Some m

  -- an open lane is open in one way
  pub same_parts : (v : Lane X) (m n : LaneRecord) (r q : Cursor X) → v ≡ Open m r → v ≡ Open n q → ◌≡◌ {A = LaneRecord × Cursor X} (m, r) (n, q)
  same_parts v m n r q e g = same_Some (m, r) (n, q) (ap open_parts (sym e ∙ g))

pub made_open : {X : Type 0} (places n m : ℕ) (log : List X) (lanes : List (Lane X)) (posters : List (Poster X)) → log ≡ [] → lanes ≡ replicate n new_open_lane → posters ≡ replicate m unaware_poster
    → core_of (record { places = places; log = log; closed = false; lanes = lanes; posters = posters }) ≡ first_state_open places n m
made_open places n m log lanes posters empty e f = λ i. record {
  places = places;
  log = empty i;
  closed = false;
  lanes = (ap length e ∙ length-replicate n new_open_lane) i;
  lane = λ l. (ap (λ ls. get_or ls l Idle) e ∙ get_or_replicate n l new_open_lane Idle) i;
  posters = (ap length f ∙ length-replicate m unaware_poster) i;
  poster = λ p. (ap (λ ps. get_or ps p unaware_poster) f ∙ get_or_replicate_same m p unaware_poster) i;
}
