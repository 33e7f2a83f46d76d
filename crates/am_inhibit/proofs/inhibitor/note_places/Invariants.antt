use Rattle.std.proofs.Common.{◌≡◌, ◌≤◌, take, length, vec_capacity}
use Rattle.am_alert.specs.Merging.{unresolved}
use Rattle.am_inhibit.specs.inside.Places.{new_places}
use Rattle.am_inhibit.proofs.inhibitor.note_places.Given as goal

-- the alerts so far have their places, and the next unresolved one comes after those
abbrev pub invariant-loop-alert : goal.invariant-loop-alert
invariant-loop-alert l = record {
  places : l.places.items ≡ new_places 0 l.now (take l.alert-index l.alerts);
  place : l.place ≡ length (unresolved l.now (take l.alert-index l.alerts));
  within : l.place ≤ l.alert-index;
  count : length l.places.items ≡ l.alert-index;
  room : vec_capacity l.places ≡ vec_capacity l.fn.places;
}
