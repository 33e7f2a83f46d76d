use Rattle.std.proofs.Common.{◌≡◌, ◌++◌, drop}
use Rattle.am_answers.specs.Known.{all_noted, places_taken}
use Rattle.am_answers.proofs.known.note_all.Given as goal

-- the places of those so far, and then of those that are left
abbrev pub invariant-loop-at : goal.invariant-loop-at
invariant-loop-at l =
    (l.places.items ++ places_taken l.known.entries (drop l.at l.fn.alerts) ≡ places_taken l.fn.known.entries l.fn.alerts)
    × (all_noted l.known.entries (drop l.at l.fn.alerts) ≡ all_noted l.fn.known.entries l.fn.alerts)
