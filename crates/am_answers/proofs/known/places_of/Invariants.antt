use Rattle.std.proofs.Common.{take}
use Rattle.std.specs.List.{AllZip}
use Rattle.am_answers.specs.Known.{IsShownAt}
use Rattle.am_answers.proofs.known.places_of.Given as goal

-- the places of those so far
abbrev pub invariant-loop-at : goal.invariant-loop-at
invariant-loop-at l = AllZip (IsShownAt l.fn.known.entries) (take l.at l.fn.given) l.places.items
