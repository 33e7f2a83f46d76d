use Rattle.am_segment.specs.inside.Shares.{name_of}
use Rattle.am_segment.proofs.Shares.{Come}
use Rattle.am_segment.proofs.joined_keys.reunite.Given as goal

abbrev pub invariant-loop-key : goal.invariant-loop-key
invariant-loop-key g l = let part = l.all.part in Come (name_of part) part.keys part.numbers l.keys.items

abbrev pub decreases-loop-key : goal.decreases-loop-key
decreases-loop-key g l = goal.left-loop-key g l
