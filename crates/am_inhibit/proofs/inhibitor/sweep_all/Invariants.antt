use Rattle.std.proofs.Common.{◌≡◌, ◌++◌, map, take, drop}
use Rattle.am_inhibit.specs.inside.Places.{index_swept}
use Rattle.am_inhibit.proofs.inhibitor.sweep_all.Given as goal

abbrev pub invariant-loop-index : goal.invariant-loop-index
invariant-loop-index l = l.indexes ≡ map (index_swept l.places) (take l.index l.fn.indexes) ++ drop l.index l.fn.indexes
