use Rattle.std.proofs.Common.{◌≡◌, drop}
use Rattle.am_routes.specs.inside.ChildIndexes.{has_name}
use Rattle.am_routes.proofs.child_index.is_of.Given as goal

-- the answer among the indexes that are left is the answer
abbrev pub invariant-loop-index : goal.invariant-loop-index
invariant-loop-index l = has_name l.name (drop l.index-index l.indexes) ≡ has_name l.name l.indexes
