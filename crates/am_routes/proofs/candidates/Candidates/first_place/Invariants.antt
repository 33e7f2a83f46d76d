use Rattle.std.proofs.Common.{take, ◌++◌}
use Rattle.am_routes.specs.inside.ChildIndexes.{filings, is_met, IsFirstFrom}
use Rattle.am_routes.proofs.candidates.Candidates.first_place.Given as goal

-- the first of those that are found without the indexes that are left
abbrev pub invariant-loop-index : goal.invariant-loop-index
invariant-loop-index l = IsFirstFrom (is_met l.self.labels (take 1 l.self-inside.names.now ++ take l.index-index l.index-items)) l.self.from (filings l.self.routes) l.first
