-- How a label set keeps its pairs. Only code of this crate cites it.
use Rattle.std.specs.Prelude.{ℕ, List, [], Option, Some, None}
use Rattle.std.specs.Arc.{arc_value}
use Rattle.std.specs.declared.sync.Arc.{Arc}
use Rattle.std.specs.declared.alloc.Global.{Global}

-- the pairs that are shared, if any
abbrev pub pairs_shared : Option (Arc (List (List ℕ × List ℕ)) Global) → List (List ℕ × List ℕ)
pairs_shared None = []
pairs_shared (Some shared) = arc_value shared
