-- How a text that is shared is kept. Only code of this crate cites it.
use Rattle.std.specs.Prelude.{ℕ, List, [], Option, Some, None}
use Rattle.std.specs.Arc.{arc_value}
use Rattle.std.specs.declared.sync.Arc.{Arc}
use Rattle.std.specs.declared.alloc.Global.{Global}

-- the text that is shared, if any
abbrev pub text_in : Option (Arc (List ℕ) Global) → List ℕ
text_in None = []
text_in (Some shared) = arc_value shared
