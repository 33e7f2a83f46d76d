-- The sources at the beginning of a list that match both sides of a rule. A target that matches both sides is
-- muted by none of them. Only code of this crate cites it.
use Rattle.std.specs.Prelude.{ℕ, List}
use Rattle.std.specs.List.{prefix_len}
use Rattle.am_inhibit.specs.declared.source.Source.{Source}

-- how many sources there are before the first one that doesn't match the target side
abbrev pub leading_targets : List Source → ℕ
leading_targets sources = prefix_len (λ source. source.is_target) sources
