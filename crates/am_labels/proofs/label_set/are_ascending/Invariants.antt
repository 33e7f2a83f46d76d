use Rattle.std.proofs.Common.{◌≡◌, ◌&&◌}
use denote.Text.{Utf8}
use denote.Shadow.{shadow}
use Rattle.std.specs.FinMap.Entries.{is_sorted, below_all}
use Rattle.am_labels.specs.Texts.{text_cmp}
use Rattle.am_labels.proofs.label_set.are_ascending.Given as goal

-- the names are in order if those from the last one on are
abbrev pub invariant-loop-name : goal.invariant-loop-name
invariant-loop-name l =
    (goal.iterator-loop-name).can_next l.name-iterator ×
    (goal.iterator-loop-name).is_finite l.name-iterator ×
    shadow (Utf8 l.last) ×
    (is_sorted text_cmp l.fn.pairs ≡ (below_all text_cmp l.last l.name-iterator && is_sorted text_cmp l.name-iterator))
