use denote.Text.{Utf8}
use denote.Shadow.{shadow}
use Rattle.am_parts_tests.proofs.label_sets.come_in_order.Given as goal

-- the last name is text
abbrev pub invariant-loop-name : goal.invariant-loop-name
invariant-loop-name l =
    (goal.iterator-loop-name).can_next l.name-iterator ×
    (goal.iterator-loop-name).is_finite l.name-iterator ×
    shadow (Utf8 l.last)
