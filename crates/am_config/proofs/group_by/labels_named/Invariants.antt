use Rattle.std.proofs.Common.{◌≡◌, ◌++◌, List, ℕ, filter}
use Rattle.std.specs.List.{list_any}
use Rattle.am_labels.specs.Texts.{same_text}
use Rattle.am_config.proofs.group_by.labels_named.Given as goal

-- the labels so far whose names are among them, and after them those that are left
abbrev pub invariant-loop-name : goal.invariant-loop-name
invariant-loop-name l =
    (goal.iterator-loop-name).can_next l.name-iterator ×
    (goal.iterator-loop-name).is_finite l.name-iterator ×
    (filter (λ (pair : List ℕ × List ℕ). list_any (same_text pair.0) l.names) l.initial.name-iterator
    ≡ l.named ++ filter (λ (pair : List ℕ × List ℕ). list_any (same_text pair.0) l.names) l.name-iterator)
