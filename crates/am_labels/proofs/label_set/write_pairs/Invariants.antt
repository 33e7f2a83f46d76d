use Rattle.std.proofs.Common.{◌≡◌, ◌∷◌, ◌++◌, List, ℕ}
use Rattle.std.specs.Fmt.{HasWritten, IsPlainFormatter}
use Rattle.std.specs.List.{flat_map}
use Rattle.am_labels.specs.Printing.{pair_text}
use Rattle.am_labels.proofs.label_set.write_pairs.Given as goal

-- what is written so far, and after it those that are left, each with a comma before it, is all of them
abbrev pub invariant-loop-name : goal.invariant-loop-name
invariant-loop-name g l =
    (goal.iterator-loop-name g).can_next l.name-iterator ×
    (goal.iterator-loop-name g).is_finite l.name-iterator ×
    (IsPlainFormatter l.initial.f → (written : List ℕ)
    × HasWritten g.W.Write.write_str_gives l.initial.f written l.f
    × (written ++ flat_map (λ pair. 44 ∷ pair_text pair) l.name-iterator ≡ flat_map (λ pair. 44 ∷ pair_text pair) l.initial.name-iterator))
