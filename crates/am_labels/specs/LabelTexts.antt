-- Reading a label set from the text that it prints: this project's own.
use Rattle.std.specs.Prelude.{◌≡◌, ℕ, List}
use Rattle.am_labels.specs.LabelSets.{Labels}
use Rattle.am_labels.specs.Printing.{labels_text}

-- the text is printed of this label set, and of no other
abbrev pub IsOnlyTextOf : List ℕ → Labels → Type 0
IsOnlyTextOf text labels =
    (labels_text labels ≡ text) × ((other : Labels) → labels_text other ≡ text → other ≡ labels)

-- the text is printed of no label set
abbrev pub IsTextOfNone : List ℕ → Type 0
IsTextOfNone text = (labels : Labels) → labels_text labels ≡ text → ⊥
