use Rattle.std.proofs.Common.{◌≡◌, ◌≤◌, ◌-◌, ℕ, List, length, Less, Greater}
use Rattle.std.specs.List.{AllWithin}
use Rattle.am_labels.specs.Texts.{text_cmp}
use Rattle.am_labels.proofs.label_set.find_among_many.Given as goal

-- the names before these are lower, and those from there on are greater
abbrev pub invariant-halves : goal.invariant-halves
invariant-halves l =
    (l.low ≤ l.high)
    × (l.high ≤ length l.fn.pairs)
    × AllWithin (λ (pair : List ℕ × List ℕ). text_cmp pair.0 l.name ≡ Less) l.fn.pairs 0 l.low
    × AllWithin (λ (pair : List ℕ × List ℕ). text_cmp pair.0 l.name ≡ Greater) l.fn.pairs l.high (length l.fn.pairs)

abbrev pub decreases-halves : goal.decreases-halves
decreases-halves l = l.high - l.low
