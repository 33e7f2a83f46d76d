use Rattle.std.proofs.Common.{◌∷◌, cond, string_bytes}
use Rattle.std.specs.Str.Iter.{chars_rest}
use Rattle.am_labels.proofs.LetterTexts.Spelling.{IsReadTo}
use Rattle.am_labels.proofs.letters.read_letters.Given as goal

abbrev pub invariant-loop-c : goal.invariant-loop-c
invariant-loop-c l =
    (goal.iterator-loop-c).can_next l.chars × (goal.iterator-loop-c).is_finite l.chars
    × IsReadTo l.text (cond l.is_escaped (92 ∷ chars_rest l.chars) (chars_rest l.chars)) (string_bytes l.value)
