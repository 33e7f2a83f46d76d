-- The parts that lengths of fronts and ends cut from a text.
use Rattle.std.proofs.Common.{◌≡◌, ℕ, ◌-◌, List, ◌++◌, length, take, drop, sym, ap, ◌∙◌, arith}
use Rattle.std.specs.List.{prefix_len, suffix_len}
use Rattle.std.specs.Char.{is_ascii_whitespace}
use Rattle.std.proofs.lemmas.List.{take-append-drop}
use Rattle.am_labels.specs.Letters.{begins}
use Rattle.am_matchers.specs.MatcherTexts.{IsSpaceThen, IsTrimmedTo}
use Rattle.am_labels.proofs.LetterTexts.Stretches.{front_passes, front_ends, cut_end}

pub space_then : (text rest : List ℕ) → rest ≡ drop (prefix_len is_ascii_whitespace text) text → IsSpaceThen text rest
space_then text rest e =
    let n = prefix_len is_ascii_whitespace text in (
      take n text,
      front_passes is_ascii_whitespace text,
      sym (take-append-drop n text) ∙ ap (λ (end : List ℕ). take n text ++ end) (sym e),
      ap (begins is_ascii_whitespace) e ∙ front_ends is_ascii_whitespace text,
    )

pub trimmed_to : (text rest raw : List ℕ) → rest ≡ drop (prefix_len is_ascii_whitespace text) text → raw ≡ take (length rest - suffix_len is_ascii_whitespace rest) rest → IsTrimmedTo text raw
trimmed_to text rest raw e f =
    let start = space_then text rest e in
    let cut = cut_end is_ascii_whitespace rest raw f in
    grind arith
