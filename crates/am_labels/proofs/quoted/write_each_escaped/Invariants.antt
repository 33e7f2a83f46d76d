use Rattle.std.proofs.Common.{◌≡◌, ◌++◌, List, ℕ}
use Rattle.std.specs.Fmt.{HasWritten, IsPlainFormatter}
use Rattle.std.specs.Str.Iter.{chars_rest}
use Rattle.am_labels.specs.Printing.{escaped_all}
use Rattle.am_labels.proofs.quoted.write_each_escaped.Given as goal

-- what was written, and what is left to write, are the whole escaped
abbrev pub invariant-loop-c : goal.invariant-loop-c
invariant-loop-c g l =
    IsPlainFormatter l.initial.f
    → (written : List ℕ) × HasWritten g.W.Write.write_str_gives l.initial.f written l.f × (written ++ escaped_all (chars_rest l.c-iterator) ≡ escaped_all l.text)
