-- Reading a script: all of the input, or a prefix of it that exceeds a limit of scripts.
use Rattle.std.specs.Prelude.{◌≡◌, ◌⊎◌, ◌<◌, ℕ, List, ◌++◌, length, Any, Option, IfSome}
use Rattle.am_script.specs.declared.limits.TheConstants.{LONGEST_LINE, MOST_LINES}
use Rattle.am_script.specs.Script.{lines_of}

-- above the limit of lines, or with a line above the limit of bytes
abbrev pub HasExcess : List ℕ → Type 0
HasExcess text =
    (MOST_LINES < length (lines_of text)) ⊎ Any (λ line. LONGEST_LINE < length line) (lines_of text)

-- what is read of an input, if its bytes are known
abbrev pub IsReadOf : Option (List ℕ) → List ℕ → Type 0
IsReadOf known text = IfSome known (λ bytes. (text ≡ bytes) ⊎ (HasExcess text
    × ((rest : List ℕ) × (bytes ≡ text ++ rest))))
