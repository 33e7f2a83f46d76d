-- Reading a text line by line.
use Rattle.std.specs.Prelude.{◌≡◌, ◌≢◌, ◌<◌, ◌≤◌, ℕ, List, [], ◌∷◌, ◌++◌, length, All}
use Rattle.std.specs.Prelude.{Option, Some, None, IfSome}
use Rattle.std.specs.Io.BufRead.{drop_through, first_piece}
use Rattle.am_script.specs.declared.limits.TheConstants.{LONGEST_LINE}
use Rattle.am_runner.specs.declared.live.reading.InputLine.{InputLine}
use Rattle.am_runner.specs.declared.live.reading.InputLine.TheVariants.{Read, TooLong, NoMemory}

-- what is read of an input, if its bytes are known: nothing at its end, else the bytes before its first line
-- feed, and what follows that is left
abbrev pub IsNext : Option (List ℕ) → Option (List ℕ) → Option (List ℕ) → Type 0
IsNext old None new = IfSome old (λ text. (text ≡ []) × (new ≡ Some []))
IsNext old (Some bytes) new = IfSome old (λ text. (text ≢ []) × (bytes ≡ first_piece 10 text)
    × (new ≡ Some (drop_through 10 text)))

-- what a line of these bytes is read as: they are kept up to the limit, unless memory for them ran out
abbrev pub IsInputOf : List ℕ → InputLine → Type 0
IsInputOf bytes (Read kept) = (kept.items ≡ bytes) × (length bytes ≤ LONGEST_LINE)
IsInputOf bytes TooLong = LONGEST_LINE < length bytes
IsInputOf bytes NoMemory = 0 < length bytes

-- what is read of an input, as the line that it is read as: nothing at its end
abbrev pub IsNextAs : Option (List ℕ) → Option InputLine → Option (List ℕ) → Type 0
IsNextAs old None new = IsNext old None new
IsNextAs old (Some line) new = (bytes : List ℕ) × All (λ byte. byte ≢ 10) bytes
    × IsInputOf bytes line × IsNext old (Some bytes) new

-- the first lines of a text, without their line feeds, and what follows them
pub data BeginsWith (text : List ℕ) : List (List ℕ) → List ℕ → Type 0 where
  no_lines : BeginsWith text [] text
  one_more : {lines : List (List ℕ)} {rest : List ℕ} → BeginsWith text lines rest → rest ≢ []
      → BeginsWith text (lines ++ first_piece 10 rest ∷ []) (drop_through 10 rest)
