-- What an input's buffer gives of a line.
use Rattle.std.specs.Prelude.{◌≡◌, ◌≢◌, ℕ, List, [], ◌∷◌, ◌++◌, All, Option, OnSome, codes}
use Rattle.std.specs.Io.KnownBytes.{Consumes, IsAtEnd}
use Rattle.am_runner.specs.live.Reading.{IsInputOf}
use Rattle.am_runner.specs.declared.live.reading.InputLine.{InputLine}
use Rattle.am_runner.specs.declared.live.reading.Met.{Met}
use Rattle.am_runner.specs.declared.live.reading.Met.TheVariants.{LineFeed, End, Neither}

-- what is read after a line's bytes, if that was met
abbrev pub feed_of : Met → List ℕ
feed_of LineFeed = codes "\n"
feed_of End = []
feed_of Neither = []

-- what a line is read as, if these bytes come after those that it has
abbrev pub GoesOn : InputLine → List ℕ → InputLine → Type 0
GoesOn old more new = (bytes : List ℕ) → IsInputOf bytes old → IsInputOf (bytes ++ more) new

-- what a buffer gave of a line: bytes that are no line feed, which were consumed with what was met after them
pub record Gives (line : InputLine) (old new : Option (List ℕ)) (taken : InputLine × Met) : Type 0 where
  pub more : List ℕ
  pub plain : All (λ byte. byte ≢ 10) more
  pub goes_on : GoesOn line more taken.0
  pub read : Consumes old new (more ++ feed_of taken.1)
  pub end : taken.1 ≡ End → OnSome old (IsAtEnd new)
