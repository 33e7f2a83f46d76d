-- What a writer holds after a write of a text that may have failed on the way.
use Rattle.std.specs.Prelude.{◌≡◌, ◌≢◌, ℕ, List, [], ◌++◌, Option, Result, MatchResult}
use Rattle.std.specs.Io.KnownBytes.{Appends}

-- the known bytes grew by a beginning of the text, and not by all of it
pub record AppendsBeginning (old new : Option (List ℕ)) (text : List ℕ) : Type 0 where
  pub written : List ℕ
  pub rest : List ℕ
  pub whole : written ++ rest ≡ text
  pub some : rest ≢ []
  pub appended : Appends old new written

-- the known bytes grew by the whole text, or if the write failed by a beginning that isn't all of it
abbrev pub WritesText : {T E : Type 0} → Option (List ℕ) → Option (List ℕ) → Result T E
    → List ℕ → Type 0
WritesText old new result text =
    MatchResult result (λ _. Appends old new text) (λ _. AppendsBeginning old new text)
