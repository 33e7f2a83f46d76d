-- What a text means in which a backslash escapes, and the name that a text begins with: parts of the texts of
-- label sets and of matchers (Alertmanager's pkg/labels/parse.go).
use Rattle.std.specs.Prelude.{◌≡◌, ℕ, Bool, true, false, ◌||◌, ◌&&◌, ◌==◌, if◌then◌else◌}
use Rattle.std.specs.Prelude.{List, [], ◌∷◌, ◌++◌, map, encode_utf8}
use Rattle.std.specs.List.{flat_map, list_any}
use Rattle.am_labels.specs.Printing.{is_name_byte, is_classic_name}

-- whether there is a first byte and it passes
abbrev pub begins : (ℕ → Bool) → List ℕ → Bool
begins test [] = false
begins test (byte ∷ rest) = test byte

-- the text is a name of the classic form and then the rest, which doesn't continue the name
abbrev pub IsNameThen : List ℕ → List ℕ → List ℕ → Type 0
IsNameThen text name rest =
    (text ≡ name ++ rest) × (is_classic_name name ≡ true) × (begins is_name_byte rest ≡ false)

-- a letter of a value's text: a byte that means itself, or a byte after a backslash that escapes it
pub data Letter : Type 0 where
  plain : ℕ → Letter
  escape : ℕ → Letter

-- whether a byte can be escaped: `n`, a quote and a backslash can
abbrev pub is_escapable : ℕ → Bool
is_escapable byte = byte == 110 || (byte == 34 || byte == 92)

-- the letters of a text; a backslash before another byte, or at the end, means itself
abbrev pub letters : List ℕ → List Letter
letters [] = []
letters (byte ∷ []) = plain byte ∷ []
letters (byte ∷ next ∷ rest) =
    if byte == 92 && is_escapable next then escape next ∷ letters rest else plain byte ∷ letters (next ∷ rest)

-- how a letter is written
abbrev pub spelled : Letter → List ℕ
spelled (plain byte) = byte ∷ []
spelled (escape byte) = 92 ∷ byte ∷ []

-- the byte that a letter means: `\n` is a line feed
abbrev pub meant : Letter → ℕ
meant (plain byte) = byte
meant (escape byte) = if byte == 110 then 10 else byte

-- whether a letter is a quote that isn't escaped
abbrev pub is_bare_quote : Letter → Bool
is_bare_quote (plain byte) = byte == 34
is_bare_quote (escape byte) = false

-- the letters of a backslash and a character
abbrev pub after_backslash : ℕ → List Letter
after_backslash c = if is_escapable c then escape c ∷ [] else plain 92 ∷ map plain (encode_utf8 c)

-- the text has no bare quote, and means the value
abbrev pub IsMeantWhole : List ℕ → List ℕ → Type 0
IsMeantWhole text value = (list_any is_bare_quote (letters text) ≡ false) × (value ≡ map meant (letters text))

-- the text up to its first bare quote means the value, and the rest follows that quote
abbrev pub IsMeantUntil : List ℕ → List ℕ → List ℕ → Type 0
IsMeantUntil text rest value =
    (inner : List Letter) × (letters text ≡ inner ++ plain 34 ∷ letters rest)
    × (list_any is_bare_quote inner ≡ false) × (value ≡ map meant inner)

-- the letters of a text are written as that text
abbrev pub LettersSpellTheText : Type 0
LettersSpellTheText = (text : List ℕ) → flat_map spelled (letters text) ≡ text
