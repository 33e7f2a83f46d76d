-- How a label set is printed: `{name="value",other="value"}`, as Alertmanager prints one in its logs.
use Rattle.std.specs.Prelude.{ℕ, Bool, false, ◌&&◌, ◌||◌, ◌==◌, if◌then◌else◌, nat_le, codes}
use Rattle.std.specs.Prelude.{List, [], ◌∷◌, ◌++◌, map}
use Rattle.std.specs.List.{flat_map, list_all, join_with_byte}
use Rattle.std.specs.FinMap.{entries}
use Rattle.am_labels.specs.LabelSets.{Labels}

-- a byte inside quotes: `\"` for a quote, `\\` for a backslash, `\n` for a line feed, others stay
abbrev pub escaped : ℕ → List ℕ
escaped byte =
    if byte == 34 then codes "\\\""
    else (if byte == 92 then codes "\\\\"
    else (if byte == 10 then codes "\\n"
    else byte ∷ []))

-- a text inside quotes
abbrev pub escaped_all : List ℕ → List ℕ
escaped_all text = flat_map escaped text

-- a text between quotes
abbrev pub quoted : List ℕ → List ℕ
quoted text = codes "\"" ++ escaped_all text ++ codes "\""

-- whether a byte may begin a name: a letter of ASCII, `_` or `:`
abbrev pub is_name_start : ℕ → Bool
is_name_start byte =
    (nat_le 65 byte && nat_le byte 90) || (nat_le 97 byte && nat_le byte 122) || (byte == 95 || byte == 58)

-- whether a byte may follow in a name: one that may begin it, or a digit of ASCII
abbrev pub is_name_byte : ℕ → Bool
is_name_byte byte = is_name_start byte || (nat_le 48 byte && nat_le byte 57)

-- whether a name has the classic form (Prometheus's label names before UTF-8 names, with `:` allowed)
abbrev pub is_classic_name : List ℕ → Bool
is_classic_name [] = false
is_classic_name (byte ∷ bytes) = is_name_start byte && list_all is_name_byte bytes

-- a name as it is printed: plain if it is classic, else quoted
abbrev pub name_text : List ℕ → List ℕ
name_text name = if is_classic_name name then name else quoted name

-- a name and its value: `name="value"`
abbrev pub pair_text : List ℕ × List ℕ → List ℕ
pair_text pair = name_text pair.0 ++ (codes "=" ++ quoted pair.1)

-- pairs with commas between
abbrev pub pairs_text : List (List ℕ × List ℕ) → List ℕ
pairs_text pairs = join_with_byte 44 (map pair_text pairs)

-- a label set: its pairs in byte order of names, in braces
abbrev pub labels_text : Labels → List ℕ
labels_text labels = codes "{" ++ pairs_text (entries labels) ++ codes "}"
