-- The text of one matcher, as `name="value"` (Alertmanager's `labels.ParseMatcher`, pkg/labels/parse.go).
use Rattle.std.specs.Prelude.{◌≡◌, ◌⊎◌, ℕ, true, false, ◌==◌}
use Rattle.std.specs.Prelude.{List, [], ◌∷◌, ◌++◌, reverse, codes}
use Rattle.std.specs.List.{list_all, list_any}
use Rattle.std.specs.Char.{is_ascii_whitespace}
use Rattle.am_labels.specs.Letters.{begins, IsNameThen, IsMeantUntil, IsMeantWhole}
use Rattle.am_labels.specs.Printing.{is_name_start}
use Rattle.am_matchers.specs.declared.operator.Operator.{Operator}
use Rattle.am_matchers.specs.declared.operator.Operator.TheVariants as operator

-- how an operator is written (`MatchType.String`, pkg/labels/matcher.go)
abbrev pub operator_text : Operator → List ℕ
operator_text operator.Equal = codes "="
operator_text operator.NotEqual = codes "!="
operator_text operator.MatchRegexp = codes "=~"
operator_text operator.MatchNotRegexp = codes "!~"

-- white space and nothing else: spaces, tabs, line feeds, form feeds, carriage returns (Go's `\s`)
abbrev pub IsSpace : List ℕ → Type 0
IsSpace text = list_all is_ascii_whitespace text ≡ true

-- the text is white space and then the rest, which doesn't begin with more of it
abbrev pub IsSpaceThen : List ℕ → List ℕ → Type 0
IsSpaceThen text rest =
    (space : List ℕ) × IsSpace space × (text ≡ space ++ rest) × (begins is_ascii_whitespace rest ≡ false)

-- the text is white space, the name, white space, and the rest
abbrev pub IsNamed : List ℕ → List ℕ → List ℕ → Type 0
IsNamed text name rest =
    (from_name : List ℕ) × (behind_name : List ℕ)
    × IsSpaceThen text from_name × IsNameThen from_name name behind_name × IsSpaceThen behind_name rest

-- the text is an operator and what follows it, and `=` is none before a `~`
abbrev pub IsOperatorThen : List ℕ → Operator → List ℕ → Type 0
IsOperatorThen text op behind =
    (text ≡ operator_text op ++ behind) × (op ≡ operator.Equal → begins (λ byte. byte == 126) behind ≡ false)

-- the text is `raw` between white space, and `raw` has none at its ends
abbrev pub IsTrimmedTo : List ℕ → List ℕ → Type 0
IsTrimmedTo text raw =
    (before : List ℕ) × (after : List ℕ) × IsSpace before × IsSpace after × (text ≡ before ++ (raw ++ after))
    × (begins is_ascii_whitespace raw ≡ false) × (begins is_ascii_whitespace (reverse raw) ≡ false)

-- the parts of a matcher's text: white space, name, white space, operator, white space, `raw`, white space
abbrev pub IsSplit : List ℕ → List ℕ → Operator → List ℕ → Type 0
IsSplit text name op raw =
    (rest : List ℕ) × (behind : List ℕ)
    × IsNamed text name rest × IsOperatorThen rest op behind × IsTrimmedTo behind raw

-- a text that has its parts
abbrev pub HasParts : List ℕ → Type 0
HasParts text = (name : List ℕ) × (op : Operator) × (raw : List ℕ) × IsSplit text name op raw

-- white space, and then nothing or a byte that begins no name
abbrev pub HasNoName : List ℕ → Type 0
HasNoName text = (rest : List ℕ) × IsSpaceThen text rest × (begins is_name_start rest ≡ false)

-- white space, a name, white space, and then no operator
abbrev pub HasNoOperator : List ℕ → Type 0
HasNoOperator text =
    (name : List ℕ) × (rest : List ℕ) × IsNamed text name rest
    × ((op : Operator) (behind : List ℕ) → rest ≡ operator_text op ++ behind → ⊥)

-- a value in quotes: the first bare quote after the one at the start is the end
abbrev pub IsQuoted : List ℕ → List ℕ → Type 0
IsQuoted raw value = (rest : List ℕ) × (raw ≡ 34 ∷ rest) × IsMeantUntil rest [] value

-- a value without quotes has no comma and no bare quote
abbrev pub IsUnquoted : List ℕ → List ℕ → Type 0
IsUnquoted raw value = (list_any (λ byte. byte == 44) raw ≡ false) × IsMeantWhole raw value

-- `raw` is written for the value
abbrev pub IsValue : List ℕ → List ℕ → Type 0
IsValue raw value = IsQuoted raw value ⊎ IsUnquoted raw value

-- `raw` is written for no value
abbrev pub IsNoValue : List ℕ → Type 0
IsNoValue raw = (value : List ℕ) → IsValue raw value → ⊥
