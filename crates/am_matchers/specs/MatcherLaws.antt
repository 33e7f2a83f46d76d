-- What the grammar of a matcher's text fixes.
use Rattle.std.specs.Prelude.{◌≡◌, ◌⊎◌, true, List, ◌++◌, ℕ, Ok}
use Rattle.am_matchers.specs.declared.operator.Operator.{Operator}
use Rattle.am_matchers.specs.Matchers.{MatcherView, IsTextOf, IsReadingOf}
use Rattle.am_matchers.specs.MatcherTexts.{IsSplit, IsValue, HasParts, HasNoName, HasNoOperator}
use Rattle.am_matchers.specs.MatcherTexts.{operator_text}
use Rattle.am_labels.specs.Printing.{is_classic_name, quoted}

-- a text has at most one name, operator and way to write the value
abbrev pub HasOneSplit : Type 0
HasOneSplit =
    (text name other raw rest : List ℕ) (op like : Operator)
    → IsSplit text name op raw → IsSplit text other like rest → (name ≡ other) × (op ≡ like) × (raw ≡ rest)

-- what is written for a value is written for no other
abbrev pub HasOneValue : Type 0
HasOneValue = (raw value other : List ℕ) → IsValue raw value → IsValue raw other → value ≡ other

-- a text without a name doesn't lack its operator, and has no parts
abbrev pub NoNameStandsAlone : Type 0
NoNameStandsAlone =
    (text : List ℕ) → HasNoName text
    → (HasNoOperator text → ⊥) × ((name raw : List ℕ) (op : Operator) → IsSplit text name op raw → ⊥)

-- a text without an operator has no parts
abbrev pub NoOperatorStandsAlone : Type 0
NoOperatorStandsAlone =
    (text : List ℕ) → HasNoOperator text → (name raw : List ℕ) (op : Operator) → IsSplit text name op raw → ⊥

-- each text lacks its name, or its operator, or has parts
abbrev pub EachTextIsSplit : Type 0
EachTextIsSplit = (text : List ℕ) → HasNoName text ⊎ (HasNoOperator text ⊎ HasParts text)

-- a name, an operator and any value in quotes, as label sets are printed, are the text of that matcher
abbrev pub ReadsQuoted : Type 0
ReadsQuoted =
    (name value : List ℕ) (op : Operator) → is_classic_name name ≡ true
    → IsTextOf (name ++ (operator_text op ++ quoted value)) name op value

-- the matchers that are read of one text are the same
abbrev pub TextIsOfOneMatcher : Type 0
TextIsOfOneMatcher =
    (text : List ℕ) (a b : MatcherView) → IsReadingOf text (Ok a) → IsReadingOf text (Ok b) → a ≡ b
