-- Matchers, what they admit, and how one is read (Alertmanager's `labels.Matcher`, pkg/labels/matcher.go).
use Rattle.std.specs.Prelude.{◌≡◌, ◌⊎◌, ◌<◌, ℕ, Bool, true, false, not, is_some, List, ◌++◌, codes, chars}
use Rattle.std.specs.Prelude.{None, IfSome, Result, Ok, Err, refl}
use Rattle.std.specs.List.{list_all}
use Rattle.std.specs.Option.{option_map_or}
use Rattle.std.specs.Coded.{Coded, code_by, coded×, coded_list, coded_ℕ}
use Rattle.regex.specs.Failures.{IsPattern}
use Rattle.regex.specs.Patterns.{find_str, default_config}
use Rattle.regex_syntax.specs.Grammar.{read}
use Rattle.am_matchers.specs.declared.match_fault.MatchFault.{MatchFault}
use Rattle.am_matchers.specs.declared.match_fault.MatchFault.TheVariants.{NoMemory, NoOperator, BadName}
use Rattle.am_matchers.specs.declared.match_fault.MatchFault.TheVariants.{BadQuote, BadPattern}
use Rattle.am_matchers.specs.declared.operator.Operator.{Operator}
use Rattle.am_matchers.specs.declared.operator.Operator.TheVariants.{Equal, NotEqual, MatchRegexp}
use Rattle.am_matchers.specs.declared.operator.Operator.TheVariants.{MatchNotRegexp}
use Rattle.am_labels.specs.LabelSets.{Labels, value_of}
use Rattle.am_labels.specs.Texts.{same_text}
use Rattle.am_matchers.specs.MatcherTexts.{IsSplit, HasParts, HasNoName, HasNoOperator, IsValue, IsNoValue}

-- a matcher: the label that it looks at, how it compares that label's value, and what with
pub record MatcherView : Type 0 where
  pub name : List ℕ
  pub operator : Operator
  pub value : List ℕ

-- a matcher as the tuple of its fields, in which models store it
abbrev pub coded_matcher : Coded Operator → Coded MatcherView
coded_matcher operator =
    code_by (List ℕ × (Operator × List ℕ))
    (coded× (coded_list coded_ℕ) (coded× operator (coded_list coded_ℕ)))
    (λ m. (m.name, (m.operator, m.value)))
    (λ p. record { name = p.0; operator = p.1.0; value = p.1.1 })
    (λ _. refl)

-- whether the operator is one of a pattern
abbrev pub is_of_pattern : Operator → Bool
is_of_pattern Equal = false
is_of_pattern NotEqual = false
is_of_pattern MatchRegexp = true
is_of_pattern MatchNotRegexp = true

-- the pattern of a value: `^(?:value)$`, as Alertmanager compiles it
abbrev pub anchored : List ℕ → List ℕ
anchored value = codes "^(?:" ++ (value ++ codes ")$")

-- whether the pattern that `regex`'s grammar reads in a source finds a match in a text
abbrev pub finds : List ℕ → List ℕ → Bool
finds source text =
    option_map_or (λ pattern. is_some (find_str pattern.0.value text 0))
    (read default_config (chars source)) false

-- whether a label's value, empty if the label is missing, is accepted
abbrev pub accepts : Operator → List ℕ → List ℕ → Bool
accepts Equal value found = same_text found value
accepts NotEqual value found = not (same_text found value)
accepts MatchRegexp value found = finds (anchored value) found
accepts MatchNotRegexp value found = not (finds (anchored value) found)

-- whether a matcher admits a label set (`Matcher.Matches`)
abbrev pub admitted : MatcherView → Labels → Bool
admitted matcher labels = accepts matcher.operator matcher.value (value_of labels matcher.name)

-- whether each matcher of a list admits it (`Matchers.Matches`); no matchers admit every label set
abbrev pub all_admitted : List MatcherView → Labels → Bool
all_admitted matchers labels = list_all (λ matcher. admitted matcher labels) matchers

-- `regex`'s grammar reads the source of a pattern, if the operator is one of a pattern
abbrev pub IsReadable : Operator → List ℕ → Type 0
IsReadable op value = is_of_pattern op ≡ true → IsPattern default_config (anchored value)

-- `regex`'s grammar doesn't read the source, or reads it nested above the limit
abbrev pub HasNoReading : List ℕ → Type 0
HasNoReading source =
    (read default_config (chars source) ≡ None)
    ⊎ IfSome (read default_config (chars source)) (λ pattern. default_config.nest_limit < pattern.0.depth)

-- What is known of a pattern that `regex` refused: its grammar has no reading of it; or it has one,
-- and what is compiled of it may be above the limit of size. No definition measures that size, so
-- this holds of patterns that are compiled too.
abbrev pub MayBeRefused : List ℕ → Type 0
MayBeRefused value = HasNoReading (anchored value) ⊎ IsPattern default_config (anchored value)

-- the text has these parts and this value
abbrev pub IsTextOf : List ℕ → List ℕ → Operator → List ℕ → Type 0
IsTextOf text name op value = (raw : List ℕ) × IsSplit text name op raw × IsValue raw value

-- what reading a text answers; memory can be short only for a text that has its parts
abbrev pub IsReadingOf : List ℕ → Result MatcherView MatchFault → Type 0
IsReadingOf text (Ok matcher) =
    IsTextOf text matcher.name matcher.operator matcher.value
    × IsReadable matcher.operator matcher.value
IsReadingOf text (Err NoMemory) = HasParts text
IsReadingOf text (Err BadName) = HasNoName text
IsReadingOf text (Err NoOperator) = HasNoOperator text
IsReadingOf text (Err BadQuote) =
    (name : List ℕ) × (op : Operator) × (raw : List ℕ) × IsSplit text name op raw × IsNoValue raw
IsReadingOf text (Err BadPattern) =
    (name : List ℕ) × (op : Operator) × (value : List ℕ)
    × IsTextOf text name op value × (is_of_pattern op ≡ true) × MayBeRefused value
