-- What a comparison has of the operator and the value that it was made of. Only code of this crate cites
-- it.
use Rattle.std.specs.Prelude.{◌≡◌, ℕ, true, List, Result, Ok, Err, ⊤}
use Rattle.regex.specs.declared.string.regex.Regex.{Regex}
use Rattle.regex.specs.Patterns.{default_config}
use Rattle.regex.specs.Strings.{regex_source, regex_config, IsReadFromSource}
use Rattle.am_matchers.specs.declared.comparison.Comparison.{Comparison}
use Rattle.am_matchers.specs.declared.comparison.Comparison.TheVariants.{Equal, NotEqual, MatchRegexp}
use Rattle.am_matchers.specs.declared.comparison.Comparison.TheVariants.{MatchNotRegexp}
use Rattle.am_matchers.specs.declared.match_fault.MatchFault.{MatchFault}
use Rattle.am_matchers.specs.declared.match_fault.MatchFault.TheVariants.{NoMemory, NoOperator, BadName}
use Rattle.am_matchers.specs.declared.match_fault.MatchFault.TheVariants.{BadQuote, BadPattern}
use Rattle.am_matchers.specs.declared.operator.Operator.{Operator}
use Rattle.am_matchers.specs.declared.operator.Operator.TheVariants as operator
use Rattle.am_matchers.specs.declared.pattern.Pattern.{Pattern}
use Rattle.am_matchers.specs.declared.pattern.Pattern.TheVariants.{Choice, Compiled}
use Rattle.am_matchers.specs.inside.Choices.{kept_texts, IsChoiceIn}
use Rattle.am_matchers.specs.Matchers.{anchored, is_of_pattern, MayBeRefused}

-- the operator of a comparison
abbrev pub operator_of : Comparison → Operator
operator_of Equal = operator.Equal
operator_of NotEqual = operator.NotEqual
operator_of (MatchRegexp pattern) = operator.MatchRegexp
operator_of (MatchNotRegexp pattern) = operator.MatchNotRegexp

-- the regex is what the grammar of `regex` reads in the value's pattern, under the default options
abbrev pub IsRegexOf : List ℕ → Regex → Type 0
IsRegexOf value regex =
    (regex_source regex ≡ anchored value)
    × (regex_config regex ≡ default_config)
    × IsReadFromSource regex

-- what is kept is the value's pattern: the texts that it chooses among, or its regex
abbrev pub IsPatternOf : List ℕ → Pattern → Type 0
IsPatternOf value (Choice texts) = IsChoiceIn (anchored value) (kept_texts texts.items)
IsPatternOf value (Compiled regex) = IsRegexOf value regex

-- a comparison by pattern has the pattern of its value
abbrev pub IsComparisonWith : List ℕ → Comparison → Type 0
IsComparisonWith value Equal = ⊤
IsComparisonWith value NotEqual = ⊤
IsComparisonWith value (MatchRegexp pattern) = IsPatternOf value pattern
IsComparisonWith value (MatchNotRegexp pattern) = IsPatternOf value pattern

-- what making a comparison answers
abbrev pub IsComparisonOf : Operator → List ℕ → Result Comparison MatchFault → Type 0
IsComparisonOf op value (Ok comparison) =
    (operator_of comparison ≡ op) × IsComparisonWith value comparison
IsComparisonOf op value (Err NoMemory) = ⊤
IsComparisonOf op value (Err BadName) = ⊥
IsComparisonOf op value (Err NoOperator) = ⊥
IsComparisonOf op value (Err BadQuote) = ⊥
IsComparisonOf op value (Err BadPattern) = (is_of_pattern op ≡ true) × MayBeRefused value

-- what reading the pattern of a value answers
abbrev pub IsPatternReadOf : List ℕ → Result Pattern MatchFault → Type 0
IsPatternReadOf value (Ok pattern) = IsPatternOf value pattern
IsPatternReadOf value (Err NoMemory) = ⊤
IsPatternReadOf value (Err BadName) = ⊥
IsPatternReadOf value (Err NoOperator) = ⊥
IsPatternReadOf value (Err BadQuote) = ⊥
IsPatternReadOf value (Err BadPattern) = MayBeRefused value
