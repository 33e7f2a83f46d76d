-- What the search of a prepared matcher has of the matcher's operator and value. Only code of this crate
-- cites it.
use Rattle.std.specs.Prelude.{◌≡◌, ◌<◌, ℕ, Bool, is_some, List, get_or, ⊤}
use Rattle.std.specs.Str.{IsUtf8}
use Rattle.regex.specs.Patterns.{find_str}
use Rattle.regex.specs.Strings.{matcher_pattern}
use Rattle.am_matchers.specs.declared.operator.Operator.{Operator}
use Rattle.am_matchers.specs.declared.operator.Operator.TheVariants as operator
use Rattle.am_matchers.specs.declared.pattern.PatternSearch.{PatternSearch}
use Rattle.am_matchers.specs.declared.pattern.PatternSearch.TheVariants.{Choice, Compiled}
use Rattle.am_matchers.specs.declared.search.Search.{Search}
use Rattle.am_matchers.specs.declared.search.Search.TheVariants.{Equal, NotEqual, MatchRegexp, MatchNotRegexp}
use Rattle.am_matchers.specs.Matchers.{anchored, finds}
use Rattle.am_matchers.specs.inside.Choices.{kept_texts, is_one_of}

-- the operator of a search
abbrev pub searched_operator : Search → Operator
searched_operator Equal = operator.Equal
searched_operator NotEqual = operator.NotEqual
searched_operator (MatchRegexp pattern) = operator.MatchRegexp
searched_operator (MatchNotRegexp pattern) = operator.MatchNotRegexp

-- whether a search finds its pattern in a text
abbrev pub found_by : PatternSearch → List ℕ → Bool
found_by (Choice texts) text = is_one_of text (kept_texts texts.now)
found_by (Compiled regex) text = is_some (find_str (matcher_pattern regex.value) text 0)

-- the search finds what the value's pattern finds, whatever the text
abbrev pub SearchesFor : List ℕ → PatternSearch → Type 0
SearchesFor value search =
    (text : List ℕ) → IsUtf8 text → ((at : ℕ) → get_or text at 0 < 256)
    → found_by search text ≡ finds (anchored value) text

-- a search by pattern searches for its value
abbrev pub IsSearchWith : List ℕ → Search → Type 0
IsSearchWith value Equal = ⊤
IsSearchWith value NotEqual = ⊤
IsSearchWith value (MatchRegexp pattern) = SearchesFor value pattern
IsSearchWith value (MatchNotRegexp pattern) = SearchesFor value pattern
