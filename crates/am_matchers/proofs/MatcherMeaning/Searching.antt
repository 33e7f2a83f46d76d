-- What finds a pattern that is kept finds what its value's pattern finds.
use Rattle.std.proofs.Common.{◌≡◌, List, ℕ, Vec, Box, Global, Bor, arith}
use Rattle.regex.specs.Strings.{regex_pattern, matcher_pattern}
use Rattle.regex.specs.declared.string.regex.Regex.{Regex}
use Rattle.regex.specs.declared.string.matcher.Matcher.{Matcher}
use Rattle.am_matchers.specs.declared.pattern.PatternSearch.TheVariants.{Choice, Compiled}
use Rattle.am_matchers.specs.declared.pattern.Pattern.TheVariants as pattern
use Rattle.am_matchers.specs.inside.Comparisons.{IsPatternOf, IsRegexOf}
use Rattle.am_matchers.specs.inside.Searches.{SearchesFor}
use Rattle.am_matchers.proofs.MatcherMeaning.Patterns.{finds_as}

-- if the search has the pattern of a regex that was compiled of the value
pub searches : (regex : Regex) (search : Box Matcher Global) (value : List ℕ) → matcher_pattern search.value ≡ regex_pattern regex → IsRegexOf value regex → SearchesFor value (Compiled search)
searches regex search value same of text utf8 bytes = grind (arith, finds_as)

-- if the search has the texts that the value's pattern chooses among
pub compares : (texts : Vec (Vec ℕ Global) Global) (kept : Bor (List (Vec ℕ Global))) (value : List ℕ) → kept.now ≡ texts.items → IsPatternOf value (pattern.Choice texts) → SearchesFor value (Choice kept)
compares texts kept value same of text utf8 bytes = grind arith
