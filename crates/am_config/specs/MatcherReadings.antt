-- The matchers of a configuration, each read from its text.
use Rattle.std.specs.Prelude.{◌≡◌, ℕ, List, Ok, Err}
use Rattle.am_matchers.specs.Matchers.{MatcherView, IsReadingOf}
use Rattle.am_matchers.specs.declared.match_fault.MatchFault.TheVariants as match_fault
use Rattle.am_config.specs.Paths.{item_path}
use Rattle.am_config.specs.Readings.{Reading, each}
use Rattle.am_config.specs.declared.fault.ConfigFault.TheVariants.{NoMemory, NoOperator, BadName, BadQuote}
use Rattle.am_config.specs.declared.fault.ConfigFault.TheVariants.{BadPattern, NotJson, Missing, Deprecated}
use Rattle.am_config.specs.declared.fault.ConfigFault.TheVariants.{RootMatchers, TooDeep, BadDuration}
use Rattle.am_config.specs.declared.fault.ConfigFault.TheVariants.{WrongKind}

-- the matcher of a text at a path, or why the text is none
abbrev pub matcher_at : List ℕ → List ℕ → Reading MatcherView
matcher_at path text (Ok matcher) = IsReadingOf text (Ok matcher)
matcher_at path text (Err (NoOperator at)) = (at ≡ path) × IsReadingOf text (Err match_fault.NoOperator)
matcher_at path text (Err (BadName at)) = (at ≡ path) × IsReadingOf text (Err match_fault.BadName)
matcher_at path text (Err (BadQuote at)) = (at ≡ path) × IsReadingOf text (Err match_fault.BadQuote)
matcher_at path text (Err (BadPattern at)) = (at ≡ path) × IsReadingOf text (Err match_fault.BadPattern)
matcher_at path text (Err NoMemory) = ⊥
matcher_at path text (Err NotJson) = ⊥
matcher_at path text (Err (Missing at)) = ⊥
matcher_at path text (Err (Deprecated at)) = ⊥
matcher_at path text (Err RootMatchers) = ⊥
matcher_at path text (Err TooDeep) = ⊥
matcher_at path text (Err BadDuration) = ⊥
matcher_at path text (Err (WrongKind at)) = ⊥

-- the matchers of the texts of the array at a path, in order
abbrev pub matchers_of : List ℕ → List (List ℕ) → Reading (List MatcherView)
matchers_of path texts = each (λ i text. matcher_at (item_path path i) text) 0 texts
