-- What the first half of reading a matcher's text answers. Only code of this crate cites it.
use Rattle.std.specs.Prelude.{ℕ, List, Result, Ok, Err}
use Rattle.am_matchers.specs.declared.matcher_text.MatcherParts.{MatcherParts}
use Rattle.am_matchers.specs.declared.match_fault.MatchFault.{MatchFault}
use Rattle.am_matchers.specs.declared.match_fault.MatchFault.TheVariants.{NoMemory, NoOperator, BadName}
use Rattle.am_matchers.specs.declared.match_fault.MatchFault.TheVariants.{BadQuote, BadPattern}
use Rattle.am_matchers.specs.MatcherTexts.{IsSplit, HasNoName, HasNoOperator}

-- the parts, or why there are none
abbrev pub IsSplitOf : List ℕ → Result MatcherParts MatchFault → Type 0
IsSplitOf text (Ok parts) = IsSplit text parts.name.now parts.operator parts.raw.now
IsSplitOf text (Err BadName) = HasNoName text
IsSplitOf text (Err NoOperator) = HasNoOperator text
IsSplitOf text (Err BadQuote) = ⊥
IsSplitOf text (Err BadPattern) = ⊥
IsSplitOf text (Err NoMemory) = ⊥
