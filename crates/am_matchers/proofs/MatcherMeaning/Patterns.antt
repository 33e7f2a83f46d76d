-- What a compiled pattern finds is what the grammar's reading of its source finds.
use Rattle.std.proofs.Common.{◌≡◌, ◌≢◌, ◌⊎◌, ⊎_elim, ℕ, ◌<◌, true, false, List, Option, None, Some, refl, IsSomeAnd, IfSome, is_some, get_or, inl, inr, arith}
use Rattle.std.specs.Prelude.{chars}
use Rattle.std.specs.Option.{option_map_or}
use Rattle.regex.specs.Failures.{IsPattern, IsRightKind}
use Rattle.regex.specs.Sources.{IsRefusal}
use Rattle.regex.specs.declared.error.Error.{Error}
use Rattle.regex.specs.declared.error.Error.TheVariants.{Syntax, CompiledTooBig, Internal, OutOfMemory}
use Rattle.regex_syntax.specs.declared.error.ErrorKind.TheVariants.{NestLimitExceeded}
use Rattle.regex.specs.Patterns.{Re, SameCaptures, Reads, Refuses, default_config, find_str}
use Rattle.regex.specs.Strings.{regex_pattern}
use Rattle.regex.specs.declared.string.regex.Regex.{Regex}
use Rattle.regex.proofs.ForCallers.{is_match_alike}
use Rattle.regex_syntax.specs.Grammar.{Names, read}
use Rattle.regex_syntax.specs.Brackets.{Nested}
use Rattle.am_matchers.specs.Matchers.{anchored, finds, HasNoReading, IsReadable, MayBeRefused}
use Rattle.am_matchers.specs.declared.comparison.Comparison.{Comparison}
use Rattle.am_matchers.specs.declared.comparison.Comparison.TheVariants.{Equal, NotEqual, MatchRegexp, MatchNotRegexp}
use Rattle.am_matchers.specs.declared.pattern.Pattern.{Pattern}
use Rattle.am_matchers.specs.declared.pattern.Pattern.TheVariants.{Choice, Compiled}
use Rattle.regex_hir.specs.Meaning.{meaning}
use Rattle.regex_hir.specs.declared.hir.Hir.{Hir}
use Rattle.am_matchers.specs.inside.Choices.{FindsOneOf, IsChoiceIn}
use Rattle.am_matchers.specs.inside.Comparisons.{operator_of, IsComparisonWith, IsPatternOf, IsRegexOf}

-- the answer of a search, by what was read and what was compiled of it
by_reading : (text : List ℕ) (found : Option (Nested Re × Names)) (hir : Re)
    → ((k : ℕ) → get_or text k 0 < 256)
    → IsSomeAnd found (λ p. SameCaptures hir p.0.value)
    → is_some (find_str hir text 0) ≡ option_map_or (λ p. is_some (find_str p.0.value text 0)) found false
by_reading text None hir bytes h = absurd h
by_reading text (Some p) hir bytes h = is_match_alike h text bytes true 0

weaker : {A : Type 0} (o : Option A) (P Q : A → Type 0) → ((x : A) → P x → Q x) → IsSomeAnd o P → IsSomeAnd o Q
weaker None P Q f h = absurd h
weaker (Some x) P Q f h = f x h

-- what is read of a source finds what the source's pattern finds
finds_so : (source text : List ℕ) (hir : Hir) (names : Names) → Reads default_config source hir names → ((k : ℕ) → get_or text k 0 < 256)
    → is_some (find_str (meaning hir) text 0) ≡ finds source text
unfolding Reads
finds_so source text hir names reads bytes = grind (arith, by_reading, weaker)

-- what a compiled pattern finds is what its source's reading finds
pub finds_as : (r : Regex) (value text : List ℕ) → IsRegexOf value r → ((k : ℕ) → get_or text k 0 < 256)
    → is_some (find_str (regex_pattern r) text 0) ≡ finds (anchored value) text
unfolding Reads
finds_as r value text of bytes = grind (arith, by_reading, weaker)

-- the texts that are found by what is read of a source are found by the source's pattern
pub choice_of_reading : (source : List ℕ) (hir : Hir) (names : Names) (texts : List (List ℕ)) → Reads default_config source hir names
    → FindsOneOf texts (meaning hir) → IsChoiceIn source texts
choice_of_reading source hir names texts reads found = grind (arith, finds_so)

-- a pattern that is kept has a reading
pub is_pattern : (pattern : Pattern) (value : List ℕ) → IsPatternOf value pattern → IsPattern default_config (anchored value)
is_pattern (Choice texts) value of = of.0
is_pattern (Compiled regex) value of = let reads = rw (of.0, of.1) at of.2 in (_, _, reads)

-- the value of a comparison is readable
pub readable : (value : List ℕ) (comparison : Comparison) → IsComparisonWith value comparison → IsReadable (operator_of comparison) value
readable value Equal h e = cc
readable value NotEqual h e = cc
readable value (MatchRegexp pattern) h e = is_pattern pattern value h
readable value (MatchNotRegexp pattern) h e = is_pattern pattern value h

-- what `regex` says of a pattern that it refuses
pub may_be_refused : (value : List ℕ) (error : Error) → error ≢ OutOfMemory → error ≢ Internal
    → IsRefusal default_config (anchored value) error → IsRightKind default_config (anchored value) error → MayBeRefused value
unfolding Refuses
may_be_refused value (Syntax e) _ _ refused kind =
    ⊎_elim (λ memory. absurd (kind memory)) (λ no. inl (no_reading no)) (refused e refl)
  where
    no_reading : (read default_config (chars (anchored value)) ≡ None)
        ⊎ ((e.kind ≡ NestLimitExceeded) × IfSome (read default_config (chars (anchored value))) (λ (re, _). default_config.nest_limit < re.depth))
        → HasNoReading (anchored value)
    no_reading h = ⊎_elim (λ none. inl none) (λ deep. inr deep.1) h
may_be_refused value CompiledTooBig _ _ refused kind = inr kind
may_be_refused value Internal _ not_internal refused kind = absurd (not_internal refl)
may_be_refused value OutOfMemory not_memory _ refused kind = absurd (not_memory refl)
