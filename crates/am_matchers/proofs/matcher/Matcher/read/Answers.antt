use Rattle.std.proofs.Common.{Ok, rules}
use Rattle.am_matchers.specs.inside.Comparisons.{IsComparisonOf, operator_of}
use Rattle.am_matchers.specs.MatcherTexts.{IsSplit, IsValue}
use Rattle.am_matchers.proofs.MatcherMeaning.Readings.{text_of, not_made}
use Rattle.am_matchers.proofs.MatcherMeaning.Patterns.{readable}
use Rattle.am_matchers.proofs.matcher.Matcher.read.Goals as goal

pub returns-in_err-comparison : goal.returns-in_err-comparison
returns-in_err-comparison c =
    let split : IsSplit c.args.text.now c.in_ok-parts.parts.name.now c.in_ok-parts.parts.operator c.in_ok-parts.parts.raw.now = c.in_ok-parts.ensures in
    let written : IsValue c.in_ok-parts.parts.raw.now c.in-Some.value = search rules in
    not_made c.args.text.now _ _ c.in-Some.value _ c.in_err-comparison.field-0.0 _ (search rules) split written (search rules)

pub returns : goal.returns
returns c =
    let split : IsSplit c.args.text.now c.in_ok-parts.parts.name.now c.in_ok-parts.parts.operator c.in_ok-parts.parts.raw.now = c.in_ok-parts.ensures in
    let written : IsValue c.in_ok-parts.parts.raw.now c.in-Some.value = search rules in
    let made : IsComparisonOf c.in_ok-parts.parts.operator c.in-Some.value (Ok c.in_ok-comparison.comparison) = search rules in (
      text_of c.args.text.now c.in_ok-parts.parts.name.now c.in_ok-parts.parts.raw.now c.in-Some.value c.in_ok-from_str.field-0 c.in_ok-parts.parts.operator (operator_of c.in_ok-comparison.comparison) c.in_ok-from_str.ensures made.0 split written,
      readable c.in-Some.value c.in_ok-comparison.comparison made.1,
    )
