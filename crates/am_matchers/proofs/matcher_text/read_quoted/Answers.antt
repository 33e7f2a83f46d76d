use Rattle.std.proofs.Common.{◌≡◌, length, ap, rules}
use Rattle.am_labels.specs.Letters.{IsMeantUntil}
use Rattle.am_matchers.proofs.MatcherTexts.Values.{no_quoted_more}
use Rattle.am_matchers.proofs.matcher_text.read_quoted.Goals as goal

pub returns-then-not-is_empty : goal.returns-then-not-is_empty
returns-then-not-is_empty c =
    let rest = c.in-Some.rest.now in
    let read : IsMeantUntil c.args.text.now rest c.in_ok-value.value = search rules in
    λ value quoted. no_quoted_more c.args.text.now rest c.in_ok-value.value value (λ none. let short : length rest ≡ 0 = ap length none in absurd (search rules)) read quoted
