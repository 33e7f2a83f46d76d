use Rattle.std.proofs.Common.{Some, None, lit<}
use Rattle.std.proofs.lemmas.Str.Pattern.{strip_prefix_char}
use Rattle.am_matchers.proofs.MatcherTexts.Values.{read_in_quotes, read_without_quotes}
use Rattle.am_matchers.proofs.matcher_text.read_value.Goals as goal

pub returns-in-Some : goal.returns-in-Some
returns-in-Some c =
    read_in_quotes c.args.raw.now c.in-Some.rest.now c.read_quoted.result (strip_prefix_char 34 c.args.raw.now (Some c.in-Some.rest) c.in-Some.ensures.cases (lit< tt)) c.read_quoted.ensures

pub returns-in-None : goal.returns-in-None
returns-in-None c =
    read_without_quotes c.args.raw.now c.read_unquoted.result (strip_prefix_char 34 c.args.raw.now None c.in-None.ensures.cases (lit< tt)) c.read_unquoted.ensures
