use Rattle.std.proofs.Common.{rules}
use Rattle.am_matchers.proofs.MatcherMeaning.Patterns.{may_be_refused}
use Rattle.am_matchers.proofs.pattern.Pattern.read.Goals as goal

pub returns : goal.returns
returns c =
    may_be_refused c.args.value.now c.in-Err.field-0 (search rules) (search rules) (search rules) (search rules)
