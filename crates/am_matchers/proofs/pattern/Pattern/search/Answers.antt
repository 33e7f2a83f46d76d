use Rattle.std.proofs.Common.{ap, subst, sym, ◌∙◌}
use Rattle.regex.specs.Strings.{matcher_pattern}
use Rattle.am_matchers.specs.inside.Comparisons.{IsPatternOf}
use Rattle.am_matchers.specs.inside.Searches.{SearchesFor}
use Rattle.am_matchers.proofs.MatcherMeaning.Searching.{searches, compares}
use Rattle.am_matchers.proofs.pattern.Pattern.search.Goals as goal
use Rattle.am_matchers.proofs.pattern.Pattern.search.Goals.{in-Choice, in-Compiled+in_ok-matcher-in-Compiled+in_ok-new-in-Compiled}

pub returns : goal.returns
returns c value of =
    elim c.match-self.branch [
      | in-Choice w ↦
          subst (SearchesFor value) (sym w.result-is) (compares w.in-Choice.texts w.deref.result value w.deref.ensures.value (subst (IsPatternOf value) w.in-Choice.is of))
      | in-Compiled+in_ok-matcher-in-Compiled+in_ok-new-in-Compiled w ↦
          subst (SearchesFor value) (sym w.result-is) (searches w.in-Compiled.regex w.in_ok-new-in-Compiled.field-0 value (ap matcher_pattern w.in_ok-new-in-Compiled.ensures.ok ∙ w.in_ok-matcher-in-Compiled.ensures.pattern) (subst (IsPatternOf value) w.in-Compiled.is of))
    ]
