use Rattle.am_matchers.specs.inside.Choices.{kept_texts}
use Rattle.am_matchers.proofs.MatcherMeaning.Patterns.{choice_of_reading}
use Rattle.am_matchers.proofs.MatcherMeaning.Choices.{if_found}
use Rattle.am_matchers.proofs.choice.choice_in.Goals as goal

pub returns-in-Ok : goal.returns-in-Ok
returns-in-Ok c =
    if_found _ _ c.anchored_choice.result
    (λ texts finds. choice_of_reading c.args.source.now c.in-Ok.parsed.hir _ (kept_texts texts.items) (rw (c.default.ensures) at c.in-Ok.ensures.ok) finds)
    c.anchored_choice.ensures
