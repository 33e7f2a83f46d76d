use Rattle.std.proofs.Common.{map, take}
use Rattle.regex.specs.Patterns.{cat_all, alt_all}
use Rattle.regex_hir.specs.Meaning.{meaning}
use Rattle.am_matchers.specs.inside.Choices.{kept_texts, ChoosesAmong}
use Rattle.am_matchers.proofs.choice.+choice.Given as goal

abbrev pub invariant-choice_of_parts-loop-part : goal.invariant-choice_of_parts-loop-part
invariant-choice_of_parts-loop-part l =
    ChoosesAmong (kept_texts l.texts.items) (cat_all (map meaning (take l.part-index l.parts)))

abbrev pub invariant-choice_of_branches-loop-branch : goal.invariant-choice_of_branches-loop-branch
invariant-choice_of_branches-loop-branch l =
    ChoosesAmong (kept_texts l.texts.items) (alt_all (map meaning (take l.branch-index l.branches)))
