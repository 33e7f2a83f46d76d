use Rattle.std.proofs.Common.{◌≡◌, ◌∙◌, ap, ap₂, refl, subst, IfSome, [], Option, Some}
use Rattle.std.proofs.lemmas.List.{map-append}
use Rattle.regex.specs.Patterns.{cat_all, alt_all}
use Rattle.regex_hir.specs.Meaning.{meaning}
use Rattle.regex_hir.proofs.MeaningLemmas.{meaning-Empty}
use Rattle.am_matchers.specs.inside.Choices.{kept_texts, crossed, ChoosesAmong}
use Rattle.am_matchers.proofs.MatcherMeaning.Choices.{chooses_nothing, chooses_none, chooses_branch, chooses_next, chooses_so, one_more}
use Rattle.am_matchers.proofs.choice.+choice.Goals as goal

at_some : {A : Type 0} (P : A → Type 0) (o : Option A) (x : A) → o ≡ Some x → IfSome o P → P x
at_some P o x e h = subst (λ p. IfSome p P) e h

pub choice-returns-in_ok-one_text-in-Empty : goal.choice-returns-in_ok-one_text-in-Empty
choice-returns-in_ok-one_text-in-Empty t c =
    chooses_so c.in_ok-one_text-in-Empty.ensures (ap meaning c.in-Empty.is ∙ meaning-Empty) chooses_nothing

pub choice_of_branches-loop-branch-init : goal.choice_of_branches-loop-branch-init
choice_of_branches-loop-branch-init t c =
    chooses_so {pattern = alt_all []} (ap kept_texts c.new-texts.ensures.items) refl chooses_none

pub choice_of_branches-loop-branch-preserved : goal.choice_of_branches-loop-branch-preserved
choice_of_branches-loop-branch-preserved t c =
    let next = at_some (λ v. ChoosesAmong (kept_texts v.items) (meaning c.branch-item.result)) _ _ c.in-Some.is c.in_ok-more.ensures in
    chooses_so (ap kept_texts c.in_ok-append.ensures.items ∙ map-append _ _ _)
    (ap alt_all (one_more meaning _ _ c.branch-item.result c.loop-branch-test.true c.branch-item.is))
    (chooses_branch _ _ _ _ c.loop-branch.invariant next)

pub choice_of_parts-loop-part-init : goal.choice_of_parts-loop-part-init
choice_of_parts-loop-part-init t c =
    chooses_so {pattern = cat_all []} c.in_ok-texts.ensures refl chooses_nothing

pub choice_of_parts-loop-part-preserved : goal.choice_of_parts-loop-part-preserved
choice_of_parts-loop-part-preserved t c =
    let next = at_some (λ v. ChoosesAmong (kept_texts v.items) (meaning c.part-item.result)) _ _ c.in-Some.is c.in_ok-next.ensures in
    chooses_so (c.in_ok-texts-2.ensures ∙ ap₂ (λ texts more. crossed (kept_texts texts) (kept_texts more)) c.deref.ensures.value c.deref-in-loop-part.ensures.value)
    (ap cat_all (one_more meaning _ _ c.part-item.result c.loop-part-test.true c.part-item.is))
    (chooses_next _ _ _ _ c.loop-part.invariant next)
