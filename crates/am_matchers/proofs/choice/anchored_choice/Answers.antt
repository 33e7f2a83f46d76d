use Rattle.std.proofs.Common.{◌≡◌, ◌∙◌, ◌∷◌, ◌++◌, [], ap, ap₂, sym, map, arith}
use Rattle.std.proofs.lemmas.Grind.{common_steps}
use Rattle.std.proofs.lemmas.List.{map-append}
use Rattle.regex.specs.Patterns.{Re, look, Start, End}
use Rattle.regex_hir.specs.Meaning.{meaning}
use Rattle.regex_hir.specs.declared.hir.Hir.{Hir}
use Rattle.regex_hir.specs.declared.hir.Hir.TheVariants.{Look}
use Rattle.regex_hir.proofs.MeaningLemmas.{meaning-Look, meaning-Concat}
use Rattle.am_matchers.proofs.MatcherMeaning.Choices.{finds_one, if_found}
use Rattle.am_matchers.proofs.choice.anchored_choice.Goals as goal

pub returns : goal.returns
returns c =
    let inner = c.in-Some-split_last.inner.now in
    let first : c.in-Some.first.now ≡ Look Start = c.is_look.ensures c.if-not-is_look.false in
    let last : c.in-Some-split_last.last.now ≡ Look End = c.is_look-else-not-is_look.ensures c.if-not-is_look-2.false in
    let parts : c.in-Concat.parts.items ≡ Look Start ∷ inner ++ Look End ∷ [] =
    sym c.deref.ensures.value ∙ c.in-Some.ensures.cases.0
    ∙ ap₂ ◌∷◌ first (c.in-Some-split_last.ensures.cases.0 ∙ ap (λ (h : Hir). inner ++ h ∷ []) last) in
    let meanings : map meaning c.in-Concat.parts.items ≡ look Start ∷ map meaning inner ++ look End ∷ [] =
    ap (map meaning) parts
    ∙ ap₂ ◌∷◌ (meaning-Look Start) (map-append meaning inner (Look End ∷ []) ∙ ap (λ (re : Re). map meaning inner ++ re ∷ []) (meaning-Look End)) in
    grind (arith, common_steps, if_found, finds_one, meaning-Concat)
