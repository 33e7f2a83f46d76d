use Rattle.std.proofs.Common.{◌≡◌, ◌∙◌, ◌+◌, ◌++◌, ◌∷◌, [], ℕ, List, Option, take, ap, sym, subst}
use Rattle.std.proofs.lemmas.List.{take_more}
use Rattle.std.specs.List.{AllZip}
use Rattle.am_answers.specs.declared.answer.Answer.{Answer}
use Rattle.am_answers.specs.Known.{IsShownAt}
use Rattle.am_answers.proofs.Runs.{all_zip_push}
use Rattle.am_answers.proofs.known.places_of.Goals as goal

pub loop-at-preserved : goal.loop-at-preserved
loop-at-preserved c =
    let given = c.args.given.now in
    let at = c.loop-at.at in
    let one = c.index-given-at.result in
    let known = c.args.known.now.entries in
    let longer : take at given ++ one ∷ [] ≡ take (at + 1) given = ap (λ (x : Answer). take at given ++ x ∷ []) c.index-given-at.is ∙ sym (take_more given at one c.loop-at-test.true) in
    subst (λ (l : List Answer). AllZip (IsShownAt known) l c.push.new.self.items) longer
    (subst (λ (places : List (Option ℕ)). AllZip (IsShownAt known) (take at given ++ one ∷ []) places) (sym c.in_ok-push.ensures.items)
    (all_zip_push (IsShownAt known) (take at given) c.loop-at.places.items one c.place_of.result c.loop-at.invariant c.place_of.ensures))
