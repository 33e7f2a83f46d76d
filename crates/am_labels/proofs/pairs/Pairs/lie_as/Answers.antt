use Rattle.std.proofs.Common.{◌≡◌, ◌∙◌, ◌∷◌, [], Bool, true, List, ap, arith, refl, rules}
use Rattle.std.proofs.lemmas.Grind.{common_steps}
use Rattle.std.proofs.lemmas.Bool.{and_parts}
use lib.Pointwise.{pointwise}
use Rattle.am_labels.proofs.pairs.Pairs.lie_as.Goals as goal

-- lists whose elements are the same one by one are the same
one_by_one : {A : Type 0} (E : A → A → Bool) → ((a b : A) → E a b ≡ true → a ≡ b) → (xs ys : List A) → pointwise E xs ys ≡ true → xs ≡ ys
one_by_one E only [] [] h = refl
one_by_one E only [] (y ∷ ys) h = search rules
one_by_one E only (x ∷ xs) [] h = search rules
one_by_one E only (x ∷ xs) (y ∷ ys) h =
    let parts = and_parts _ _ h in
    ap (λ z. z ∷ xs) (only x y parts.0) ∙ ap (λ zs. y ∷ zs) (one_by_one E only xs ys parts.1)

pub returns-then-self-others : goal.returns-then-self-others
returns-then-self-others c taken = grind (arith, common_steps, one_by_one)
