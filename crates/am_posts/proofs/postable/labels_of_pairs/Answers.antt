use Rattle.std.proofs.Common.{◌≡◌, ◌∷◌, [], List, ℕ, true, filter, cond, ap, refl, ◌∙◌, arith}
use Rattle.std.proofs.lemmas.Grind.{common_steps}
use Rattle.std.specs.List.{list_all}
use Rattle.std.proofs.lemmas.Bool.{and_parts}
use Rattle.am_posts.specs.Postables.{has_value}
use Rattle.am_posts.proofs.postable.labels_of_pairs.Goals as goal

all_kept : (pairs : List (List ℕ × List ℕ)) → list_all has_value pairs ≡ true → filter has_value pairs ≡ pairs
all_kept [] all = refl
all_kept (pair ∷ pairs) all =
    let parts = and_parts _ _ all in
    ap (λ b. cond b (pair ∷ filter has_value pairs) (filter has_value pairs)) parts.0 ∙ ap (λ (rest : List (List ℕ × List ℕ)). pair ∷ rest) (all_kept pairs parts.1)

pub returns-then-have_values : goal.returns-then-have_values
returns-then-have_values c = grind (arith, common_steps, all_kept)
