use Rattle.std.proofs.Common.{◌≡◌, List, ℕ, subst, rules}
use Rattle.std.specs.Prelude.{filter, IfOk}
use Rattle.std.proofs.lemmas.Fn.{filter_same}
use Rattle.am_labels.specs.LabelSets.{last_holds}
use Rattle.am_posts.specs.Postables.{has_value}
use Rattle.am_posts.proofs.postable.labels_with_values.Goals as goal

pub returns : goal.returns
returns c =
    let kept : c.retain.new.self.items ≡ filter has_value c.args.pairs.items =
    filter_same _ has_value _ (λ x b f called. (search rules, search rules)) _ _ c.retain.ensures.filtered in
    subst (λ (pairs : List (List ℕ × List ℕ)). IfOk c.from_texts.result (λ labels. labels ≡ last_holds pairs)) kept c.from_texts.ensures
