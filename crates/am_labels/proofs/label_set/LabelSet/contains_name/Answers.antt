use Rattle.std.proofs.Common.{◌≡◌, ◌∙◌, ap, refl, Option, Some, None, Bor, List, ℕ}
use Rattle.std.specs.Option.{is_some, option_map}
use Rattle.std.specs.FinMap.Entries.{find}
use Rattle.am_labels.specs.Texts.{text_cmp}
use Rattle.am_labels.proofs.LabelSets.LabelMaps.{contains_found}
use Rattle.am_labels.proofs.label_set.LabelSet.contains_name.Goals as goal

same_variant : (o : Option (Bor (List ℕ))) → is_some o ≡ is_some (option_map (λ (value : Bor (List ℕ)). value.now) o)
same_variant None = refl
same_variant (Some x) = refl

pub returns : goal.returns
returns c =
    let found = c.find.ensures ∙ ap (find text_cmp c.args.name.now) c.as_pairs.ensures in
    c.is_some.ensures ∙ same_variant c.find.result
    ∙ contains_found c.self.inside.pairs c.args.self.now c.args.name.now (option_map (λ (value : Bor (List ℕ)). value.now) c.find.result) c.self.invariant c.self.view_is found
