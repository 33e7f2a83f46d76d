use Rattle.std.proofs.Common.{◌≡◌, ℕ, List, Greater, length, sym, subst, arith}
use Rattle.std.proofs.lemmas.Grind.{common_steps}
use Rattle.std.specs.List.{AllWithin}
use Rattle.am_labels.specs.Texts.{text_cmp}
use Rattle.am_labels.proofs.LabelSets.Searches.{find_there, find_between, greater_from, lower_up_to, tied}
use Rattle.am_labels.proofs.label_set.find_among_many.Goals as goal

pub returns-in-Equal : goal.returns-in-Equal
returns-in-Equal c = grind (arith, common_steps, tied, find_there)

pub halves-preserved-in-Less : goal.halves-preserved-in-Less
halves-preserved-in-Less c = grind (arith, common_steps, lower_up_to)

pub halves-preserved : goal.halves-preserved
halves-preserved c = grind (arith, common_steps, greater_from)

pub returns : goal.returns
returns c =
    let met : c.halves.high ≡ c.halves.low = omega arith in
    let back = subst (λ from. AllWithin (λ (pair : List ℕ × List ℕ). text_cmp pair.0 c.args.name.now ≡ Greater) c.args.pairs from (length c.args.pairs)) met c.halves.invariant.3 in
    sym (find_between c.args.pairs c.args.name.now c.halves.low c.halves.invariant.2 back)
