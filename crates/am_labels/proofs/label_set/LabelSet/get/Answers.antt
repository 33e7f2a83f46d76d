use Rattle.std.proofs.Common.{sym, ◌≡◌, Some, None, rules}
use Rattle.std.specs.FinMap.Entries.{find}
use Rattle.am_labels.specs.Texts.{text_cmp}
use Rattle.am_labels.proofs.LabelSets.LabelMaps.{value_found}
use Rattle.am_labels.proofs.label_set.LabelSet.get.Goals as goal

pub returns-in-Some : goal.returns-in-Some
returns-in-Some c =
    let found : Some c.in-Some.value.now ≡ find text_cmp c.args.name.now c.self.inside.pairs = search rules in
    sym (value_found c.self.inside.pairs c.args.self.now c.args.name.now (Some c.in-Some.value.now) c.self.invariant c.self.view_is found)

pub returns-in-None : goal.returns-in-None
returns-in-None c =
    let found : None ≡ find text_cmp c.args.name.now c.self.inside.pairs = search rules in
    sym (value_found c.self.inside.pairs c.args.self.now c.args.name.now None c.self.invariant c.self.view_is found)
