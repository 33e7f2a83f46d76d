use Rattle.std.proofs.Common.{◌≡◌, ◌∙◌, ap, rules, sym}
use Rattle.std.specs.FinMap.{entries}
use Rattle.am_labels.specs.Printing.{labels_text}
use Rattle.am_labels.proofs.LabelTexts.{made_is}
use Rattle.am_labels.proofs.label_set.LabelSet.read.Goals as goal

pub returns-then-ne-clause-refused : goal.returns-then-ne-clause-refused
returns-then-ne-clause-refused c = λ fault labels shown.
    let read = c.in_ok-pairs.ensures labels shown in
    let pairs : c.in-Some.pairs.items ≡ entries labels = search (rules, read) in
    let made : c.in_ok-labels.labels ≡ labels = made_is c.in-Some.pairs.items c.in_ok-labels.labels labels (search rules) pairs in
    let text : labels_text c.in_ok-labels.labels ≡ c.args.text.now = ap labels_text made ∙ shown in
    search rules

pub returns-clause-read : goal.returns-clause-read
returns-clause-read c = (
  search rules,
  λ other shown.
      let read = c.in_ok-pairs.ensures other shown in
      let pairs : c.in-Some.pairs.items ≡ entries other = search (rules, read) in
      sym (made_is c.in-Some.pairs.items c.in_ok-labels.labels other (search rules) pairs),
)
