use Rattle.std.proofs.Common.{◌≡◌, ◌∷◌, ◌&&◌, List, ℕ, ap, ◌∙◌, Less, rules}
use Rattle.std.specs.FinMap.Entries.{is_sorted, below_all}
use Rattle.am_labels.specs.Texts.{text_cmp}
use Rattle.am_labels.proofs.LabelSets.LabelMaps.{one_more_rises, lower}
use Rattle.am_labels.proofs.label_set.are_ascending.Goals as goal

pub loop-name-preserved : goal.loop-name-preserved
loop-name-preserved c =
    let last = c.loop-name.last.now in
    let name = c.in-Some-2.name.now in
    let value = c.in-Some-2.field-0-1.now in
    let rest = c.next-in-loop-name.new.self in
    let split : c.loop-name.name-iterator ≡ (name, value) ∷ rest = search rules in
    let below : text_cmp last name ≡ Less = lower _ (search rules) in
    let rising : is_sorted text_cmp c.args.pairs ≡ (below_all text_cmp name rest && is_sorted text_cmp rest) =
    c.loop-name.invariant.3
    ∙ ap (λ (pairs : List (List ℕ × List ℕ)). below_all text_cmp last pairs && is_sorted text_cmp pairs) split
    ∙ one_more_rises last (name, value) rest below in
    (tt, tt, search rules, rising)
