use Rattle.std.proofs.Common.{◌≡◌, ◌∙◌, ◌∷◌, ◌++◌, [], List, ℕ, sym, rules, append_assoc, arith}
use Rattle.std.proofs.lemmas.Grind.{common_steps}
use Rattle.std.specs.FinMap.{entries}
use Rattle.std.specs.BTreeMap.{insert_entry}
use Rattle.am_labels.specs.Texts.{text_cmp}
use Rattle.am_labels.specs.LabelSets.{last_holds}
use Rattle.am_labels.proofs.LabelSets.LabelMaps.{entries_empty, last_push}
use Rattle.am_labels.proofs.label_set.last_of_each.Goals as goal

pub loop-name-init : goal.loop-name-init
loop-name-init c = (tt, tt, ([], search rules, c.new-sorted.ensures.empty ∙ sym entries_empty))

-- with one pair more
one_more : (all done rest : List (List ℕ × List ℕ)) (name value : List ℕ) (left sorted new : List (List ℕ × List ℕ))
    → all ≡ done ++ left → left ≡ (name, value) ∷ rest → sorted ≡ entries (last_holds done) → new ≡ insert_entry text_cmp sorted name value
    → (d : List (List ℕ × List ℕ)) × (all ≡ d ++ rest) × (new ≡ entries (last_holds d))
one_more all done rest name value left sorted new split first so_far put = grind (arith, common_steps, append_assoc, last_push)

pub loop-name-preserved-in_ok-insert : goal.loop-name-preserved-in_ok-insert
loop-name-preserved-in_ok-insert c =
    let so_far = c.loop-name.invariant.2 in (
      tt,
      tt,
      one_more c.args.pairs so_far.0 c.next.new.self c.in-Some.name.now c.in-Some.value.now c.loop-name.name-iterator c.loop-name.sorted.entries _ so_far.1 (search rules) so_far.2 (search rules),
    )

pub loop-name-preserved : goal.loop-name-preserved
loop-name-preserved c =
    let so_far = c.loop-name.invariant.2 in (
      tt,
      tt,
      one_more c.args.pairs so_far.0 c.next.new.self c.in-Some.name.now c.in-Some.value.now c.loop-name.name-iterator c.loop-name.sorted.entries _ so_far.1 (search rules) so_far.2 (search rules),
    )
