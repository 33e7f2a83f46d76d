-- The labels of some names, among the pairs of a label set.
use Rattle.std.proofs.Common.{◌≡◌, ℕ, Bool, cond, List, None, filter, sym, ap, ◌∙◌}
use Rattle.std.specs.FinMap.{entries, retain_keys, entries_sorted, get-entries, get-retain_keys, same_map, slice_cmp-IsAntisymmetric, nat_cmp-IsAntisymmetric}
use Rattle.std.specs.FinMap.Entries.{find, is_sorted-where_key, find-where_key}
use Rattle.std.proofs.lemmas.Cmp.{nat_list_cmp_total}
use Rattle.std.specs.declared.cmp.Ordering.TheVariants.{Equal}
use Rattle.am_labels.specs.Texts.{text_cmp}
use Rattle.am_labels.specs.LabelSets.{Labels, last_holds}
use Rattle.am_labels.specs.LabelLaws.{OrderedPairsAreEntries}

-- those pairs of a label set whose names pass a test, in order, are the label set of those names
pub last_holds-filter : OrderedPairsAreEntries → (labels : Labels) (test : List ℕ → Bool) → last_holds (filter (λ (pair : List ℕ × List ℕ). test pair.0) (entries labels)) ≡ retain_keys labels test
last_holds-filter law labels test =
    let pairs = filter (λ (pair : List ℕ × List ℕ). test pair.0) (entries labels) in
    let alike = λ (q x : List ℕ) (e : text_cmp q x ≡ Equal). ap test (sym (slice_cmp-IsAntisymmetric nat_cmp-IsAntisymmetric q x e)) in
    same_map nat_list_cmp_total (slice_cmp-IsAntisymmetric nat_cmp-IsAntisymmetric) (last_holds pairs) (retain_keys labels test)
    (λ q.
    get-entries (last_holds pairs) q
    ∙ (ap (find text_cmp q) (law pairs (is_sorted-where_key text_cmp test (entries labels) (entries_sorted labels)))
    ∙ (find-where_key text_cmp test q (alike q) (entries labels)
    ∙ (ap (λ found. cond (test q) found None) (sym (get-entries labels q))
    ∙ sym (get-retain_keys labels test q (alike q))))))
