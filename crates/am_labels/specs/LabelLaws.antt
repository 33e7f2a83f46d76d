-- The laws of label sets: of comparing and hashing them by their pairs in order, and of the pairs that they
-- are made of.
use Rattle.std.specs.Prelude.{◌≡◌, ℕ, ◌+◌, ◌*◌, ◌%◌, ◌^◌, true, List, ◌++◌, flat_map, length, refl, T}
use Rattle.std.proofs.Common.{ap, sym, ◌∙◌}
use Rattle.std.specs.Ordering.{as_partial_cmp, ordering_then, eq_by_cmp}
use Rattle.std.specs.Bool.{Decides}
use Rattle.std.specs.declared.cmp.Ordering.{Ordering}
use Rattle.std.specs.Cmp.{IsTotalOrder, IsEquivalence, IsPartialEquivalence, IsPartialOrder}
use Rattle.std.specs.Cmp as Cmp
use Rattle.std.specs.Cmp.Lexicographic.{slice_cmp, lists_ties, texts_ties, pointwise_decides}
use Rattle.std.specs.Cmp.{unsigned_Decides}
use Rattle.std.specs.Hash as fed
use Rattle.std.specs.FinMap.{entries, same_entries_map}
use Rattle.std.specs.FinMap.Entries.{is_sorted}
use Rattle.std.proofs.lemmas.Cmp.{nat_list_cmp_total, nat_list_eq_equiv, lists_total, lists_equiv, on_total}
use Rattle.std.proofs.lemmas.Cmp.{on_equiv, then_total, and_equiv}
use Rattle.am_labels.specs.LabelSets.{Labels, last_holds, same_pair, same_labels}
use Rattle.std.specs.Hash.FoldHasher as folding
use Rattle.std.specs.List.{fold}
use Rattle.am_labels.specs.Texts.{text_cmp, same_text}

-- the order of pairs: by their names, and then by their values
abbrev pub pair_cmp : List ℕ × List ℕ → List ℕ × List ℕ → Ordering
pair_cmp p q = ordering_then (text_cmp p.0 q.0) (text_cmp p.1 q.1)

-- the order of label sets, by their pairs in byte order of names (`labels.Compare` in Prometheus)
abbrev pub labels_cmp : Labels → Labels → Ordering
labels_cmp a b = slice_cmp pair_cmp (entries a) (entries b)

-- each name with its value after it, one pair after another
abbrev pub concatenated : List (List ℕ × List ℕ) → List ℕ
concatenated pairs = flat_map (λ p. p.0 ++ p.1) pairs

-- the lengths of a name and of its value in one number
abbrev pub lengths_of : List ℕ × List ℕ → ℕ
lengths_of p = (length p.0 * 2 ^ 32 % 2 ^ 64 + length p.1) % 2 ^ 64

-- what names and their values feed a hasher: all as one text, and the lengths of each pair
abbrev pub pairs_fed : List (List ℕ × List ℕ) → fed.HashWrites
pairs_fed pairs = fed.str (concatenated pairs) ++ fed.slice (λ p. fed.u64 (lengths_of p)) pairs

-- the hash that a label set keeps of its names and values
unfoldable pub pairs_hash : List (List ℕ × List ℕ) → ℕ
pairs_hash pairs = folding.finish (fold folding.write folding.initial (pairs_fed pairs))

-- a label set is hashed by the hash that it keeps
abbrev pub labels_fed : Labels → fed.HashWrites
labels_fed a = fed.u64 (pairs_hash (entries a))

-- `same_pair` is an equivalence
pub pairs_equiv : IsEquivalence same_pair
pairs_equiv = and_equiv (on_equiv (λ p. p.0) nat_list_eq_equiv) (on_equiv (λ p. p.1) nat_list_eq_equiv)

-- `same_labels` is an equivalence, for `Eq`
pub labels_equiv : IsEquivalence same_labels
labels_equiv = on_equiv entries (lists_equiv pairs_equiv)

-- `same_labels` is a partial equivalence, for `PartialEq`
pub labels_partial : IsPartialEquivalence same_labels
labels_partial = Cmp.partial_equiv_from_equiv labels_equiv

-- `labels_cmp` is a total order, for `Ord`
pub labels_total : IsTotalOrder labels_cmp
labels_total =
    on_total entries (lists_total
    (then_total (on_total (λ p. p.0) nat_list_cmp_total) (on_total (λ p. p.1) nat_list_cmp_total)))

-- the label sets that tie in `labels_cmp` are those that are the same
pub labels_ties : (a b : Labels) → same_labels a b ≡ eq_by_cmp labels_cmp a b
labels_ties a b =
    lists_ties pair_cmp
    (λ p q. Cmp.both_tied _ _ (text_cmp p.0 q.0) (text_cmp p.1 q.1) (texts_ties p.0 q.0) (texts_ties p.1 q.1))
    (entries a) (entries b)

-- `labels_cmp` is a partial order too, for `PartialOrd`
pub labels_order : IsPartialOrder same_labels (as_partial_cmp labels_cmp)
labels_order = Cmp.partial_order_from_agreeing_total labels_cmp labels_total (λ a b. refl) labels_ties

-- only equal pairs are the same
pairs_decide : (p q : List ℕ × List ℕ) → Decides (same_pair p q) (p ≡ q)
pairs_decide p q = (
  λ h i. (
    (pointwise_decides unsigned_Decides p.0 q.0).0
        (Cmp.first_so (same_text p.0 q.0) (same_text p.1 q.1) h) i,
    (pointwise_decides unsigned_Decides p.1 q.1).0
        (Cmp.second_so (same_text p.0 q.0) (same_text p.1 q.1) h) i,
  ),
  λ e. ap (λ r. same_pair p r) (sym e) ∙ pairs_equiv.refl p,
)

-- only equal label sets are the same
pub labels_decide : (a b : Labels) → Decides (same_labels a b) (a ≡ b)
labels_decide a b = (
  λ h. same_entries_map a b ((pointwise_decides pairs_decide (entries a) (entries b)).0 h),
  λ e. ap (λ c. same_labels a c) (sym e) ∙ labels_equiv.refl a,
)

-- label sets that are the same feed a hasher alike, for `Hash`
pub labels_alike : (a b : Labels) → same_labels a b ≡ true → labels_fed a ≡ labels_fed b
labels_alike = (fed.same_Alike labels_fed labels_decide).fed

-- pairs in byte order of names, each name once, are the entries of their label set
abbrev pub OrderedPairsAreEntries : Type 0
OrderedPairsAreEntries =
    (pairs : List (List ℕ × List ℕ)) → T (is_sorted text_cmp pairs) → entries (last_holds pairs) ≡ pairs
