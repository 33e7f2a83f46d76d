-- The sources of rules by their values, as label sets are added and additions undone.
use Rattle.std.proofs.Common.{◌≡◌, ℕ, zero, suc, ◌+◌, ◌-◌, ◌<◌, true, false, ◌&&◌, cond, List, [], ◌∷◌, ◌++◌, map, length, take, set, get_or, Some, None, refl, sym, ap, ◌∙◌, arith, append-nil, length-append}
use Rattle.std.specs.Cmp.{unsigned_Decides}
use Rattle.std.specs.Cmp.Lexicographic.{pointwise_decides}
use Rattle.std.specs.List.{slice_get, position, AllByRecursion, IsDistinct}
use Rattle.std.specs.Map.{keys_of, values_of, lookup}
use Rattle.std.proofs.Math.Seq.{take-append_seam}
use Rattle.indexmap.specs.IndexMap.{insert_entry, set_value_at}
use Rattle.indexmap.proofs.MapLemmas.{Found-position, insert_entry-first}
use Rattle.am_labels.specs.LabelSets.{Labels}
use Rattle.am_matchers.specs.Matchers.{all_admitted}
use Rattle.am_config.specs.declared.inhibit_rule.InhibitRule.{InhibitRule}
use Rattle.am_inhibit.specs.declared.source.Source.{Source}
use Rattle.am_inhibit.specs.declared.source_index.SourceChange.{SourceChange}
use Rattle.am_inhibit.specs.inside.Sources.{same_values, values_equiv}
use Rattle.am_inhibit.specs.inside.Indexes.{SourceEntries, IndexView, values_of as values_for, source_of, with_source, with_labels, sources_listed, sources_from, IsSourceIndexOf, AreSourceIndexesOf, empty_indexes, rules_indexed, index_with, left_back, index_before, indexes_before}

pub take_last : {A : Type 0} (xs : List A) (x : A) → take (length (xs ++ x ∷ []) - 1) (xs ++ x ∷ []) ≡ xs
take_last xs x =
    let all : length (xs ++ x ∷ []) - 1 ≡ length xs = omega (arith, length-append xs (x ∷ [])) in
    ap (λ n. take n (xs ++ x ∷ [])) all ∙ take-append_seam xs (x ∷ [])

-- ---- one source

-- a source that is inserted for values that are there joins those that it is put behind
pub source_joins : (entries : SourceEntries) (values : List (List ℕ)) (source : Source) (sources : List Source) → lookup (same_values values) entries ≡ Some sources
    → insert_entry same_values entries values (sources ++ source ∷ []) ≡ with_source values source entries
source_joins [] values source sources found = absurd (cc)
source_joins (entry ∷ entries) values source sources found = let rest = source_joins entries values source sources in grind arith

-- one whose values aren't there begins them
pub source_begins : (entries : SourceEntries) (values : List (List ℕ)) (source : Source) → lookup (same_values values) entries ≡ None
    → with_source values source entries ≡ entries ++ (values, source ∷ []) ∷ []
source_begins [] values source missing = refl
source_begins (entry ∷ entries) values source missing = let rest = source_begins entries values source in grind arith

pub written_at : (entries : SourceEntries) (values : List (List ℕ)) (sources : List Source) (at : ℕ) → position (same_values values) (keys_of entries) ≡ Some at → set_value_at entries at sources ≡ insert_entry same_values entries values sources
written_at entries values sources at found = sym (insert_entry-first same_values values sources entries at (Found-position (same_values values) entries at found).first)

pub written_same : (entries : SourceEntries) (at : ℕ) (sources : List Source) → slice_get (values_of entries) at ≡ Some sources → set_value_at entries at sources ≡ entries
written_same [] at sources got = refl
written_same (entry ∷ entries) zero sources got = let same : sources ≡ entry.1 = (cc) in ap (λ l. (entry.0, l) ∷ entries) same
written_same (entry ∷ entries) (suc at) sources got = ap (λ rest. entry ∷ rest) (written_same entries at sources got)

-- what joined is left out again
pub joined_back : (entries : SourceEntries) (at : ℕ) (sources : List Source) (source : Source) → slice_get (values_of entries) at ≡ Some sources
    → left_back at (set_value_at entries at (sources ++ source ∷ [])) ≡ entries
joined_back [] at sources source got = refl
joined_back (entry ∷ entries) zero sources source got = grind (arith, take_last)
joined_back (entry ∷ entries) (suc at) sources source got = ap (λ rest. entry ∷ rest) (joined_back entries at sources source got)

pub last_left_out : (entries : SourceEntries) (at : ℕ) (sources : List Source) → slice_get (values_of entries) at ≡ Some sources
    → set_value_at entries at (take (length sources - 1) sources) ≡ left_back at entries
last_left_out [] at sources got = refl
last_left_out (entry ∷ entries) zero sources got = let same : sources ≡ entry.1 = (cc) in ap (λ (l : List Source). (entry.0, take (length l - 1) l) ∷ entries) same
last_left_out (entry ∷ entries) (suc at) sources got = ap (λ rest. entry ∷ rest) (last_left_out entries at sources got)

pub nothing_left_out : (entries : SourceEntries) (at : ℕ) → slice_get (values_of entries) at ≡ None → entries ≡ left_back at entries
nothing_left_out [] at past = refl
nothing_left_out (entry ∷ entries) zero past = absurd (cc)
nothing_left_out (entry ∷ entries) (suc at) past = ap (λ rest. entry ∷ rest) (nothing_left_out entries at past)

-- ---- all rules

-- the last of some changes, undone first
pub back_one : (changes : List SourceChange) (change : SourceChange) (indexes : List IndexView) (index : IndexView) → length changes < length indexes → index ≡ get_or indexes (length changes) index
    → indexes_before changes (set indexes (length changes) (index_before change index)) ≡ indexes_before (changes ++ change ∷ []) indexes
back_one changes change [] index early is = absurd (omega arith)
back_one [] change (first ∷ indexes) index early is = ap (λ i. index_before change i ∷ indexes) is
back_one (one ∷ changes) change (first ∷ indexes) index early is = let rest = back_one changes change indexes index in grind arith

-- ---- what is listed

pub same_are : (a b : List (List ℕ)) → same_values a b ≡ true → a ≡ b
same_are a b e = (pointwise_decides (pointwise_decides unsigned_Decides) a b).0 e

pub sources_listed-with : (wanted values : List (List ℕ)) (source : Source) (entries : SourceEntries) → sources_listed wanted (with_source values source entries) ≡ sources_listed wanted entries ++ cond (same_values wanted values) (source ∷ []) []
sources_listed-with wanted values source [] = grind arith
sources_listed-with wanted values source (entry ∷ entries) =
    let rest = sources_listed-with wanted values source entries in
    grind (arith, same_are, values_equiv, append-nil)

sources_listed-labels : (rule : InhibitRule) (values : List (List ℕ)) (at : ℕ) (labels : Labels) (entries : SourceEntries)
    → sources_listed values (with_labels rule at labels entries) ≡ sources_listed values entries ++ cond (all_admitted rule.source labels && same_values values (values_for rule.equal labels)) (source_of rule at labels ∷ []) []
sources_listed-labels rule values at labels entries = grind (arith, sources_listed-with, append-nil)

sources_from-push : (rule : InhibitRule) (values : List (List ℕ)) (at : ℕ) (sets : List Labels) (labels : Labels)
    → sources_from rule values at (sets ++ labels ∷ []) ≡ sources_from rule values at sets ++ cond (all_admitted rule.source labels && same_values values (values_for rule.equal labels)) (source_of rule (at + length sets) labels ∷ []) []
sources_from-push rule values at [] labels = grind arith
sources_from-push rule values at (first ∷ sets) labels =
    let rest = sources_from-push rule values (at + 1) sets labels in
    grind arith

-- ---- no values stand twice

none-with : (wanted values : List (List ℕ)) (source : Source) (entries : SourceEntries) → same_values wanted values ≡ false → AllByRecursion (λ other. same_values wanted other ≡ false) (keys_of entries)
    → AllByRecursion (λ other. same_values wanted other ≡ false) (keys_of (with_source values source entries))
none-with wanted values source [] unlike none = (unlike, tt)
none-with wanted values source (entry ∷ entries) unlike none = let rest = none-with wanted values source entries in grind arith

distinct-with : (values : List (List ℕ)) (source : Source) (entries : SourceEntries) → IsDistinct same_values (keys_of entries) → IsDistinct same_values (keys_of (with_source values source entries))
unfolding IsDistinct
distinct-with values source [] distinct = (tt, tt)
distinct-with values source (entry ∷ entries) distinct =
    let rest = distinct-with values source entries in
    grind (arith, none-with, values_equiv)

-- ---- one alert more

is_index-with : (sets : List Labels) (labels : Labels) (index : IndexView) → IsSourceIndexOf sets index → IsSourceIndexOf (sets ++ labels ∷ []) (index_with (length sets) labels index)
is_index-with sets labels index is = grind (arith, distinct-with, sources_listed-labels, sources_from-push)

rules_indexed-map : (f : IndexView → IndexView) (indexes : List IndexView) → ((index : IndexView) → (f index).rule ≡ index.rule) → rules_indexed (map f indexes) ≡ rules_indexed indexes
rules_indexed-map f [] same = refl
rules_indexed-map f (index ∷ indexes) same = ap (λ r. r ∷ rules_indexed (map f indexes)) (same index) ∙ ap (λ l. index.rule ∷ l) (rules_indexed-map f indexes same)

all_mapped : (f : IndexView → IndexView) (olds news : List Labels) (indexes : List IndexView) → ((index : IndexView) → IsSourceIndexOf olds index → IsSourceIndexOf news (f index)) → AllByRecursion (IsSourceIndexOf olds) indexes → AllByRecursion (IsSourceIndexOf news) (map f indexes)
all_mapped f olds news [] each all = tt
all_mapped f olds news (index ∷ indexes) each all = (each index all.0, all_mapped f olds news indexes each all.1)

-- the indexes of rules, each changed to that of other label sets
pub are_mapped : (rules : List InhibitRule) (f : IndexView → IndexView) (olds news : List Labels) (indexes : List IndexView) → ((index : IndexView) → (f index).rule ≡ index.rule) → ((index : IndexView) → IsSourceIndexOf olds index → IsSourceIndexOf news (f index))
    → AreSourceIndexesOf rules olds indexes → AreSourceIndexesOf rules news (map f indexes)
are_mapped rules f olds news indexes same each are = (rules_indexed-map f indexes same ∙ are.0, all_mapped f olds news indexes each are.1)

pub are_indexes-with : (rules : List InhibitRule) (sets : List Labels) (labels : Labels) (indexes : List IndexView) → AreSourceIndexesOf rules sets indexes → AreSourceIndexesOf rules (sets ++ labels ∷ []) (map (index_with (length sets) labels) indexes)
are_indexes-with rules sets labels indexes are =
    are_mapped rules (index_with (length sets) labels) sets (sets ++ labels ∷ []) indexes (λ index. refl) (is_index-with sets labels) are

rules_indexed-empty : (rules : List InhibitRule) → rules_indexed (empty_indexes rules) ≡ rules
rules_indexed-empty [] = refl
rules_indexed-empty (rule ∷ rules) = ap (λ l. rule ∷ l) (rules_indexed-empty rules)

all_empty : (rules : List InhibitRule) → AllByRecursion (IsSourceIndexOf []) (empty_indexes rules)
unfolding IsDistinct
all_empty [] = tt
all_empty (rule ∷ rules) = ((tt, λ values. refl), all_empty rules)

pub are_empty : (rules : List InhibitRule) → AreSourceIndexesOf rules [] (empty_indexes rules)
are_empty rules = (rules_indexed-empty rules, all_empty rules)
