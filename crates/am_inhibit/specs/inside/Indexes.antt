-- How an inhibitor finds the sources of a target: for each rule, by the values that source and target have in
-- common. Only code of this crate cites it.
use Rattle.std.specs.Prelude.{◌≡◌, ◌-◌, ◌+◌, ℕ, zero, suc, Bool, false, not, ◌&&◌, if◌then◌else◌, List, []}
use Rattle.std.specs.Prelude.{◌∷◌, ◌++◌, map, take, length}
use Rattle.std.specs.List.{slice_get, AllByRecursion, IsDistinct}
use Rattle.std.specs.Map.{keys_of, lookup}
use Rattle.std.specs.Option.{option_map_or, unwrap_or}
use Rattle.am_alert.specs.declared.alert.Alert.{Alert}
use Rattle.am_alert.specs.Merging.{is_resolved_at}
use Rattle.am_labels.specs.LabelSets.{Labels, value_of}
use Rattle.am_matchers.specs.Matchers.{all_admitted}
use Rattle.am_config.specs.declared.inhibit_rule.InhibitRule.{InhibitRule}
use Rattle.am_inhibit.specs.declared.source.Source.{Source}
use Rattle.am_inhibit.specs.declared.source_index.SourceChange.{SourceChange}
use Rattle.am_inhibit.specs.declared.source_index.SourceChange.TheVariants.{Nothing, Begun, Joined}
use Rattle.am_inhibit.specs.inside.Sources.{same_values}

-- values, each with its sources
abbrev pub SourceEntries : Type 0
SourceEntries = List (List (List ℕ) × List Source)

-- a rule, with its sources by their values
pub record IndexView : Type 0 where
  pub rule : InhibitRule
  pub entries : SourceEntries

-- the values that a label set has for some names
abbrev pub values_of : List (List ℕ) → Labels → List (List ℕ)
values_of names labels = map (value_of labels) names

-- the source that a label set is
abbrev pub source_of : InhibitRule → ℕ → Labels → Source
source_of rule at labels = record { at = at; is_target = all_admitted rule.target labels }

-- entries, with one source more
abbrev pub with_source : List (List ℕ) → Source → SourceEntries → SourceEntries
with_source values source [] = (values, source ∷ []) ∷ []
with_source values source (entry ∷ entries) =
    if same_values values entry.0 then (entry.0, entry.1 ++ source ∷ []) ∷ entries
    else entry ∷ with_source values source entries

-- a rule's entries, with one label set more
abbrev pub with_labels : InhibitRule → ℕ → Labels → SourceEntries → SourceEntries
with_labels rule at labels entries =
    if all_admitted rule.source labels
    then with_source (values_of rule.equal labels) (source_of rule at labels) entries else entries

-- the sources that entries list for values
abbrev pub sources_listed : List (List ℕ) → SourceEntries → List Source
sources_listed values entries = unwrap_or (lookup (same_values values) entries) []

-- a rule's sources among some label sets that have the values, the label sets counted from a number
abbrev pub sources_from : InhibitRule → List (List ℕ) → ℕ → List Labels → List Source
sources_from rule values at [] = []
sources_from rule values at (labels ∷ rest) =
    if all_admitted rule.source labels && same_values values (values_of rule.equal labels)
    then source_of rule at labels ∷ sources_from rule values (at + 1) rest
    else sources_from rule values (at + 1) rest

-- an index lists for each values its rule's sources among some label sets that have them
abbrev pub IsSourceIndexOf : List Labels → IndexView → Type 0
IsSourceIndexOf sets index = IsDistinct same_values (keys_of index.entries)
    × ((values : List (List ℕ))
    → sources_listed values index.entries ≡ sources_from index.rule values 0 sets)

-- an index without a source
abbrev pub empty_index : InhibitRule → IndexView
empty_index rule = record { rule = rule; entries = [] }

-- one for each rule
abbrev pub empty_indexes : List InhibitRule → List IndexView
empty_indexes rules = map empty_index rules

-- the rules of indexes
abbrev pub rules_indexed : List IndexView → List InhibitRule
rules_indexed indexes = map (λ index. index.rule) indexes

-- the indexes of rules among some label sets
abbrev pub AreSourceIndexesOf : List InhibitRule → List Labels → List IndexView → Type 0
AreSourceIndexesOf rules sets indexes =
    (rules_indexed indexes ≡ rules) × AllByRecursion (IsSourceIndexOf sets) indexes

-- an index, with one label set more
abbrev pub index_with : ℕ → Labels → IndexView → IndexView
index_with at labels index =
    record index { entries = with_labels index.rule at labels index.entries }

-- entries without the last source of the one at an index
abbrev pub left_back : ℕ → SourceEntries → SourceEntries
left_back at [] = []
left_back zero (entry ∷ entries) = (entry.0, take (length entry.1 - 1) entry.1) ∷ entries
left_back (suc at) (entry ∷ entries) = entry ∷ left_back at entries

-- entries before their last change
abbrev pub entries_before : SourceChange → SourceEntries → SourceEntries
entries_before Nothing entries = entries
entries_before Begun entries = take (length entries - 1) entries
entries_before (Joined at) entries = left_back at entries

-- an index before its last change
abbrev pub index_before : SourceChange → IndexView → IndexView
index_before change index = record index { entries = entries_before change index.entries }

-- indexes before a change of each of the first ones
abbrev pub indexes_before : List SourceChange → List IndexView → List IndexView
indexes_before [] indexes = indexes
indexes_before (change ∷ changes) [] = []
indexes_before (change ∷ changes) (index ∷ indexes) =
    index_before change index ∷ indexes_before changes indexes

-- whether a source mutes a target, which may match the source side too
abbrev pub source_inhibits : Bool → ℕ → List Alert → Source → Bool
source_inhibits is_source now alerts source =
    option_map_or (λ alert. not (is_resolved_at now alert)) (slice_get alerts source.at) false
    && not (is_source && source.is_target)
