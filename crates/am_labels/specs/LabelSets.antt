-- A label set is a finite map from names to values, both texts (Alertmanager's `model.LabelSet`).
use Rattle.std.specs.Prelude.{ℕ, Bool, ◌&&◌, List, [], reverse, unwrap_or, String, string_bytes}
use Rattle.std.specs.declared.alloc.Global.{Global}
use Rattle.std.specs.Coded.{Coded, coded_list, coded_ℕ}
use Rattle.std.specs.FinMap.{FinMap, entries, get, from_entries, code}
use lib.Pointwise.{pointwise}
use Rattle.am_labels.specs.Texts.{text_cmp, same_text}

-- a label set: a finite map of texts, whose entries are in the byte order of their names
-- (`model.LabelSet`)
abbrev pub Labels : Type 0
Labels = FinMap text_cmp (List ℕ)

-- a label set as its entries, in which models store it
abbrev pub coded_labels : Coded Labels
coded_labels = code (coded_list coded_ℕ) (coded_list coded_ℕ)

-- the value of a name, empty if the name is missing (`model.LabelSet`'s look-up in a Go map)
abbrev pub value_of : Labels → List ℕ → List ℕ
value_of labels name = unwrap_or (get labels name) []

-- the map of some pairs, in which of pairs with one name the last holds: `from_entries` keeps the first
-- that it meets
abbrev pub last_holds : List (List ℕ × List ℕ) → Labels
last_holds pairs = from_entries (reverse pairs)

-- a pair of strings, as their bytes
abbrev pub bytes_of : String Global × String Global → List ℕ × List ℕ
bytes_of pair = (string_bytes pair.0, string_bytes pair.1)

-- whether two pairs have the same name and the same value
abbrev pub same_pair : List ℕ × List ℕ → List ℕ × List ℕ → Bool
same_pair p q = same_text p.0 q.0 && same_text p.1 q.1

-- whether two label sets have the same names with the same values (`model.LabelSet.Equal`)
abbrev pub same_labels : Labels → Labels → Bool
same_labels a b = pointwise same_pair (entries a) (entries b)
