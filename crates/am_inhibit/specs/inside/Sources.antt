-- The values by which sources are found, and how they are compared and hashed. Only code of this crate
-- cites it.
use Rattle.std.specs.Prelude.{◌≡◌, ℕ, true, Bool, List}
use Rattle.std.specs.Cmp.{IsEquivalence, IsPartialEquivalence}
use Rattle.std.specs.Cmp as Cmp
use Rattle.std.specs.Cmp.{unsigned_Decides}
use Rattle.std.specs.Cmp.Lexicographic.{pointwise_decides}
use Rattle.std.specs.Hash as fed
use Rattle.std.proofs.lemmas.Cmp.{nat_list_eq_equiv, lists_equiv}
use lib.Pointwise.{pointwise}
use Rattle.am_labels.specs.Texts.{same_text}

-- whether two lists of values are the same
abbrev pub same_values : List (List ℕ) → List (List ℕ) → Bool
same_values = pointwise same_text

-- what is hashed of values
abbrev pub values_fed : List (List ℕ) → fed.HashWrites
values_fed values = fed.slice fed.str values

-- the comparison is an equivalence
pub values_equiv : IsEquivalence same_values
values_equiv = lists_equiv nat_list_eq_equiv

-- and so a partial one
pub values_partial : IsPartialEquivalence same_values
values_partial = Cmp.partial_equiv_from_equiv values_equiv

-- the same values are hashed alike
pub values_alike : (a b : List (List ℕ)) → same_values a b ≡ true → values_fed a ≡ values_fed b
values_alike = (fed.items_Alike (fed.same_Alike fed.str (pointwise_decides unsigned_Decides))).fed
