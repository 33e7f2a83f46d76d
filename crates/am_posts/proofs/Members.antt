-- Removing a member of an object.
use Rattle.std.proofs.Common.{◌≡◌, ℕ, List, [], ◌∷◌, String, refl, sym, ap, ◌∙◌, cond, Less, Equal, Greater, Some, nat_cmp, string_bytes, arith}
use Rattle.std.specs.Ordering.{is_eq, match_ordering}
use Rattle.std.specs.declared.cmp.Ordering.{Ordering}
use Rattle.std.specs.Cmp.Lexicographic.{slice_cmp}
use Rattle.std.specs.FinMap.{slice_cmp-IsAntisymmetric, nat_cmp-IsAntisymmetric}
use Rattle.std.specs.declared.alloc.Global.{Global}
use Rattle.std.specs.BTreeMap.{is_at}
use Rattle.std.specs.Map.{remove_entry}
use Rattle.serde_json.specs.Find.{get_member}
use Rattle.serde_json.specs.View.{view, members_view}
use Rattle.serde_json.specs.declared.value.Value.{Value}
use Rattle.serde_json.proofs.Views.{member_later}

-- the entries without the first of a name
abbrev without : List ℕ → List (String Global × Value) → List (String Global × Value)
without name = remove_entry (is_at (λ k. slice_cmp nat_cmp name (string_bytes k)))

-- one entry, by how its name compares to the one that goes
one_less : (o : Ordering) (name other : List ℕ) (e : String Global × Value) (es rest : List (String Global × Value))
    → slice_cmp nat_cmp name (string_bytes e.0) ≡ o → (other ≡ name → ⊥)
    → get_member other (members_view rest) ≡ get_member other (members_view es)
    → get_member other (members_view (cond (is_eq o) es (e ∷ rest))) ≡ get_member other (members_view (e ∷ es))
one_less Less name other e es rest is apart more = ap (λ r. match_ordering (slice_cmp nat_cmp other (string_bytes e.0)) r (Some (view e.1)) r) more
one_less Equal name other e es rest is apart more =
    sym (member_later other e es (λ same. apart (same ∙ sym (slice_cmp-IsAntisymmetric nat_cmp-IsAntisymmetric name (string_bytes e.0) is))))
one_less Greater name other e es rest is apart more = ap (λ r. match_ordering (slice_cmp nat_cmp other (string_bytes e.0)) r (Some (view e.1)) r) more

-- a member's removal leaves those of other names
pub others_stay : (name other : List ℕ) (es : List (String Global × Value)) → (other ≡ name → ⊥)
    → get_member other (members_view (remove_entry (is_at (λ k. slice_cmp nat_cmp name (string_bytes k))) es)) ≡ get_member other (members_view es)
others_stay name other [] apart = refl
others_stay name other (e ∷ es) apart = let rest = others_stay name other es in grind (arith, one_less)
