-- The elements of an array, as the program holds them.
use Rattle.std.proofs.Common.{◌≡◌, ℕ, zero, suc, List, [], ◌∷◌, length, get_or, map, refl, ap, ◌∙◌, arith}
use Rattle.serde_json.specs.Data.{Data}
use Rattle.serde_json.specs.View.{view, items_of, items_view}
use Rattle.serde_json.specs.declared.value.Value.{Value}
use Rattle.am_config.specs.RouteReadings.{elements}

elements-items_of : (ds : List Data) → elements (items_of ds) ≡ ds
elements-items_of [] = refl
elements-items_of (d ∷ ds) = ap (λ rest. d ∷ rest) (elements-items_of ds)

pub elements-items_view : (vs : List Value) → elements (items_view vs) ≡ map view vs
elements-items_view vs = elements-items_of (map view vs)

map_length : (vs : List Value) → length (map view vs) ≡ length vs
map_length [] = refl
map_length (v ∷ vs) = ap suc (map_length vs)

map_get_or : (vs : List Value) (i : ℕ) (v : Value) → get_or (map view vs) i (view v) ≡ view (get_or vs i v)
map_get_or [] i v = refl
map_get_or (first ∷ vs) zero v = refl
map_get_or (first ∷ vs) (suc i) v = map_get_or vs i v

pub length-elements : (vs : List Value) → length (elements (items_view vs)) ≡ length vs
length-elements vs = ap length (elements-items_view vs) ∙ map_length vs

-- the element at an index
pub element_at : (vs : List Value) (i : ℕ) (v d : Value) → v ≡ get_or vs i d → view v ≡ get_or (elements (items_view vs)) i (view d)
element_at vs i v d here = grind (arith, elements-items_view, map_get_or)
