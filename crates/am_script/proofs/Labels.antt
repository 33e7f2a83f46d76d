-- A label with a value joins those before it.
use Rattle.std.proofs.Common.{◌≡◌, ℕ, List, [], ◌∷◌, ◌++◌, Option, Some, None, true, cond, refl, sym, ap, ◌∙◌, append_assoc}
use Rattle.std.specs.Prelude.{option_map, option_and_then, filter}
use Rattle.serde_json.specs.Data.{Data, Members, member}
use Rattle.serde_json.specs.Find.{as_str}
use Rattle.am_posts.specs.Postables.{pairs_of, has_value}

kept : (front : List (List ℕ × List ℕ)) (pair : List ℕ × List ℕ) (rest : Option (List (List ℕ × List ℕ))) → has_value pair ≡ true
    → option_map (λ pairs. (front ++ pair ∷ []) ++ filter has_value pairs) rest ≡ option_map (λ pairs. front ++ filter has_value pairs) (option_map (λ pairs. pair ∷ pairs) rest)
kept front pair None has = refl
kept front pair (Some pairs) has =
    ap Some (append_assoc front (pair ∷ []) (filter has_value pairs)
    ∙ ap (λ b. front ++ cond b (pair ∷ filter has_value pairs) (filter has_value pairs)) (sym has))

-- one more member was read, which has a value
pub label_kept : (front new : List (List ℕ × List ℕ)) (name text : List ℕ) (d : Data) (ms : Members) (all : Option (List (List ℕ × List ℕ)))
    → new ≡ front ++ (name, text) ∷ [] → as_str d ≡ Some text → has_value (name, text) ≡ true
    → option_map (λ pairs. front ++ filter has_value pairs) (pairs_of (member name d ms)) ≡ all
    → option_map (λ pairs. new ++ filter has_value pairs) (pairs_of ms) ≡ all
label_kept front new name text d ms all grown reads has so_far =
    ap (λ (ps : List (List ℕ × List ℕ)). option_map (λ pairs. ps ++ filter has_value pairs) (pairs_of ms)) grown
    ∙ (kept front (name, text) (pairs_of ms) has
    ∙ (ap (λ o. option_map (λ pairs. front ++ filter has_value pairs) (option_and_then (λ pair. option_map (λ pairs. pair ∷ pairs) (pairs_of ms)) (option_map (λ t. (name, t)) o))) (sym reads) ∙ so_far))

-- a text that isn't empty is a value
pub value_is_there : (name text : List ℕ) → (text ≡ [] → ⊥) → has_value (name, text) ≡ true
value_is_there name [] some = absurd (some refl)
value_is_there name (byte ∷ bytes) some = refl
