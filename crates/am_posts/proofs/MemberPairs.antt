-- Reading the members of an object one after another.
use Rattle.std.proofs.Common.{◌≡◌, ◌∙◌, ℕ, List, [], ◌∷◌, ◌++◌, Option, Some, None, refl, sym, ap, append_assoc, rules, String, string_bytes, Global}
use Rattle.std.specs.Prelude.{option_map, option_and_then}
use Rattle.serde_json.specs.Data.{Data, Members, member}
use Rattle.serde_json.specs.Find.{as_str}
use Rattle.serde_json.specs.View.{view}
use Rattle.serde_json.specs.declared.value.Value as value
use Rattle.am_posts.specs.Postables.{pairs_of}

pub string_read : (s : String Global) → as_str (view (value.String s)) ≡ Some (string_bytes s)
string_read s = search (rules, value.the_lemmas)

joined : {A : Type 0} (front : List A) (one : A) (rest : Option (List A)) → option_map (λ more. (front ++ one ∷ []) ++ more) rest ≡ option_map (λ more. front ++ more) (option_map (λ more. one ∷ more) rest)
joined front one None = refl
joined front one (Some more) = ap Some (append_assoc front (one ∷ []) more)

-- one more member was read
pub pair_joins : (front new : List (List ℕ × List ℕ)) (name text : List ℕ) (d : Data) (ms : Members) (all : Option (List (List ℕ × List ℕ)))
    → new ≡ front ++ (name, text) ∷ [] → as_str d ≡ Some text
    → option_map (λ more. front ++ more) (pairs_of (member name d ms)) ≡ all
    → option_map (λ more. new ++ more) (pairs_of ms) ≡ all
pair_joins front new name text d ms all grown reads so_far =
    ap (λ (pairs : List (List ℕ × List ℕ)). option_map (λ more. pairs ++ more) (pairs_of ms)) grown
    ∙ (joined front (name, text) (pairs_of ms)
    ∙ (ap (λ o. option_map (λ more. front ++ more) (option_and_then (λ pair. option_map (λ more. pair ∷ more) (pairs_of ms)) (option_map (λ t. (name, t)) o))) (sym reads) ∙ so_far))
