-- The tokens of names and values, and of parts that are written one after another.
use Rattle.std.proofs.Common.{◌≡◌, ◌∙◌, ℕ, List, [], ◌∷◌, ◌++◌, ap, flat_map, map, refl}
use mathlib.Core.List.{append_assoc}
use Rattle.json.specs.Json.{string}
use Rattle.json.specs.Token.{Token, key, end_array, end_object}
use Rattle.json.specs.Token as token
use Rattle.json.specs.Tree.{items_tokens, members_tokens}
use Rattle.am_script.specs.JsonLines.{items_of_texts, members_of_pairs, named}

-- what follows a part that was added follows it after what was there before
pub and_then : (old new part rest : List Token) → new ≡ old ++ part → new ++ rest ≡ old ++ (part ++ rest)
and_then old new part rest added = ap (λ (tokens : List Token). tokens ++ rest) added ∙ append_assoc old part rest

-- a member for each pair, and then the brace that closes them
pub tokens_of_pairs : (pairs : List (List ℕ × List ℕ))
    → flat_map (λ pair. named pair.0 (string pair.1)) pairs ++ end_object ∷ [] ≡ members_tokens (members_of_pairs pairs)
tokens_of_pairs [] = refl
tokens_of_pairs (pair ∷ pairs) = ap (λ (rest : List Token). key pair.0 ∷ token.string pair.1 ∷ rest) (tokens_of_pairs pairs)

-- an element for each text, and then the bracket that closes them
pub tokens_of_texts : (texts : List (List ℕ)) → map token.string texts ++ end_array ∷ [] ≡ items_tokens (items_of_texts texts)
tokens_of_texts [] = refl
tokens_of_texts (text ∷ texts) = ap (λ (rest : List Token). token.string text ∷ rest) (tokens_of_texts texts)
