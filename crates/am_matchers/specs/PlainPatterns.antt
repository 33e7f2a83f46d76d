-- Patterns that are written as plain texts with `|` between them, as `web|api`: they admit these texts.
use Rattle.std.specs.Prelude.{◌≡◌, ℕ, Bool, true, not, ◌&&◌, nat_lt, All, List, [], ◌∷◌, ◌++◌, map}
use Rattle.std.specs.List.{list_all, list_any}
use Rattle.regex_syntax.specs.Reading.{◌∈◌}
use Rattle.am_matchers.specs.Matchers.{anchored, finds}
use Rattle.am_labels.specs.Texts.{same_text}

-- a character with a meaning of its own in a pattern
abbrev pub is_special : ℕ → Bool
is_special c = c ∈ "\\.+*?()|[]{}^$"

-- a text of ASCII that has none of them
abbrev pub is_plain : List ℕ → Bool
is_plain text = list_all (λ c. nat_lt c 128 && not (is_special c)) text

-- a text, and others with `|` before each
abbrev pub with_bars : List ℕ → List (List ℕ) → List ℕ
with_bars text [] = text
with_bars text (other ∷ others) = text ++ 0x7C ∷ with_bars other others

-- a pattern of plain texts with `|` between them is found in these texts and in no others
abbrev pub PlainTextsAreChosen : Type 0
PlainTextsAreChosen =
    (text : List ℕ) (others : List (List ℕ)) → All (λ one. is_plain one ≡ true) (text ∷ others)
    → (found : List ℕ)
    → finds (anchored (with_bars text others)) found ≡ list_any (λ one. same_text one found) (text ∷ others)

-- such a pattern in a group, between two texts
abbrev pub in_a_group : List ℕ → List ℕ → List ℕ → List ℕ
in_a_group front back inside = front ++ 0x28 ∷ (inside ++ 0x29 ∷ back)

-- each of some texts between two others
abbrev pub between_texts : List ℕ → List ℕ → List (List ℕ) → List (List ℕ)
between_texts front back texts = map (λ one. front ++ one) (map (λ one. one ++ back) texts)

-- such a pattern in a group, as `s2-(web|api)`, is found in the texts that it puts together, and in no others
abbrev pub PlainGroupsAreChosen : Type 0
PlainGroupsAreChosen =
    (front back text : List ℕ) (others : List (List ℕ)) → is_plain front ≡ true → is_plain back ≡ true
    → All (λ one. is_plain one ≡ true) (text ∷ others)
    → (found : List ℕ)
    → finds (anchored (in_a_group front back (with_bars text others))) found
    ≡ list_any (λ one. same_text one found) (between_texts front back (text ∷ others))
