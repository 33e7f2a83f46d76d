-- Patterns that choose among texts, as `api|web` does. Only code of this crate cites it.
use Rattle.std.specs.Prelude.{◌≡◌, ◌⊎◌, ◌<◌, ℕ, Bool, is_some, get_or, List, [], ◌∷◌, ◌++◌, map, Vec}
use Rattle.std.specs.List.{flat_map, list_any}
use Rattle.std.specs.Str.{IsUtf8}
use Rattle.std.specs.declared.alloc.Global.{Global}
use Rattle.regex.specs.Failures.{IsPattern}
use Rattle.regex.specs.Patterns.{Re, Matches, literal, find_str, default_config}
use Rattle.am_labels.specs.Texts.{same_text}
use Rattle.am_matchers.specs.Matchers.{finds}

-- the bytes of each text
abbrev pub kept_texts : List (Vec ℕ Global) → List (List ℕ)
kept_texts texts = map (λ text. text.items) texts

-- whether a text is one of some
abbrev pub is_one_of : List ℕ → List (List ℕ) → Bool
is_one_of text texts = list_any (λ one. same_text one text) texts

-- one of some texts is what a text has from one place to another
abbrev pub OneStands : List ℕ → List (List ℕ) → ℕ → ℕ → Type 0
OneStands whole [] from to = ⊥
OneStands whole (text ∷ texts) from to =
    Matches whole (literal text) from to ⊎ OneStands whole texts from to

-- a pattern matches where one of some texts is found, and nowhere else
abbrev pub ChoosesAmong : List (List ℕ) → Re → Type 0
ChoosesAmong texts pattern = (whole : List ℕ) → (from to : ℕ) →
    (Matches whole pattern from to → OneStands whole texts from to)
    × (OneStands whole texts from to → Matches whole pattern from to)

-- each of some texts followed by each of others
abbrev pub crossed : List (List ℕ) → List (List ℕ) → List (List ℕ)
crossed firsts seconds = flat_map (λ first. map (λ second. first ++ second) seconds) firsts

-- a pattern is found in these texts and in no others
abbrev pub FindsOneOf : List (List ℕ) → Re → Type 0
FindsOneOf texts pattern = (text : List ℕ) → IsUtf8 text → ((at : ℕ) → get_or text at 0 < 256) →
    is_some (find_str pattern text 0) ≡ is_one_of text texts

-- a source is read as a pattern that is found in these texts and in no others
abbrev pub IsChoiceIn : List ℕ → List (List ℕ) → Type 0
IsChoiceIn source texts = IsPattern default_config source
    × ((text : List ℕ) → IsUtf8 text → ((at : ℕ) → get_or text at 0 < 256)
    → finds source text ≡ is_one_of text texts)
