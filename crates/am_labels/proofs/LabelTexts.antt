-- What is read of the text that a label set prints.
use Rattle.std.proofs.Common.{◌≡◌, ◌≢◌, ◌∙◌, ℕ, ◌<◌, Bool, true, false, cond, List, [], ◌∷◌, ◌++◌, length, map, refl, sym, ap, arith, append-nil, append_assoc}
use Rattle.std.specs.List.{list_all, list_any, flat_map}
use Rattle.std.specs.FinMap.{entries, same_entries_map}
use Rattle.std.proofs.lemmas.Bool.{false≢true}
use Rattle.std.proofs.lemmas.Bool.Decides.{nat_tests}
use Rattle.std.proofs.lemmas.Grind.{flat_map-append}
use Rattle.std.proofs.lemmas.List.{length-append}
use Rattle.std.proofs.lemmas.List.Folds.{list_any-append}
use Rattle.am_labels.specs.LabelSets.{Labels, last_holds}
use Rattle.am_labels.specs.Printing.{escaped_all, is_classic_name, is_name_byte, is_name_start, labels_text, name_text, pair_text, pairs_text, quoted}
use Rattle.am_labels.specs.Letters.{Letter, begins, is_bare_quote, letters, meant, plain, spelled, IsMeantUntil, IsMeantWhole, IsNameThen}
use Rattle.am_labels.proofs.LabelSets.LabelMaps.{entries_rising, sorted_entries}
use Rattle.am_labels.proofs.LetterTexts.Spelling.{letters_spell}
use Rattle.am_labels.proofs.LetterTexts.Quotes.{letter_for, meant_back, none_bare, written}
use Rattle.am_labels.proofs.LetterTexts.Stretches.{both}
use Rattle.am_labels.proofs.LetterTexts.Names.{one_name}
use Rattle.am_labels.proofs.LetterTexts.Quotes.{first_bare, quote_first}

letters_closed : (value tail : List ℕ) → letters (escaped_all value ++ 34 ∷ tail) ≡ map letter_for value ++ plain 34 ∷ letters tail
letters_closed value tail = written value (34 ∷ tail) ∙ ap (λ (end : List Letter). map letter_for value ++ end) (quote_first tail)

same_letters : (a b : List ℕ) → letters a ≡ letters b → a ≡ b
same_letters a b e = sym (letters_spell a) ∙ (ap (flat_map spelled) e ∙ letters_spell b)

-- the quote after a text is the first bare one
pub closes : (value tail rest got : List ℕ) → IsMeantUntil (escaped_all value ++ 34 ∷ tail) rest got → (got ≡ value) × (rest ≡ tail)
closes value tail rest got until =
    let same = first_bare until.0 (map letter_for value) (letters rest) (letters tail) until.2 (none_bare value) (sym until.1 ∙ letters_closed value tail) in
    (until.3 ∙ (ap (map meant) same.0 ∙ meant_back value), same_letters rest tail same.1)

-- and there is one
pub is_closed : (value tail got : List ℕ) → IsMeantWhole (escaped_all value ++ 34 ∷ tail) got → ⊥
is_closed value tail got whole =
    false≢true (sym whole.0 ∙ (ap (list_any is_bare_quote) (letters_closed value tail)
    ∙ (list_any-append is_bare_quote (map letter_for value) (plain 34 ∷ letters tail) ∙ rw (none_bare value) refl)))

until_split : (text rest value : List ℕ) (until : IsMeantUntil text rest value) → text ≡ flat_map spelled until.0 ++ 34 ∷ rest
until_split text rest value until =
    sym (letters_spell text) ∙ (ap (flat_map spelled) until.1 ∙ (flat_map-append spelled until.0 (plain 34 ∷ letters rest)
    ∙ ap (λ (end : List ℕ). flat_map spelled until.0 ++ 34 ∷ end) (letters_spell rest)))

pub until_shorter : (text rest value : List ℕ) → IsMeantUntil text rest value → length rest < length text
until_shorter text rest value until =
    omega (arith, ap length (until_split text rest value until), length-append (flat_map spelled until.0) (34 ∷ rest))

-- a name in quotes, and no other, begins with a quote
quoted_step : (b : Bool) (name rest inner : List ℕ) → is_classic_name name ≡ b → 34 ∷ inner ≡ cond b name (quoted name) ++ 61 ∷ rest → inner ≡ escaped_all name ++ 34 ∷ 61 ∷ rest
quoted_step true [] rest inner classic e = absurd (false≢true classic)
quoted_step true (x ∷ xs) rest inner classic e =
    let starts = (both (is_name_start x) (list_all is_name_byte xs) classic).0 in
    let first : x ≡ 34 = cc in
    grind (arith, nat_tests)
quoted_step false name rest inner other e = grind (arith, append_assoc)

pub name_quoted : (text name rest inner : List ℕ) → text ≡ 34 ∷ inner → text ≡ name_text name ++ 61 ∷ rest → inner ≡ escaped_all name ++ 34 ∷ 61 ∷ rest
name_quoted text name rest inner starts e = quoted_step (is_classic_name name) name rest inner refl (sym starts ∙ e)

plain_step : (b : Bool) (text name rest : List ℕ) → is_classic_name name ≡ b → ((inner : List ℕ) → text ≢ 34 ∷ inner) → text ≡ cond b name (quoted name) ++ 61 ∷ rest → (is_classic_name name ≡ true) × (text ≡ name ++ 61 ∷ rest)
plain_step true text name rest classic none e = (classic, e)
plain_step false text name rest other none e = absurd (none _ e)

name_plain : (text name rest : List ℕ) → ((inner : List ℕ) → text ≢ 34 ∷ inner) → text ≡ name_text name ++ 61 ∷ rest → (is_classic_name name ≡ true) × (text ≡ name ++ 61 ∷ rest)
name_plain text name rest none e = plain_step (is_classic_name name) text name rest refl none e

pub plain_read : (text name rest got left : List ℕ) → ((inner : List ℕ) → text ≢ 34 ∷ inner) → text ≡ name_text name ++ 61 ∷ rest → IsNameThen text got left → (got ≡ name) × (left ≡ 61 ∷ rest)
plain_read text name rest got left none e named =
    let is = name_plain text name rest none e in
    one_name text (name ++ 61 ∷ rest) got name left (61 ∷ rest) is.1 named (refl, is.0, refl)

plain_begins : (name rest : List ℕ) → is_classic_name name ≡ true → begins is_name_start (name ++ 61 ∷ rest) ≡ true
plain_begins [] rest classic = absurd (false≢true classic)
plain_begins (x ∷ xs) rest classic = (both (is_name_start x) (list_all is_name_byte xs) classic).0

pub name_begins : (text name rest : List ℕ) → ((inner : List ℕ) → text ≢ 34 ∷ inner) → text ≡ name_text name ++ 61 ∷ rest → begins is_name_start text ≡ false → ⊥
name_begins text name rest none e other =
    let is = name_plain text name rest none e in
    false≢true (sym other ∙ (ap (begins is_name_start) is.1 ∙ plain_begins name rest is.0))

-- a pair is its name, an equals sign, and its value in quotes
pub pair_split : (pair : List ℕ × List ℕ) (rest : List ℕ) → pair_text pair ++ rest ≡ name_text pair.0 ++ 61 ∷ (34 ∷ (escaped_all pair.1 ++ 34 ∷ rest))
pair_split pair rest = grind (arith, append_assoc)

-- what a text that is printed of a label set has left, after the pairs that were read
abbrev pub Remains : List ℕ → List (List ℕ × List ℕ) → List ℕ → Type 0
Remains text read rest =
    (labels : Labels) → labels_text labels ≡ text
    → (left : List (List ℕ × List ℕ)) × (entries labels ≡ read ++ left) × (rest ≡ pairs_text left ++ 125 ∷ [])

-- what follows the first of the pairs that are left
abbrev after_text : List (List ℕ × List ℕ) → List ℕ
after_text [] = 125 ∷ []
after_text (pair ∷ left) = 44 ∷ pairs_text (pair ∷ left) ++ 125 ∷ []

split_first : (pair : List ℕ × List ℕ) (left : List (List ℕ × List ℕ)) → pairs_text (pair ∷ left) ++ 125 ∷ [] ≡ pair_text pair ++ after_text left
split_first pair [] = refl
split_first pair (other ∷ left) = append_assoc (pair_text pair) (44 ∷ pairs_text (other ∷ left)) (125 ∷ [])

-- a text with a pair left, and that pair
abbrev HasPair : List (List ℕ × List ℕ) → List (List ℕ × List ℕ) → List ℕ → Type 0
HasPair all read rest =
    (pair : List ℕ × List ℕ) × (left : List (List ℕ × List ℕ)) × (all ≡ read ++ pair ∷ left) × (rest ≡ pair_text pair ++ after_text left)

has_pair : (all read left : List (List ℕ × List ℕ)) (rest : List ℕ) → all ≡ read ++ left → rest ≡ pairs_text left ++ 125 ∷ [] → rest ≢ 125 ∷ [] → HasPair all read rest
has_pair all read [] rest e f more = absurd (more f)
has_pair all read (pair ∷ left) rest e f more = (pair, left, e, f ∙ split_first pair left)

pub pair_left : (text rest : List ℕ) (read : List (List ℕ × List ℕ)) → Remains text read rest → rest ≢ 125 ∷ [] → (labels : Labels) → labels_text labels ≡ text → HasPair (entries labels) read rest
pair_left text rest read remains more labels shown =
    let is = remains labels shown in has_pair (entries labels) read is.0 rest is.1 is.2 more

-- what a reader of one pair answers
abbrev pub ReadsPair : List ℕ → List ℕ → List ℕ → List ℕ → Type 0
ReadsPair rest name value after =
    (pair : List ℕ × List ℕ) (tail : List ℕ) → rest ≡ pair_text pair ++ tail → (name ≡ pair.0) × (value ≡ pair.1) × (after ≡ tail)

with_comma : (left : List (List ℕ × List ℕ)) (others : List ℕ) → 44 ∷ others ≡ after_text left → others ≡ pairs_text left ++ 125 ∷ []
with_comma [] others e = let z : ◌≡◌ {A = ℕ} 44 125 = cc in absurd (omega (arith, z))
with_comma (pair ∷ left) others e = cc

without_comma : (left : List (List ℕ × List ℕ)) (after : List ℕ) → ((others : List ℕ) → after ≢ 44 ∷ others) → after ≡ after_text left → after ≡ pairs_text left ++ 125 ∷ []
without_comma [] after none e = e
without_comma (pair ∷ left) after none e = absurd (none _ e)

one_more : (all read left : List (List ℕ × List ℕ)) (pair : List ℕ × List ℕ) (name value : List ℕ) → all ≡ read ++ pair ∷ left → name ≡ pair.0 → value ≡ pair.1 → all ≡ (read ++ (name, value) ∷ []) ++ left
one_more all read left pair name value e is_name is_value = grind (arith, append_assoc)

-- one pair more was read, with a comma after it
pub read_on : (text rest after others name value : List ℕ) (read : List (List ℕ × List ℕ)) → Remains text read rest → rest ≢ 125 ∷ [] → ReadsPair rest name value after → after ≡ 44 ∷ others → Remains text (read ++ (name, value) ∷ []) others
read_on text rest after others name value read remains more reads comma = λ labels shown.
    let is = pair_left text rest read remains more labels shown in
    let got = reads is.0 (after_text is.1) is.3 in
    (is.1, one_more (entries labels) read is.1 is.0 name value is.2 got.0 got.1, with_comma is.1 others (sym comma ∙ got.2))

-- and without
pub read_last : (text rest after name value : List ℕ) (read : List (List ℕ × List ℕ)) → Remains text read rest → rest ≢ 125 ∷ [] → ReadsPair rest name value after → ((others : List ℕ) → after ≢ 44 ∷ others) → Remains text (read ++ (name, value) ∷ []) after
read_last text rest after name value read remains more reads none = λ labels shown.
    let is = pair_left text rest read remains more labels shown in
    let got = reads is.0 (after_text is.1) is.3 in
    (is.1, one_more (entries labels) read is.1 is.0 name value is.2 got.0 got.1, without_comma is.1 after none got.2)

no_pair_left : (all read left : List (List ℕ × List ℕ)) → all ≡ read ++ left → 125 ∷ [] ≡ pairs_text left ++ 125 ∷ [] → read ≡ all
no_pair_left all read [] e f = grind (arith, append-nil)
no_pair_left all read (pair ∷ left) e f =
    absurd (omega (arith, ap length (f ∙ split_first pair left), length-append (pair_text pair) (after_text left), length-append (name_text pair.0) (61 ∷ quoted pair.1), length-append (escaped_all pair.1) (34 ∷ [])))

-- at the end all was read
pub all_read : (text rest : List ℕ) (read : List (List ℕ × List ℕ)) → Remains text read rest → rest ≡ 125 ∷ [] → (labels : Labels) → labels_text labels ≡ text → read ≡ entries labels
all_read text rest read remains end labels shown =
    let is = remains labels shown in no_pair_left (entries labels) read is.0 is.1 (sym end ∙ is.2)

-- the entries of a label set, in order, make that label set
pub made_is : (pairs : List (List ℕ × List ℕ)) (made other : Labels) → made ≡ last_holds pairs → pairs ≡ entries other → made ≡ other
made_is pairs made other e f = same_entries_map made other (ap entries e ∙ (entries_rising pairs (sorted_entries pairs other f) ∙ f))
