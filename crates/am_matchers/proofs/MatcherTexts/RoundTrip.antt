-- A value in quotes, as label sets are printed, is read back.
use Rattle.std.proofs.Common.{◌≡◌, ℕ, true, false, List, [], ◌∷◌, ◌++◌, map, reverse, refl, sym, ap, arith, append-nil, inl}
use Rattle.std.specs.List.{list_all}
use Rattle.std.specs.Char.{is_ascii_whitespace}
use Rattle.std.proofs.lemmas.Bool.{false≢true}
use Rattle.std.proofs.lemmas.Bool.Decides.{nat_tests}
use Rattle.std.proofs.lemmas.List.{reverse-append}
use Rattle.am_matchers.specs.declared.operator.Operator.{Operator}
use Rattle.am_matchers.specs.declared.operator.Operator.TheVariants as operator
use Rattle.am_labels.specs.Printing.{escaped_all, quoted, is_name_start, is_name_byte, is_classic_name}
use Rattle.am_labels.specs.Letters.{begins}
use Rattle.am_matchers.specs.MatcherTexts.{operator_text, IsNamed, IsSplit, IsQuoted}
use Rattle.am_matchers.specs.MatcherLaws.{ReadsQuoted}
use Rattle.am_labels.proofs.LetterTexts.Quotes.{letter_for, meant_back, none_bare, written}
use Rattle.am_labels.proofs.LetterTexts.Stretches.{both}

quoted_back : (value : List ℕ) → IsQuoted (quoted value) value
quoted_back value =
    (escaped_all value ++ 34 ∷ [], refl, (map letter_for value, written value (34 ∷ []), none_bare value, sym (meant_back value)))

-- what follows a name
no_name_byte : (op : Operator) (rest : List ℕ) → begins is_name_byte (operator_text op ++ rest) ≡ false
no_name_byte operator.Equal rest = refl
no_name_byte operator.NotEqual rest = refl
no_name_byte operator.MatchRegexp rest = refl
no_name_byte operator.MatchNotRegexp rest = refl

no_space : (op : Operator) (rest : List ℕ) → begins is_ascii_whitespace (operator_text op ++ rest) ≡ false
no_space operator.Equal rest = refl
no_space operator.NotEqual rest = refl
no_space operator.MatchRegexp rest = refl
no_space operator.MatchNotRegexp rest = refl

no_space_starts : (byte : ℕ) → is_name_start byte ≡ true → is_ascii_whitespace byte ≡ false
no_space_starts byte h = grind (arith, nat_tests)

no_space_name : (name rest : List ℕ) → is_classic_name name ≡ true → begins is_ascii_whitespace (name ++ rest) ≡ false
no_space_name [] rest h = absurd (false≢true h)
no_space_name (x ∷ xs) rest h = no_space_starts x (both (is_name_start x) (list_all is_name_byte xs) h).0

quoted_end : (value : List ℕ) → begins is_ascii_whitespace (reverse (quoted value)) ≡ false
quoted_end value = ap (begins is_ascii_whitespace) (reverse-append (34 ∷ escaped_all value) (34 ∷ []))

split_back : (name value : List ℕ) (op : Operator) → is_classic_name name ≡ true → IsSplit (name ++ (operator_text op ++ quoted value)) name op (quoted value)
split_back name value op h =
    let named : IsNamed (name ++ (operator_text op ++ quoted value)) name (operator_text op ++ quoted value) =
    ((name ++ (operator_text op ++ quoted value)), (operator_text op ++ quoted value), ([], refl, refl, no_space_name name (operator_text op ++ quoted value) h), (refl, h, no_name_byte op (quoted value)), ([], refl, refl, no_space op (quoted value))) in
    grind (arith, append-nil, quoted_end)

pub reads_quoted : ReadsQuoted
reads_quoted name value op h = (quoted value, split_back name value op h, inl (quoted_back value))
