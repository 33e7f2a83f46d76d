-- A text has one split into parts.
use Rattle.std.proofs.Common.{◌≡◌, ℕ, ◌&&◌, Bool, true, false, List, [], ◌∷◌, ◌++◌, refl, sym, ap, ◌∙◌, subst, reverse, arith}
use Rattle.std.specs.List.{list_all}
use Rattle.std.specs.Char.{is_ascii_whitespace}
use Rattle.std.proofs.lemmas.Bool.{false≢true}
use Rattle.std.proofs.lemmas.List.{reverse-append, reverse-reverse}
use Rattle.std.proofs.lemmas.List.Folds.{list_all-append}
use Rattle.am_matchers.specs.declared.operator.Operator.{Operator}
use Rattle.am_labels.specs.Letters.{begins}
use Rattle.am_matchers.specs.MatcherTexts.{IsSpaceThen, IsNamed, IsOperatorThen, IsTrimmedTo, HasNoName, HasNoOperator}
use Rattle.am_matchers.specs.MatcherLaws.{HasOneSplit, NoNameStandsAlone, NoOperatorStandsAlone}
use Rattle.am_labels.proofs.LetterTexts.Names.{one_front, one_name}
use Rattle.am_labels.proofs.LetterTexts.Stretches.{all_reversed}

one_rest_of : (text other rest left : List ℕ) → text ≡ other → IsSpaceThen text rest → IsSpaceThen other left → rest ≡ left
one_rest_of text other rest left e a b = grind (arith, one_front)

one_named : (text name other rest left : List ℕ) → IsNamed text name rest → IsNamed text other left → (name ≡ other) × (rest ≡ left)
one_named text name other rest left a b =
    let start = one_rest_of text text a.0 b.0 refl a.2 b.2 in
    let split = one_name a.0 b.0 name other a.1 b.1 start a.3 b.3 in
    (split.0, one_rest_of a.1 b.1 rest left split.1 a.4 b.4)

one_operator : (rest behind more : List ℕ) (op like : Operator) → IsOperatorThen rest op behind → IsOperatorThen rest like more → (op ≡ like) × (behind ≡ more)
one_operator rest behind more op like a b = grind arith

and_false : (b : Bool) → (b && false) ≡ false
and_false true = refl
and_false false = refl

-- a text that begins with no white space, after white space
spaces_only : (before raw after : List ℕ) (x : ℕ) → is_ascii_whitespace x ≡ false → list_all is_ascii_whitespace (before ++ ((x ∷ raw) ++ after)) ≡ false
spaces_only [] raw after x other = rw other refl
spaces_only (y ∷ before) raw after x other = rw (spaces_only before raw after x other) (and_false (is_ascii_whitespace y))

-- raw texts that both begin with no white space
begun : (text raw other : List ℕ) (a : IsTrimmedTo text raw) (b : IsTrimmedTo text other) → begins is_ascii_whitespace (raw ++ a.1) ≡ false → begins is_ascii_whitespace (other ++ b.1) ≡ false → raw ≡ other
begun text raw other a b no_a no_b =
    let ends = (one_front is_ascii_whitespace a.0 b.0 (raw ++ a.1) (other ++ b.1) a.2 b.2 no_a no_b (sym a.4 ∙ b.4)).1 in
    let turned : reverse a.1 ++ reverse raw ≡ reverse b.1 ++ reverse other = sym (reverse-append raw a.1) ∙ (ap reverse ends ∙ reverse-append other b.1) in
    let same = (one_front is_ascii_whitespace (reverse a.1) (reverse b.1) (reverse raw) (reverse other) (all_reversed is_ascii_whitespace a.1 a.3) (all_reversed is_ascii_whitespace b.1 b.3) a.6 b.6 turned).1 in
    sym (reverse-reverse raw) ∙ (ap reverse same ∙ reverse-reverse other)

-- a text of white space alone
blank : (text other : List ℕ) → IsTrimmedTo text [] → IsTrimmedTo text other → [] ≡ other
blank text [] a b = refl
blank text (x ∷ other) a b =
    let whole : list_all is_ascii_whitespace text ≡ true = ap (list_all is_ascii_whitespace) a.4 ∙ (list_all-append is_ascii_whitespace a.0 a.1 ∙ rw (a.2, a.3) refl) in
    absurd (false≢true (sym (spaces_only b.0 other b.1 x b.5) ∙ (ap (list_all is_ascii_whitespace) (sym b.4) ∙ whole)))

one_trimmed : (text raw other : List ℕ) → IsTrimmedTo text raw → IsTrimmedTo text other → raw ≡ other
one_trimmed text [] other a b = blank text other a b
one_trimmed text (x ∷ raw) [] a b = sym (blank text (x ∷ raw) b a)
one_trimmed text (x ∷ raw) (y ∷ other) a b = begun text (x ∷ raw) (y ∷ other) a b a.5 b.5

pub one_split : HasOneSplit
one_split text name other raw rest op like a b =
    let named = one_named text name other a.0 b.0 a.2 b.2 in
    let operators = one_operator b.0 a.1 b.1 op like (let P : List ℕ → Type 0 = λ r. IsOperatorThen r op a.1 in subst P named.1 a.3) b.3 in
    (named.0, operators.0, one_trimmed b.1 raw rest (let P : List ℕ → Type 0 = λ r. IsTrimmedTo r raw in subst P operators.1 a.4) b.4)

no_named : (text name rest : List ℕ) → HasNoName text → IsNamed text name rest → ⊥
no_named text name rest none named = let same = one_rest_of text text none.0 named.0 refl none.1 named.2 in grind arith

pub no_name_alone : NoNameStandsAlone
no_name_alone text none =
    (λ (lacks : HasNoOperator text). no_named text lacks.0 lacks.1 none lacks.2, λ name raw op split. no_named text name split.0 none split.2)

pub no_operator_alone : NoOperatorStandsAlone
no_operator_alone text lacks name raw op split =
    lacks.3 op split.1 ((one_named text lacks.0 name lacks.1 split.0 lacks.2 split.2).1 ∙ split.3.0)
