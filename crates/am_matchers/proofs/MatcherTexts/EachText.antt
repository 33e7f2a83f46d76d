-- Each text lacks its name, or its operator, or has parts.
use Rattle.std.proofs.Common.{◌≡◌, ◌≢◌, ℕ, ◌-◌, true, false, ◌==◌, List, [], ◌∷◌, ◌++◌, length, take, drop, refl, sym, ap, subst, arith, inl, inr, ⊎_elim}
use Rattle.std.specs.Prelude.{◌⊎◌}
use Rattle.std.specs.List.{prefix_len, suffix_len}
use Rattle.std.specs.Char.{is_ascii_whitespace}
use Rattle.std.proofs.lemmas.Bool.{ne_eqb, cases_eq, cases_Bool}
use Rattle.am_matchers.specs.declared.operator.Operator.{Operator}
use Rattle.am_matchers.specs.declared.operator.Operator.TheVariants as operator
use Rattle.am_labels.specs.Printing.{is_name_start, is_name_byte}
use Rattle.am_labels.specs.Letters.{begins}
use Rattle.am_matchers.specs.MatcherTexts.{IsSpaceThen, IsNamed, IsOperatorThen, IsSplit, HasNoOperator, operator_text}
use Rattle.am_matchers.specs.MatcherLaws.{EachTextIsSplit}
use Rattle.am_labels.proofs.LetterTexts.Names.{name_then}
use Rattle.am_matchers.proofs.MatcherTexts.Cuts.{space_then, trimmed_to}

-- what follows an operator's first byte
tilde_or_none : (behind : List ℕ) → ((more : List ℕ) × (behind ≡ 126 ∷ more)) ⊎ (begins (λ byte. byte == 126) behind ≡ false)
tilde_or_none [] = inr refl
tilde_or_none (x ∷ rest) =
    ⊎_elim (λ (is : x ≡ 126). inl (rest, ap (λ (byte : ℕ). byte ∷ rest) is)) (λ (other : x ≢ 126). inr (ne_eqb x 126 other)) (cases_eq x 126)

abbrev IsAnyOperator : List ℕ → Type 0
IsAnyOperator text = (op : Operator) × (behind : List ℕ) × IsOperatorThen text op behind

abbrev IsNoOperator : List ℕ → Type 0
IsNoOperator text = (op : Operator) (behind : List ℕ) → text ≡ operator_text op ++ behind → ⊥

nothing : IsNoOperator []
nothing operator.Equal behind e = cc
nothing operator.NotEqual behind e = cc
nothing operator.MatchRegexp behind e = cc
nothing operator.MatchNotRegexp behind e = cc

other_first : (x : ℕ) (rest : List ℕ) → x ≢ 61 → x ≢ 33 → IsNoOperator (x ∷ rest)
other_first x rest a b operator.Equal behind e = a cc
other_first x rest a b operator.NotEqual behind e = b cc
other_first x rest a b operator.MatchRegexp behind e = a cc
other_first x rest a b operator.MatchNotRegexp behind e = b cc

mark_alone : (x : ℕ) → x ≡ 33 → IsNoOperator (x ∷ [])
mark_alone x is operator.Equal behind e = let first : x ≡ 61 = cc in absurd (omega arith)
mark_alone x is operator.NotEqual behind e = cc
mark_alone x is operator.MatchRegexp behind e = cc
mark_alone x is operator.MatchNotRegexp behind e = cc

other_second : (x y : ℕ) (rest : List ℕ) → x ≡ 33 → y ≢ 61 → y ≢ 126 → IsNoOperator (x ∷ y ∷ rest)
other_second x y rest is a b operator.Equal behind e = let first : x ≡ 61 = cc in absurd (omega arith)
other_second x y rest is a b operator.NotEqual behind e = a cc
other_second x y rest is a b operator.MatchRegexp behind e = let first : x ≡ 61 = cc in absurd (omega arith)
other_second x y rest is a b operator.MatchNotRegexp behind e = b cc

after_equal : (rest : List ℕ) → IsAnyOperator (61 ∷ rest)
after_equal rest =
    ⊎_elim
    (λ (some : (more : List ℕ) × (rest ≡ 126 ∷ more)). (operator.MatchRegexp, some.0, (ap (λ (end : List ℕ). 61 ∷ end) some.1, λ e. cc)))
    (λ (none : begins (λ byte. byte == 126) rest ≡ false). (operator.Equal, rest, (refl, λ e. none)))
    (tilde_or_none rest)

after_mark : (rest : List ℕ) → IsAnyOperator (33 ∷ rest) ⊎ IsNoOperator (33 ∷ rest)
after_mark [] = inr (mark_alone 33 refl)
after_mark (y ∷ rest) =
    ⊎_elim
    (λ (is : y ≡ 61). inl (operator.NotEqual, rest, (ap (λ (byte : ℕ). 33 ∷ byte ∷ rest) is, λ e. cc)))
    (λ (no_equal : y ≢ 61). ⊎_elim
    (λ (is : y ≡ 126). inl (operator.MatchNotRegexp, rest, (ap (λ (byte : ℕ). 33 ∷ byte ∷ rest) is, λ e. cc)))
    (λ (no_tilde : y ≢ 126). inr (other_second 33 y rest refl no_equal no_tilde))
    (cases_eq y 126))
    (cases_eq y 61)

any_operator : (text : List ℕ) → IsAnyOperator text ⊎ IsNoOperator text
any_operator [] = inr nothing
any_operator (x ∷ rest) =
    ⊎_elim
    (λ (is : x ≡ 61). inl (let P : ℕ → Type 0 = λ byte. IsAnyOperator (byte ∷ rest) in subst P (sym is) (after_equal rest)))
    (λ (no_equal : x ≢ 61). ⊎_elim
    (λ (is : x ≡ 33). let P : ℕ → Type 0 = λ byte. IsAnyOperator (byte ∷ rest) ⊎ IsNoOperator (byte ∷ rest) in subst P (sym is) (after_mark rest))
    (λ (no_mark : x ≢ 33). inr (other_first x rest no_equal no_mark))
    (cases_eq x 33))
    (cases_eq x 61)

named : (text start : List ℕ) → IsSpaceThen text start → begins is_name_start start ≡ true → (name : List ℕ) × (rest : List ℕ) × IsNamed text name rest
named text start space starts =
    let n = prefix_len is_name_byte start in
    let behind = drop n start in
    let rest = drop (prefix_len is_ascii_whitespace behind) behind in
    (take n start, rest, (start, behind, space, name_then start (take n start) behind starts refl refl, space_then behind rest refl))

split : (text name rest behind : List ℕ) (op : Operator) → IsNamed text name rest → IsOperatorThen rest op behind → (raw : List ℕ) × IsSplit text name op raw
split text name rest behind op named operator =
    let left = drop (prefix_len is_ascii_whitespace behind) behind in
    let raw = take (length left - suffix_len is_ascii_whitespace left) left in
    (raw, (rest, behind, named, operator, trimmed_to behind left raw refl refl))

with_name : (text name rest : List ℕ) → IsNamed text name rest → HasNoOperator text ⊎ ((name : List ℕ) × (op : Operator) × (raw : List ℕ) × IsSplit text name op raw)
with_name text name rest is_named =
    ⊎_elim
    (λ (any : IsAnyOperator rest). let parts = split text name rest any.1 any.0 is_named any.2 in inr (name, any.0, parts.0, parts.1))
    (λ (none : IsNoOperator rest). inl (name, rest, is_named, none))
    (any_operator rest)

pub each_split : EachTextIsSplit
each_split text =
    let start = drop (prefix_len is_ascii_whitespace text) text in
    let space = space_then text start refl in
    ⊎_elim
    (λ (starts : begins is_name_start start ≡ true). let found = named text start space starts in inr (with_name text found.0 found.1 found.2))
    (λ (ends : begins is_name_start start ≡ false). inl (start, space, ends))
    (cases_Bool (begins is_name_start start))
