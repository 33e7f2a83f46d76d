-- How a value may be written, in quotes and without.
use Rattle.std.proofs.Common.{◌≡◌, ◌≢◌, ℕ, Bool, true, false, cond, List, [], ◌∷◌, Option, Some, None, Result, Ok, Err, MatchOption, IfOk, refl, sym, ap, ◌∙◌, subst, arith, inl, inr, ⊎_elim}
use Rattle.std.specs.List.{list_any}
use Rattle.std.proofs.lemmas.Bool.{false≢true}
use Rattle.am_labels.specs.Letters.{Letter, letters, is_bare_quote, IsMeantUntil}
use Rattle.am_matchers.specs.MatcherTexts.{IsQuoted, IsUnquoted, IsValue, IsNoValue}
use Rattle.am_matchers.specs.MatcherLaws.{HasOneValue}
use Rattle.am_labels.proofs.LetterTexts.Quotes.{first_bare, quote_first}

some_letter : (b : Bool) (x y : Letter) (xs ys : List Letter) → [] ≡ cond b (x ∷ xs) (y ∷ ys) → ⊥
some_letter true x y xs ys e = cc
some_letter false x y xs ys e = cc

letters_none : (rest : List ℕ) → [] ≡ letters rest → rest ≡ []
letters_none [] e = refl
letters_none (byte ∷ []) e = cc
letters_none (byte ∷ next ∷ rest) e = absurd (some_letter _ _ _ _ _ e)

pub no_quoted_more : (text rest value other : List ℕ) → rest ≢ [] → IsMeantUntil text rest value → IsMeantUntil text [] other → ⊥
no_quoted_more text rest value other more read quoted = grind (arith, letters_none, first_bare)

in_quotes : (raw rest : List ℕ) (read : Option (List ℕ)) → raw ≡ 34 ∷ rest → MatchOption read ((value : List ℕ) → IsMeantUntil rest [] value → ⊥) (IsMeantUntil rest []) → MatchOption read (IsNoValue raw) (IsValue raw)
in_quotes raw rest None starts none =
    λ value. λ written. ⊎_elim
    (λ (quoted : IsQuoted raw value). let same : quoted.0 ≡ rest = cc in none value (let P : List ℕ → Type 0 = λ bytes. IsMeantUntil bytes [] value in subst P same quoted.2))
    (λ (unquoted : IsUnquoted raw value). false≢true (sym unquoted.1.0 ∙ (ap (λ (bytes : List ℕ). list_any is_bare_quote (letters bytes)) starts ∙ ap (list_any is_bare_quote) (quote_first rest))))
    written
in_quotes raw rest (Some value) starts quoted = inl (rest, starts, quoted)

without_quotes : (raw : List ℕ) (read : Option (List ℕ)) → ((rest : List ℕ) → raw ≢ 34 ∷ rest) → MatchOption read ((value : List ℕ) → IsUnquoted raw value → ⊥) (IsUnquoted raw) → MatchOption read (IsNoValue raw) (IsValue raw)
without_quotes raw None no_quote none =
    λ value. λ written. ⊎_elim
    (λ (quoted : IsQuoted raw value). no_quote quoted.0 quoted.1)
    (λ (unquoted : IsUnquoted raw value). none value unquoted)
    written
without_quotes raw (Some value) no_quote unquoted = inr unquoted

-- the same of a reader, which may lack memory
module _ {E : Type 0} where
  pub read_in_quotes : (raw rest : List ℕ) (result : Result (Option (List ℕ)) E) → raw ≡ 34 ∷ rest → IfOk result (λ read. MatchOption read ((value : List ℕ) → IsMeantUntil rest [] value → ⊥) (IsMeantUntil rest [])) → IfOk result (λ read. MatchOption read (IsNoValue raw) (IsValue raw))
  read_in_quotes raw rest (Ok read) starts h = in_quotes raw rest read starts h
  read_in_quotes raw rest (Err e) starts h = h

  pub read_without_quotes : (raw : List ℕ) (result : Result (Option (List ℕ)) E) → ((rest : List ℕ) → raw ≢ 34 ∷ rest) → IfOk result (λ read. MatchOption read ((value : List ℕ) → IsUnquoted raw value → ⊥) (IsUnquoted raw)) → IfOk result (λ read. MatchOption read (IsNoValue raw) (IsValue raw))
  read_without_quotes raw (Ok read) no_quote h = without_quotes raw read no_quote h
  read_without_quotes raw (Err e) no_quote h = h

-- a quoted text and one without quotes have no value in common: they are different texts
apart : (raw value other : List ℕ) → IsQuoted raw value → IsUnquoted raw other → ⊥
apart raw value other quoted unquoted = grind arith

same_quoted : (raw value other : List ℕ) → IsQuoted raw value → IsQuoted raw other → value ≡ other
same_quoted raw value other a b = grind (arith, first_bare)

pub one_value : HasOneValue
one_value raw value other a b =
    ⊎_elim
    (λ (quoted : IsQuoted raw value). ⊎_elim
    (λ (again : IsQuoted raw other). same_quoted raw value other quoted again)
    (λ (unquoted : IsUnquoted raw other). absurd (apart raw value other quoted unquoted))
    b)
    (λ (unquoted : IsUnquoted raw value). ⊎_elim
    (λ (quoted : IsQuoted raw other). absurd (apart raw other value quoted unquoted))
    (λ (again : IsUnquoted raw other). unquoted.1.1 ∙ sym again.1.1)
    b)
    a
