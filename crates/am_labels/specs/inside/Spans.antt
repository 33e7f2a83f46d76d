-- How names with values lie in one text, one after another. Only code of this crate cites it.
use Rattle.std.specs.Prelude.{◌≡◌, ℕ, zero, suc, ◌≤◌, ◌==◌, ◌&&◌, Bool, List, [], ◌∷◌, length, slice_range, ⊤}
use Rattle.std.specs.Cmp.{IsEquivalence}
use Rattle.std.specs.Str.{IsCharBoundary}
use Rattle.std.proofs.lemmas.Cmp.{and_equiv, nat_eq_equiv, on_equiv}
use Rattle.am_labels.specs.declared.pairs.Span.{Span}

-- whether names and values end at the same places
abbrev pub same_span : Span → Span → Bool
same_span a b = (a.middle == b.middle) && (a.end == b.end)

-- `same_span` is an equivalence
pub same_span_equiv : IsEquivalence same_span
same_span_equiv = and_equiv (on_equiv (λ a. a.middle) nat_eq_equiv) (on_equiv (λ a. a.end) nat_eq_equiv)

-- the name that begins at a place, and its value
abbrev pub pair_from : List ℕ → ℕ → Span → List ℕ × List ℕ
pair_from text start span = (slice_range text start span.middle, slice_range text span.middle span.end)

-- all names with their values, of which the first begins there
abbrev pub pairs_from : List ℕ → ℕ → List Span → List (List ℕ × List ℕ)
pairs_from text start [] = []
pairs_from text start (span ∷ spans) = pair_from text start span ∷ pairs_from text span.end spans

-- where the name at a place begins
abbrev pub start_of : ℕ → List Span → ℕ → ℕ
start_of start spans zero = start
start_of start [] (suc at) = start
start_of start (span ∷ spans) (suc at) = start_of span.end spans at

-- where the last of them ends
abbrev pub end_of : ℕ → List Span → ℕ
end_of start [] = start
end_of start (span ∷ spans) = end_of span.end spans

-- a name and a value lie there, from one character's beginning to another's
pub record IsSpanFrom (text : List ℕ) (start : ℕ) (span : Span) : Type 0 where
  pub name : start ≤ span.middle
  pub value : span.middle ≤ span.end
  pub from : IsCharBoundary text start
  pub between : IsCharBoundary text span.middle
  pub to : IsCharBoundary text span.end

-- each does
abbrev pub AreSpansFrom : List ℕ → ℕ → List Span → Type 0
AreSpansFrom text start [] = ⊤
AreSpansFrom text start (span ∷ spans) = IsSpanFrom text start span × AreSpansFrom text span.end spans

-- each does, and together they are the text
pub record AreSpansOfAll (text : List ℕ) (spans : List Span) : Type 0 where
  pub lie : AreSpansFrom text 0 spans
  pub fill : end_of 0 spans ≡ length text
