-- Facts about the words of specs/inside/Spans.antt: a text that grows, one pair more in it, a pair by its place,
-- and all pairs in one text.
use Rattle.std.proofs.Common.{◌≡◌, ◌∙◌, ℕ, zero, suc, ◌+◌, ◌≤◌, ◌<◌, List, [], ◌∷◌, ◌++◌, drop, get_or, length, refl, ap, sym, subst, arith, rules}
use Rattle.std.specs.Prelude.{slice_range}
use Rattle.std.specs.Str.{IsCharBoundary, IsUtf8}
use Rattle.std.specs.String.Boundary.{IsSplitPoint}
use Rattle.std.proofs.lemmas.Bool.{cases_lt}
use Rattle.std.proofs.lemmas.List.{append_assoc, append-nil, length-append, length-drop, drop_all, get_or_append_left, take-append-le, drop-append-le, take_all, take_at, drop_at}
use Rattle.std.proofs.lemmas.List.Folds.{drop_split}
use Rattle.std.proofs.lemmas.Str.{IsCharBoundary-at_seam, IsUtf8-append}
use Rattle.am_labels.specs.LabelLaws.{concatenated}
use Rattle.am_labels.specs.declared.pairs.Span.{Span}
use Rattle.am_labels.specs.inside.Spans.{pair_from, pairs_from, start_of, end_of, AreSpansFrom, AreSpansOfAll, IsSpanFrom}

-- where a text may be cut it may be cut when more follows
grown_boundary : (text more : List ℕ) (i : ℕ) → IsUtf8 more → IsCharBoundary text i → IsCharBoundary (text ++ more) i
grown_boundary text more i whole may = grind (arith, cases_lt, get_or_append_left, length-append, IsCharBoundary-at_seam)

-- a text may be cut where another was put after it
pub may_split : (text more both : List ℕ) (at : ℕ) → IsUtf8 more → both ≡ text ++ more → at ≡ length text → IsSplitPoint both at
may_split text more both at whole is there =
    let may : IsCharBoundary (text ++ more) (length text) = search (rules, IsCharBoundary-at_seam) in
    let here = subst (λ n. IsCharBoundary both n) (sym there) (subst (λ t. IsCharBoundary t (length text)) (sym is) may) in
    (here.0, λ some short high. here.1 short high)

grown_span : (text more : List ℕ) (start : ℕ) (span : Span) → IsUtf8 more → IsSpanFrom text start span → IsSpanFrom (text ++ more) start span
grown_span text more start span whole is = search (rules, grown_boundary)

-- what lies in a text stays when more follows
grown_range : (text more : List ℕ) (a b : ℕ) → a ≤ b → b ≤ length text → slice_range (text ++ more) a b ≡ slice_range text a b
grown_range text more a b in_order inside = grind (arith, drop-append-le, take-append-le, length-drop)

grown_pair : (text more : List ℕ) (start : ℕ) (span : Span) → IsSpanFrom text start span → pair_from (text ++ more) start span ≡ pair_from text start span
grown_pair text more start span is = grind (arith, grown_range)

-- ---- a name and a value at the end

abbrev pub last_span : List ℕ → List ℕ → List ℕ → Span
last_span text name value = record {
  middle = length text + length name;
  end = length text + length name + length value;
}

is_last : (text name value : List ℕ) → IsUtf8 name → IsUtf8 value → IsSpanFrom ((text ++ name) ++ value) (length text) (last_span text name value)
is_last text name value of_name of_value = grind (arith, IsCharBoundary-at_seam, append_assoc, IsUtf8-append, length-append)

last_pair : (text name value : List ℕ) → pair_from ((text ++ name) ++ value) (length text) (last_span text name value) ≡ (name, value)
last_pair text name value = grind (arith, append_assoc, drop_at, take_at, length-append, take_all)

lie_one_more : (text name value : List ℕ) (start : ℕ) (spans : List Span) → IsUtf8 name → IsUtf8 value → AreSpansFrom text start spans
    → end_of start spans ≡ length text → AreSpansFrom ((text ++ name) ++ value) start (spans ++ last_span text name value ∷ [])
lie_one_more text name value start [] of_name of_value are fill =
    (subst (λ at. IsSpanFrom ((text ++ name) ++ value) at (last_span text name value)) (sym fill) (is_last text name value of_name of_value), tt)
lie_one_more text name value start (span ∷ spans) of_name of_value are fill = (
  grown_span (text ++ name) value start span of_value (grown_span text name start span of_name are.0),
  lie_one_more text name value span.end spans of_name of_value are.1 fill,
)

end_of_one_more : (start : ℕ) (spans : List Span) (span : Span) → end_of start (spans ++ span ∷ []) ≡ span.end
end_of_one_more start [] span = refl
end_of_one_more start (first ∷ spans) span = end_of_one_more first.end spans span

pub fill_one_more : (text name value : List ℕ) (spans : List Span) → IsUtf8 name → IsUtf8 value → AreSpansOfAll text spans
    → AreSpansOfAll ((text ++ name) ++ value) (spans ++ last_span text name value ∷ [])
fill_one_more text name value spans of_name of_value are = record {
  lie = lie_one_more text name value 0 spans of_name of_value are.lie are.fill;
  fill = end_of_one_more 0 spans (last_span text name value) ∙ grind (arith, length-append);
}

pairs_one_more : (text name value : List ℕ) (start : ℕ) (spans : List Span) → AreSpansFrom text start spans → end_of start spans ≡ length text
    → pairs_from ((text ++ name) ++ value) start (spans ++ last_span text name value ∷ []) ≡ pairs_from text start spans ++ (name, value) ∷ []
pairs_one_more text name value start [] are fill =
    ap (λ pair. pair ∷ []) (ap (λ at. pair_from ((text ++ name) ++ value) at (last_span text name value)) fill ∙ last_pair text name value)
pairs_one_more text name value start (span ∷ spans) are fill =
    let same : pair_from ((text ++ name) ++ value) start span ≡ pair_from text start span = grind (arith, append_assoc, grown_pair) in
    ap (λ pair. pair ∷ pairs_from ((text ++ name) ++ value) span.end (spans ++ last_span text name value ∷ [])) same
    ∙ ap (λ pairs. pair_from text start span ∷ pairs) (pairs_one_more text name value span.end spans are.1 fill)

-- a pair more, whose texts come after all others
pub one_more_pair : (text name value : List ℕ) (spans : List Span) → AreSpansOfAll text spans
    → pairs_from ((text ++ name) ++ value) 0 (spans ++ last_span text name value ∷ []) ≡ pairs_from text 0 spans ++ (name, value) ∷ []
one_more_pair text name value spans are = pairs_one_more text name value 0 spans are.lie are.fill

-- ---- a pair by its place

pub as_many : (text : List ℕ) (start : ℕ) (spans : List Span) → length (pairs_from text start spans) ≡ length spans
as_many text start [] = refl
as_many text start (span ∷ spans) = ap suc (as_many text span.end spans)

-- a pair begins where the one before it ends
pub start_after : (start : ℕ) (spans : List Span) (at : ℕ) (d : Span) → at < length spans → start_of start spans (suc at) ≡ (get_or spans at d).end
start_after start [] at d short = search (rules, arith)
start_after start (span ∷ spans) zero d short = refl
start_after start (span ∷ spans) (suc at) d short = start_after span.end spans at d (omega arith)

pub span_at : (text : List ℕ) (start : ℕ) (spans : List Span) (at : ℕ) (d : Span) → AreSpansFrom text start spans → at < length spans
    → IsSpanFrom text (start_of start spans at) (get_or spans at d)
span_at text start [] at d are short = search (rules, arith)
span_at text start (span ∷ spans) zero d are short = are.0
span_at text start (span ∷ spans) (suc at) d are short = span_at text span.end spans at d are.1 (omega arith)

pub pair_at : (text : List ℕ) (start : ℕ) (spans : List Span) (at : ℕ) (d : Span) (p : List ℕ × List ℕ) → at < length spans
    → get_or (pairs_from text start spans) at p ≡ pair_from text (start_of start spans at) (get_or spans at d)
pair_at text start [] at d p short = search (rules, arith)
pair_at text start (span ∷ spans) zero d p short = refl
pair_at text start (span ∷ spans) (suc at) d p short = pair_at text span.end spans at d p (omega arith)

-- ---- all pairs in one text

concatenated_from : (text : List ℕ) (start : ℕ) (spans : List Span) → AreSpansFrom text start spans
    → concatenated (pairs_from text start spans) ++ drop (end_of start spans) text ≡ drop start text
concatenated_from text start [] are = refl
concatenated_from text start (span ∷ spans) are =
    let rest = concatenated_from text span.end spans are.1 in
    let of_name = drop_split text start span.middle are.0.name in
    let of_value = drop_split text span.middle span.end are.0.value in
    let name = slice_range text start span.middle in
    let value = slice_range text span.middle span.end in
    append_assoc (name ++ value) (concatenated (pairs_from text span.end spans)) (drop (end_of span.end spans) text)
    ∙ ap (λ t. (name ++ value) ++ t) rest
    ∙ append_assoc name value (drop span.end text)
    ∙ ap (λ t. name ++ t) (sym of_value)
    ∙ sym of_name

pub all_concatenated : (text : List ℕ) (spans : List Span) → AreSpansOfAll text spans → text ≡ concatenated (pairs_from text 0 spans)
all_concatenated text spans are =
    let rest : drop (end_of 0 spans) text ≡ [] = ap (λ end. drop end text) are.fill ∙ search (rules, drop_all) in
    sym (sym (append-nil (concatenated (pairs_from text 0 spans))) ∙ ap (λ t. concatenated (pairs_from text 0 spans) ++ t) (sym rest) ∙ concatenated_from text 0 spans are.lie)
