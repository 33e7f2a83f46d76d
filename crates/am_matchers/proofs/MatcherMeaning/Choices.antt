-- Which texts a pattern chooses among.
use Rattle.std.proofs.Common.{◌≡◌, ◌⊎◌, ⊎_elim, inl, inr, ℕ, ◌+◌, ◌<◌, ◌||◌, Bool, true, false, true≢false, List, [], ◌∷◌, ◌++◌, map, take, length, drop, get_or, is_some, IfOk, IfSome, Result, Ok, Err, Option, None, Some, refl, sym, ap, IsUtf8, ◌∙◌, arith, append_assoc, append-nil, length-append, drop-drop, drop_of_length-le}
use Rattle.std.proofs.lemmas.Bool.Decides.{Decides-eqb}
use Rattle.std.proofs.lemmas.Grind.{flat_map-append}
use Rattle.std.proofs.lemmas.List.{map_more}
use Rattle.std.proofs.lemmas.Slice.Eq.{slice_eq-Decides}
use Rattle.regex_hir.proofs.TextLemmas.{has_bytes_at_parts, has_bytes_at_from}
use Rattle.regex_syntax.proofs.CapturesLemmas.{alike_of_same}
use Rattle.regex_syntax.proofs.SameLemmas.{same_refl, cat_cong, cat_all-push}
use Rattle.regex.specs.Patterns.{Re, Matches, empty, literal, byte_in, look, cat, cat_all, alt_all, in_ranges, find_str, Start, End}
use Rattle.regex.proofs.ForCallers.{is_match_alike, whole_of_is_match, is_match_of_whole}
use Rattle.am_labels.specs.Texts.{same_text}
use Rattle.am_matchers.specs.inside.Choices.{is_one_of, OneStands, ChoosesAmong, FindsOneOf, crossed}

abbrev pub AreAlike : Type 0 → Type 0 → Type 0
AreAlike A B = (A → B) × (B → A)

-- the empty pattern stands for the empty text
pub chooses_nothing : ChoosesAmong ([] ∷ []) empty
chooses_nothing whole from to = (
  λ at. inl (has_bytes_at_from whole from [] (drop from whole) refl, omega (arith, at)),
  λ stands. ⊎_elim (λ s. omega (arith, s.1)) (λ no. absurd no) stands,
)

-- one of two lists of texts stands where one of the first stands, or one of the second
stands_in_either : (whole : List ℕ) (from to : ℕ) (xs ys : List (List ℕ))
    → AreAlike (OneStands whole (xs ++ ys) from to) (OneStands whole xs from to ⊎ OneStands whole ys from to)
stands_in_either whole from to [] ys = (λ h. inr h, λ h. ⊎_elim (λ no. absurd no) (λ s. s) h)
stands_in_either whole from to (x ∷ xs) ys = let rest = stands_in_either whole from to xs ys in grind arith

-- no byte is one of no class
pub reads_no_byte : (whole : List ℕ) (from to : ℕ) → Matches whole (byte_in []) from to → ⊥
unfolding in_ranges
reads_no_byte whole from to h = absurd (true≢false (sym h.2))

pub chooses_none : ChoosesAmong [] (alt_all [])
chooses_none whole from to = (λ h. reads_no_byte whole from to h, λ h. absurd h)

matches_one_more : (whole : List ℕ) (from to : ℕ) (xs : List Re) (y : Re)
    → AreAlike (Matches whole (alt_all (xs ++ y ∷ [])) from to) (Matches whole (alt_all xs) from to ⊎ Matches whole y from to)
matches_one_more whole from to [] y = grind arith
matches_one_more whole from to (x ∷ xs) y = let rest = matches_one_more whole from to xs y in grind arith

-- a choice with one more branch has the texts of that branch too
pub chooses_branch : (texts more : List (List ℕ)) (xs : List Re) (y : Re) → ChoosesAmong texts (alt_all xs) → ChoosesAmong more y
    → ChoosesAmong (texts ++ more) (alt_all (xs ++ y ∷ []))
chooses_branch texts more xs y had next whole from to = grind (arith, matches_one_more, stands_in_either)

matches_in_turn : (whole : List ℕ) (from to : ℕ) (xs : List Re) (y : Re)
    → AreAlike (Matches whole (cat_all (xs ++ y ∷ [])) from to) ((at : ℕ) × Matches whole (cat_all xs) from at × Matches whole y at to)
matches_in_turn whole from to [] y = grind arith
matches_in_turn whole from to (x ∷ xs) y = (
  λ h. let others = (matches_in_turn whole h.0 to xs y).0 h.2 in (others.0, (h.0, h.1, others.1), others.2),
  λ h. (h.1.0, h.1.1, (matches_in_turn whole h.1.0 to xs y).1 (h.0, h.1.2, h.2)),
)

-- two texts stand one after the other where their joined text stands
pub stands_joined : (whole : List ℕ) (from to : ℕ) (first second : List ℕ)
    → AreAlike ((at : ℕ) × Matches whole (literal first) from at × Matches whole (literal second) at to) (Matches whole (literal (first ++ second)) from to)
stands_joined whole from to first second = (join, part)
  where
    join : (at : ℕ) × Matches whole (literal first) from at × Matches whole (literal second) at to → Matches whole (literal (first ++ second)) from to
    join h =
        let front = has_bytes_at_parts whole from first h.1.0 in
        let back = has_bytes_at_parts whole h.0 second h.2.0 in
        let rest : drop (from + length first) whole ≡ second ++ drop (h.0 + length second) whole = ap (λ (n : ℕ). drop n whole) (sym h.1.1) ∙ back in (
          has_bytes_at_from whole from (first ++ second) (drop (h.0 + length second) whole)
              (front ∙ ap (λ (r : List ℕ). first ++ r) rest ∙ sym (append_assoc first second _)),
          omega (arith, h.1.1, h.2.1, length-append first second),
        )

    part : Matches whole (literal (first ++ second)) from to → (at : ℕ) × Matches whole (literal first) from at × Matches whole (literal second) at to
    part h =
        let both = has_bytes_at_parts whole from (first ++ second) h.0 in
        let front = has_bytes_at_from whole from first (second ++ drop (from + length (first ++ second)) whole) (both ∙ append_assoc first second _) in
        let after : drop (length first) (drop from whole) ≡ second ++ drop (from + length (first ++ second)) whole =
        ap (drop (length first)) (both ∙ append_assoc first second _) ∙ drop_front first _ in
        let back = has_bytes_at_from whole (from + length first) second _ (sym (drop-drop (length first) from whole) ∙ after) in
        (from + length first, (front, refl), (back, omega (arith, h.1, length-append first second)))
      where
        drop_front : (xs ys : List ℕ) → drop (length xs) (xs ++ ys) ≡ ys
        drop_front [] ys = refl
        drop_front (x ∷ xs) ys = drop_front xs ys

-- a text and then one of others stand where one of those joined to it stands
pub stands_with_each : (whole : List ℕ) (from to : ℕ) (first : List ℕ) (seconds : List (List ℕ))
    → AreAlike ((at : ℕ) × Matches whole (literal first) from at × OneStands whole seconds at to) (OneStands whole (map (λ second. first ++ second) seconds) from to)
stands_with_each whole from to first [] = (λ h. absurd h.2, λ h. absurd h)
stands_with_each whole from to first (second ∷ seconds) =
    let one = stands_joined whole from to first second in
    let others = stands_with_each whole from to first seconds in
    let rest = stands_with_each whole from to first seconds in
    grind arith

-- one of some texts and then a text stand where one of those with it behind stands
pub stands_before_each : (whole : List ℕ) (from to : ℕ) (firsts : List (List ℕ)) (second : List ℕ)
    → AreAlike ((at : ℕ) × OneStands whole firsts from at × Matches whole (literal second) at to) (OneStands whole (map (λ first. first ++ second) firsts) from to)
stands_before_each whole from to [] second = (λ h. absurd h.1, λ h. absurd h)
stands_before_each whole from to (first ∷ firsts) second =
    let one = stands_joined whole from to first second in
    let others = stands_before_each whole from to firsts second in
    let rest = stands_before_each whole from to firsts second in
    grind arith

stands_crossed : (whole : List ℕ) (from to : ℕ) (firsts seconds : List (List ℕ))
    → AreAlike ((at : ℕ) × OneStands whole firsts from at × OneStands whole seconds at to) (OneStands whole (crossed firsts seconds) from to)
stands_crossed whole from to [] seconds = (λ h. absurd h.1, λ h. absurd h)
stands_crossed whole from to (first ∷ firsts) seconds =
    let rest = stands_crossed whole from to firsts seconds in
    grind (arith, stands_with_each, stands_in_either)

-- patterns with one more behind them have the joined texts
pub chooses_next : (texts next : List (List ℕ)) (xs : List Re) (y : Re) → ChoosesAmong texts (cat_all xs) → ChoosesAmong next y
    → ChoosesAmong (crossed texts next) (cat_all (xs ++ y ∷ []))
chooses_next texts next xs y had behind whole from to = grind (arith, matches_in_turn, stands_crossed)

-- under other names for the texts and the pattern
pub chooses_so : {texts same : List (List ℕ)} {pattern like : Re} → texts ≡ same → pattern ≡ like → ChoosesAmong same like
    → ChoosesAmong texts pattern
chooses_so {texts = texts} {same = same} {pattern = pattern} {like = like} e f h = grind arith

pub one_more : {X Y : Type 0} (f : X → Y) (xs : List X) (at : ℕ) (x : X) → at < length xs → x ≡ get_or xs at x
    → map f (take (at + 1) xs) ≡ map f (take at xs) ++ f x ∷ []
one_more f xs at x within is = map_more f xs at x within ∙ ap (λ y. map f (take at xs) ++ f y ∷ []) (sym is)

pub crossed_more : (firsts : List (List ℕ)) (first : List ℕ) (seconds : List (List ℕ))
    → crossed (firsts ++ first ∷ []) seconds ≡ crossed firsts seconds ++ map (λ second. first ++ second) seconds
crossed_more firsts first seconds = grind (arith, flat_map-append, append-nil)

-- a text that stands from the first byte to the last is the whole
whole_is : (whole text : List ℕ) → Matches whole (literal text) 0 (length whole) → text ≡ whole
whole_is whole text stands =
    let parts = has_bytes_at_parts whole 0 text stands.0 in
    let nothing : drop (0 + length text) whole ≡ [] = drop_of_length-le whole (omega (arith, stands.1)) in
    sym (parts ∙ ap (λ (rest : List ℕ). text ++ rest) nothing ∙ append-nil text)

or_true : (a b : Bool) → (a ≡ true) ⊎ (b ≡ true) → (a || b) ≡ true
or_true true b h = refl
or_true false b h = ⊎_elim (λ no. absurd (true≢false (sym no))) (λ yes. yes) h

pub true_or : (a b : Bool) → (a || b) ≡ true → (a ≡ true) ⊎ (b ≡ true)
true_or true b h = inl refl
true_or false b h = inr h

pub one_is_whole : (whole : List ℕ) (texts : List (List ℕ))
    → AreAlike (OneStands whole texts 0 (length whole)) (is_one_of whole texts ≡ true)
one_is_whole whole [] = (λ h. absurd h, λ h. absurd (true≢false (sym h)))
one_is_whole whole (text ∷ texts) =
    let others = one_is_whole whole texts in
    let same = slice_eq-Decides Decides-eqb text whole (same_text text whole) refl in (
      λ h. or_true _ _ (⊎_elim (λ a. inl (same.1 (whole_is whole text a))) (λ b. inr (others.0 b)) h),
      λ h. ⊎_elim (λ a. let is = same.0 a in inl (has_bytes_at_from whole 0 text [] (sym is ∙ sym (append-nil text)), omega (arith, ap length is))) (λ b. inr (others.1 b)) (true_or _ _ h),
    )

pub same_truth : (a b : Bool) → (a ≡ true → b ≡ true) → (b ≡ true → a ≡ true) → a ≡ b
same_truth true b f g = sym (f refl)
same_truth false true f g = g refl
same_truth false false f g = refl

-- an anchored pattern is found in the texts that what it anchors chooses among
pub finds_whole : (texts : List (List ℕ)) (re : Re) → ChoosesAmong texts re → (text : List ℕ) → IsUtf8 text
    → is_some (find_str (cat (look Start) (cat re (look End))) text 0) ≡ is_one_of text texts
finds_whole texts re chooses text utf8 = grind (arith, one_is_whole, same_truth, whole_of_is_match, is_match_of_whole)

pub finds_one : (texts : List (List ℕ)) (inner : List Re) (pattern : Re) → pattern ≡ cat_all (look Start ∷ inner ++ look End ∷ [])
    → ChoosesAmong texts (cat_all inner) → FindsOneOf texts pattern
finds_one texts inner pattern is chooses text utf8 bytes =
    ap (λ (p : Re). is_some (find_str p text 0)) is
    ∙ (is_match_alike (alike_of_same (cat_cong (same_refl (look Start)) (cat_all-push inner (look End)))) text bytes true 0
    ∙ finds_whole texts (cat_all inner) chooses text utf8)

-- what holds of each answer's texts, if there are any
pub if_found : {A E : Type 0} (P Q : A → Type 0) (r : Result (Option A) E) → ((x : A) → P x → Q x) → IfOk r (λ o. IfSome o P) → IfOk r (λ o. IfSome o Q)
if_found P Q (Ok None) f h = h
if_found P Q (Ok (Some x)) f h = f x h
if_found P Q (Err e) f h = h
