-- Plain texts with `|` between them are read as a choice among them.
use Rattle.std.proofs.Common.{ℕ, zero, suc, inl, inr, ⊎_elim, ◌+◌, ◌-◌, ◌*◌, ◌<◌, ◌≡◌, max, Bool, true, false, true≢false, not, ◌&&◌, nat_lt, arith, ◌==◌, ne_eqb, ap, ◌∙◌, List, [], ◌∷◌, ◌++◌, map, length, Option, None, Some, is_some, IsSome, subst, ◌≤◌, IsUtf8, encode_utf8, refl, sym, append_assoc, append-nil, length-append, All, rules}
use Rattle.std.proofs.lemmas.Bool.{both_ways, cases_lt, and_parts}
use Rattle.std.specs.Option.{option_map_or}
use Rattle.regex_hir.specs.Meaning.{cat_all, alt_all}
use Rattle.regex_hir.specs.Re.{Re, empty, literal, byte_in, look, cat, alt, group}
use Rattle.regex_hir.specs.Looks.{holds_between}
use Rattle.regex_hir.proofs.FindLemmas.{IsFirst-of_first_between}
use Rattle.regex_hir.proofs.MatchesLemmas.{Matches-IsSpan}
use Rattle.regex_hir.proofs.OptionLemmas.{value_of_IsSome}
use Rattle.regex_hir.proofs.TextLemmas.{byte_before-zero, byte_before-add-one}
use Rattle.regex_hir.specs.declared.look.Look.TheVariants.{Start, End}
use Rattle.regex_syntax.proofs.BranchLemmas.{ends_branch, Read, repetitions_end, join_after, branch_ends, branch_goes, more_parts, group_inside, join_parts_is, branches_go, more_branches, join_ends}
use Rattle.regex_syntax.proofs.EscapeLemmas.{itself}
use Rattle.regex_syntax.proofs.ReadingLemmas.{skip-false}
use Rattle.regex_syntax.specs.Brackets.{Nested, flat, join}
use Rattle.regex_syntax.specs.Escapes.{is_verbose}
use Rattle.regex_syntax.specs.Grammar.{Names, Place, atom, char_meaning, opening, set_flags, opens, capture, rest_of_group, item, with_repetitions, items, branches, join_parts, read, names_below, group_count}
use Rattle.regex_syntax.specs.Reading.{Text, is_at, first, skip, ◌>>=◌}
use Rattle.regex_syntax.specs.Sets.{verbatim}
use Rattle.regex_syntax.specs.Verdict.{default_config}
use Rattle.std.proofs.lemmas.List.{map-append}
use Rattle.std.proofs.lemmas.Str.{chars-IsAscii, encode_ascii, IsUtf8-from_ascii, IsCharBoundary-start}
use Rattle.std.proofs.lemmas.Str.Ascii.{IsAscii-cons}
use Rattle.std.specs.Str.{IsAscii}
use Rattle.std.proofs.lemmas.Bool.Decides.{Decides-eqb}
use Rattle.std.proofs.lemmas.Slice.Eq.{slice_eq-Decides}
use Rattle.std.proofs.lemmas.Option.{slice_get-get_or, slice_get_past}
use Rattle.am_labels.specs.Texts.{same_text}
use Rattle.regex.specs.Patterns.{find_str, holds, Matches}
use Rattle.regex.proofs.ForCallers.{find_str_sound, find_str_complete}
use Rattle.am_matchers.specs.Matchers.{finds}
use Rattle.am_matchers.specs.inside.Choices.{is_one_of, OneStands, ChoosesAmong}
use Rattle.am_matchers.specs.PlainPatterns.{is_special, is_plain, with_bars, between_texts, PlainTextsAreChosen, PlainGroupsAreChosen}
use Rattle.am_matchers.proofs.MatcherMeaning.Choices.{AreAlike, chooses_nothing, chooses_none, reads_no_byte, stands_joined, stands_with_each, stands_before_each, one_is_whole, same_truth, true_or}

-- a place in the pattern, behind the groups that have these names
abbrev at : Names → Text → Place
at names t = record { config = default_config; names = names; text = t }

-- behind no group, and behind one
abbrev no_group : Names
no_group = None ∷ []

abbrev one_group : Names
one_group = None ∷ None ∷ []

differs : (c d : ℕ) → is_special c ≡ false → is_special d ≡ true → (c == d) ≡ false
differs c d plain special = ne_eqb c d (λ e. both_ways _ plain (ap is_special e ∙ special))

no_skip : (t : Text) → t ≡ skip (is_verbose default_config) t
no_skip t = sym (skip-false t)

verbatim_itself : (c : ℕ) → verbatim default_config c false ≡ Some (literal (encode_utf8 c))
unfolding verbatim
verbatim_itself c = refl

atom_itself : (c : ℕ) (rest : Text) → is_special c ≡ false → atom default_config (c ∷ rest) ≡ Some (itself c, rest)
unfolding atom first char_meaning
atom_itself c rest plain = grind (arith, differs, verbatim_itself)

not_true : (b : Bool) → not b ≡ true → b ≡ false
not_true true h = absurd (true≢false (sym h))
not_true false h = refl

not_special : (c : ℕ) → (nat_lt c 128 && not (is_special c)) ≡ true → is_special c ≡ false
not_special c h = not_true (is_special c) (and_parts _ _ h).1

begins_no_group : (c : ℕ) (rest : Text) → is_special c ≡ false → (is_at "(" (c ∷ rest) ≡ false) × (ends_branch (c ∷ rest) ≡ false)
unfolding first
begins_no_group c rest plain = (differs c 40 plain refl, rw (differs c 124 plain refl, differs c 41 plain refl) (grind (arith)))

no_operator : (cs rest : Text) → is_plain cs ≡ true → is_at "?*+{" rest ≡ false → is_at "?*+{" (cs ++ rest) ≡ false
unfolding first
no_operator [] rest plain h = h
no_operator (c ∷ cs) rest plain h = grind arith

-- an atom that no operator of repetition follows is an item
item_of_atom : (names : Names) (inner : Place → Read (Nested Re)) (t rest : Text) (part : Nested Re) → is_at "(" t ≡ false
    → atom default_config t ≡ Some (part, rest) → is_at "?*+{" rest ≡ false → item inner (at names t) ≡ Some (part, at names rest)
unfolding item with_repetitions
item_of_atom names inner t rest part no_group read_atom h =
    rw (
      item,
      no_group,
      read_atom,
      with_repetitions,
      repetitions_end default_config (length rest + 1) (length rest) part rest rest (omega arith) (no_skip rest) h,
    )

-- and the branch goes on after it
branch_passes : (names : Names) (n m : ℕ) (earlier : List (Nested Re)) (t rest : Text) (part : Nested Re) → n ≡ m + 1
    → (is_at "(" t ≡ false) × (ends_branch t ≡ false) → atom default_config t ≡ Some (part, rest) → is_at "?*+{" rest ≡ false
    → join_after cat_all earlier (items n (at names t)) ≡ join_after cat_all (earlier ++ part ∷ []) (items m (at names rest))
branch_passes names n m earlier t rest part e begins read_atom h =
    branch_goes n m earlier (at names t) t (omega arith) (no_skip t) begins.1
    ∙ ap (λ o. o >>= more_parts m earlier) (item_of_atom names (group_inside m) t rest part begins.0 read_atom h)

-- a plain text is read as its characters
items_plain : (names : Names) (cs rest : Text) (n m : ℕ) (earlier : List (Nested Re)) → n ≡ length cs + m → is_plain cs ≡ true → is_at "?*+{" rest ≡ false
    → join_after cat_all earlier (items n (at names (cs ++ rest))) ≡ join_after cat_all (earlier ++ map itself cs) (items m (at names rest))
items_plain names [] rest n m earlier e plain h = grind (arith, join_after, append-nil)
items_plain names (c ∷ cs) rest n m earlier e plain h =
    let other = items_plain names cs rest (n - 1) m (earlier ++ itself c ∷ []) in
    grind (arith, and_parts, not_special, branch_passes, itself, begins_no_group, atom_itself, no_operator, join_after, append_assoc)

abbrev branch_of : Text → Nested Re
branch_of cs = join cat_all (map itself cs)

branch_reads : (names : Names) (cs rest : Text) (n : ℕ) → length cs < n → is_plain cs ≡ true → ends_branch rest ≡ true → is_at "?*+{" rest ≡ false
    → join_parts cat_all (items n (at names (cs ++ rest))) ≡ Some (branch_of cs, at names rest)
branch_reads names cs rest n longer plain ends h =
    join_parts_is cat_all _ ∙ (items_plain names cs rest n (n - length cs) [] (omega arith) plain h
    ∙ branch_ends (n - length cs) (n - length cs - 1) (map itself cs) (at names rest) rest (omega arith) (no_skip rest) ends)

not_ended : (c : ℕ) (t : Text) → is_at "|)" (c ∷ t) ≡ false → ends_branch (c ∷ t) ≡ false
not_ended c t h = rw h (grind arith)

ends_at : (t : Text) → is_at "|)" t ≡ true → ends_branch t ≡ true
ends_at t h = grind arith

-- texts with bars between them are read as branches
branches_read : (names : Names) (cs : Text) (others : List Text) (rest : Text) (n : ℕ) (earlier : List (Nested Re)) → length (with_bars cs others) + 1 < n
    → All (λ one. is_plain one ≡ true) (cs ∷ others) → ends_branch rest ≡ true → is_at "?*+{" rest ≡ false → is_at "|" rest ≡ false
    → join_after alt_all earlier (branches n (at names (with_bars cs others ++ rest)))
    ≡ Some (join alt_all (earlier ++ map branch_of (cs ∷ others)), at names rest)
unfolding first
branches_read names cs [] rest n earlier longer plain ends h no_bar =
    branches_go n (n - 1) earlier (at names (cs ++ rest)) (omega arith)
    ∙ (ap (λ o. o >>= more_branches (n - 1) earlier) (branch_reads names cs rest (n - 1) (omega arith) (plain 0 [] (omega arith)) ends h)
    ∙ rw no_bar (join_ends alt_all (earlier ++ branch_of cs ∷ []) (at names rest)))
branches_read names cs (other ∷ others) rest n earlier longer plain ends h no_bar =
    let w = with_bars other others in
    let lengths : length (with_bars cs (other ∷ others)) ≡ length cs + (1 + length w) = omega (arith, length-append cs (0x7C ∷ w)) in
    ap (λ t. join_after alt_all earlier (branches n (at names t))) (append_assoc cs (0x7C ∷ w) rest)
    ∙ (branches_go n (n - 1) earlier (at names (cs ++ 0x7C ∷ (w ++ rest))) (omega arith)
    ∙ (ap (λ o. o >>= more_branches (n - 1) earlier) (branch_reads names cs (0x7C ∷ (w ++ rest)) (n - 1) (omega (arith, lengths)) (plain 0 [] (omega arith)) (ends_at (0x7C ∷ (w ++ rest)) refl) refl)
    ∙ (branches_read names other others rest (n - 1) (earlier ++ branch_of cs ∷ []) (omega (arith, lengths)) (λ k d short. plain (suc k) d (omega arith)) ends h no_bar
    ∙ ap (λ l. Some (join alt_all l, at names rest)) (append_assoc earlier (branch_of cs ∷ []) (map branch_of (other ∷ others))))))

-- ---- a group

-- a part in a group, which makes something of what is inside
abbrev made : (Re → Re) → Nested Re → Nested Re
made make sub = record { value = make sub.value; depth = sub.depth + 1 }

group_closes : (before after : Names) (make : Re → Re) (inner : Place → Read (Nested Re)) (body tail : Text) (sub : Nested Re)
    → inner (at before body) ≡ Some (sub, at after (0x29 ∷ tail)) → is_at "?*+{" tail ≡ false
    → rest_of_group inner default_config (opens make) (at before body) ≡ Some (made make sub, at after tail)
unfolding with_repetitions first
group_closes before after make inner body tail sub reads h =
    rw (
      reads,
      with_repetitions,
      repetitions_end default_config (length tail + 1) (length tail) (made make sub) tail tail (omega arith) (no_skip tail) h,
    )

-- a group that captures begins
capture_opens : (inner : Place → Read (Nested Re)) (body : Text) → is_at "?" body ≡ false
    → item inner (at no_group (0x28 ∷ body)) ≡ rest_of_group inner default_config (opens (group 1)) (at one_group body)
unfolding item opening capture first skip
capture_opens inner [] h = refl
capture_opens inner (c ∷ body) h = rw (h, ne_eqb 63 c (λ e. both_ways _ h (ap (λ d. d == 63) (sym e)))) refl

no_question : (cs : Text) (others : List Text) (rest : Text) → All (λ one. is_plain one ≡ true) (cs ∷ others) → is_at "?" rest ≡ false
    → is_at "?" (with_bars cs others ++ rest) ≡ false
unfolding first
no_question [] [] rest plain h = h
no_question [] (other ∷ others) rest plain h = refl
no_question (c ∷ cs) [] rest plain h = differs c 63 (not_special c (and_parts _ _ (plain 0 [] (omega arith))).0) refl
no_question (c ∷ cs) (other ∷ others) rest plain h = differs c 63 (not_special c (and_parts _ _ (plain 0 [] (omega arith))).0) refl

-- the texts in a group, with what stands before it and behind it
abbrev captured : List Text → Nested Re
captured texts = made (group 1) (join alt_all (map branch_of texts))

abbrev branch_round : Text → Text → List Text → Nested Re
branch_round front back texts = join cat_all ((map itself front ++ captured texts ∷ []) ++ map itself back)

captured_reads : (cs : Text) (others : List Text) (tail : Text) (n : ℕ) → length (with_bars cs others) + 1 < n → All (λ one. is_plain one ≡ true) (cs ∷ others)
    → is_at "?*+{" tail ≡ false
    → item (group_inside n) (at no_group (0x28 ∷ (with_bars cs others ++ 0x29 ∷ tail))) ≡ Some (captured (cs ∷ others), at one_group tail)
unfolding first
captured_reads cs others tail n longer plain h =
    let rest = 0x29 ∷ tail in
    capture_opens (group_inside n) (with_bars cs others ++ rest) (no_question cs others rest plain refl)
    ∙ group_closes one_group one_group (group 1) (group_inside n) (with_bars cs others ++ rest) tail (join alt_all (map branch_of (cs ∷ others)))
    (join_parts_is alt_all _ ∙ branches_read one_group cs others rest n [] longer plain (ends_at rest refl) refl refl) h

abbrev with_group : Text → Text → Text → List Text → Text
with_group front back cs others = front ++ 0x28 ∷ (with_bars cs others ++ 0x29 ∷ back)

round_reads : (front back cs : Text) (others : List Text) (tail : Text) (n : ℕ) → length (with_group front back cs others) + 2 < n
    → is_plain front ≡ true → is_plain back ≡ true → All (λ one. is_plain one ≡ true) (cs ∷ others)
    → ends_branch tail ≡ true → is_at "?*+{" tail ≡ false
    → join_parts cat_all (items n (at no_group (with_group front back cs others ++ tail))) ≡ Some (branch_round front back (cs ∷ others), at one_group tail)
unfolding first
round_reads front back cs others tail n longer before behind plain ends h =
    let w = with_bars cs others in
    let rest = back ++ tail in
    let begun = 0x28 ∷ (w ++ 0x29 ∷ rest) in
    let m = n - length front in
    let k = m - 1 in
    let lengths : length (with_group front back cs others) ≡ length front + (length w + (length back + 2)) = omega (arith, length-append front (0x28 ∷ (w ++ 0x29 ∷ back)), length-append w (0x29 ∷ back)) in
    let parts = map itself front ++ captured (cs ∷ others) ∷ [] in
    join_parts_is cat_all _
    ∙ (ap (λ t. join_after cat_all [] (items n (at no_group t)))
    (append_assoc front (0x28 ∷ (w ++ 0x29 ∷ back)) tail ∙ ap (λ l. front ++ 0x28 ∷ l) (append_assoc w (0x29 ∷ back) tail))
    ∙ (items_plain no_group front begun n m [] (omega (arith, lengths)) before refl
    ∙ (branch_goes m k (map itself front) (at no_group begun) begun (omega (arith, lengths)) (no_skip begun) (not_ended 0x28 (w ++ 0x29 ∷ rest) refl)
    ∙ (ap (λ o. o >>= more_parts k (map itself front)) (captured_reads cs others rest k (omega (arith, lengths)) plain (no_operator back tail behind h))
    ∙ (items_plain one_group back tail k (k - length back) parts (omega (arith, lengths)) behind h
    ∙ branch_ends (k - length back) (k - length back - 1) (parts ++ map itself back) (at one_group tail) tail (omega (arith, lengths)) (no_skip tail) ends)))))

-- ---- between `^(?:` and `)$`

abbrev first_line : Nested Re
first_line = flat (look Start)

abbrev last_line : Nested Re
last_line = flat (look End)

abbrev closing : Text
closing = 0x29 ∷ 0x24 ∷ []

abbrev between : Text → Text
between body = 0x5E ∷ 0x28 ∷ 0x3F ∷ 0x3A ∷ (body ++ closing)

abbrev whole_branch : Nested Re → Nested Re
whole_branch sub = join cat_all (first_line ∷ made (λ re. re) sub ∷ last_line ∷ [])

group_opens : (inner : Place → Read (Nested Re)) (body : Text)
    → item inner (at no_group (0x28 ∷ 0x3F ∷ 0x3A ∷ body)) ≡ rest_of_group inner default_config (opens (λ re. re)) (at no_group body)
unfolding item opening set_flags first skip
group_opens inner body = refl

-- what is read inside a group is read between the anchors
anchored_reads : (after : Names) (body : Text) (sub : Nested Re) (n : ℕ) → 4 < n
    → join_after alt_all [] (branches (n - 2) (at no_group (body ++ closing))) ≡ Some (sub, at after closing)
    → join_after cat_all [] (items n (at no_group (between body))) ≡ Some (whole_branch sub, at after [])
unfolding first atom char_meaning
anchored_reads after body sub n longer reads =
    let begun = 0x28 ∷ 0x3F ∷ 0x3A ∷ (body ++ closing) in
    let inner = group_inside (n - 2) in
    branch_passes no_group n (n - 1) [] (0x5E ∷ begun) begun first_line (omega arith) (refl, not_ended 0x5E begun refl) refl refl
    ∙ (branch_goes (n - 1) (n - 2) (first_line ∷ []) (at no_group begun) begun (omega arith) (no_skip begun) (not_ended 0x28 (0x3F ∷ 0x3A ∷ (body ++ closing)) refl)
    ∙ (ap (λ o. o >>= more_parts (n - 2) (first_line ∷ []))
    (group_opens inner (body ++ closing) ∙ group_closes no_group after (λ re. re) inner (body ++ closing) (0x24 ∷ []) sub (join_parts_is alt_all _ ∙ reads) refl)
    ∙ (branch_passes after (n - 2) (n - 3) (first_line ∷ made (λ re. re) sub ∷ []) (0x24 ∷ []) [] last_line (omega arith) (refl, refl) refl refl
    ∙ branch_ends (n - 3) (n - 4) (first_line ∷ made (λ re. re) sub ∷ last_line ∷ []) (at after []) [] (omega arith) (no_skip []) refl)))

branch_is : (after : Names) (t : Text) (branch : Nested Re) → join_after cat_all [] (items (2 * length t + 1) (at no_group t)) ≡ Some (branch, at after [])
    → join_parts alt_all (branches (2 * length t + 2) (at no_group t)) ≡ Some (join alt_all (branch ∷ []), at after [])
unfolding first
branch_is after t branch h =
    join_parts_is alt_all _ ∙ (branches_go _ (2 * length t + 1) [] _ (omega arith)
    ∙ (ap (λ o. o >>= more_branches (2 * length t + 1) []) (join_parts_is cat_all _ ∙ h) ∙ join_ends alt_all (branch ∷ []) _))

-- the pattern of what is read inside a group
source_reads : (after : Names) (body : Text) (sub : Nested Re)
    → ((n : ℕ) → length body + 3 < n → join_after alt_all [] (branches n (at no_group (body ++ closing))) ≡ Some (sub, at after closing))
    → (names : Names) × (read default_config (between body) ≡ Some (join alt_all (whole_branch sub ∷ []), names))
unfolding read
source_reads after body sub reads =
    let t = between body in
    let lengths : length t ≡ length body + 6 = omega (arith, length-append body closing) in
    let n = 2 * length t + 1 in
    let whole = branch_is after t (whole_branch sub) (anchored_reads after body sub n (omega (arith, lengths)) (reads (n - 2) (omega (arith, lengths)))) in
    let pattern = (join alt_all (whole_branch sub ∷ [])).value in
    (names_below pattern after (max 1 (group_count pattern)), rw (read, whole) refl)

-- ---- these are texts of ASCII

low : (c : ℕ) → nat_lt c 128 ≡ true → c < 128
low c h = grind arith

ascii_plain : (cs : Text) → is_plain cs ≡ true → IsAscii cs
ascii_plain [] plain i = omega arith
ascii_plain (c ∷ cs) plain zero = low c (and_parts _ _ (and_parts _ _ plain).0).0
ascii_plain (c ∷ cs) plain (suc i) = ascii_plain cs (and_parts _ _ plain).1 i

ascii_append : (xs ys : Text) → IsAscii xs → IsAscii ys → IsAscii (xs ++ ys)
ascii_append [] ys one other i = other i
ascii_append (x ∷ xs) ys one other zero = one 0
ascii_append (x ∷ xs) ys one other (suc i) = ascii_append xs ys (λ k. one (suc k)) other i

ascii_bars : (cs : Text) (others : List Text) → All (λ one. is_plain one ≡ true) (cs ∷ others) → IsAscii (with_bars cs others)
ascii_bars cs [] plain = ascii_plain cs (plain 0 [] (omega arith))
ascii_bars cs (other ∷ others) plain =
    ascii_append cs (0x7C ∷ with_bars other others) (ascii_plain cs (plain 0 [] (omega arith)))
    (IsAscii-cons 0x7C (with_bars other others) (omega arith) (ascii_bars other others (λ k d short. plain (suc k) d (omega arith))))

ascii_between : (body : Text) → IsAscii body → IsAscii (between body)
ascii_between body of_body = grind (arith, IsAscii-cons, ascii_append)

-- ---- what is found

-- a text's characters match where the text stands
chooses_text : (cs : Text) → is_plain cs ≡ true → ChoosesAmong (cs ∷ []) (branch_of cs).value
chooses_text [] plain whole from to = chooses_nothing whole from to
chooses_text (c ∷ cs) plain whole from to =
    let parts = and_parts _ _ plain in
    let letter : literal (encode_utf8 c) ≡ literal (c ∷ []) = ap literal (encode_ascii c (low c (and_parts _ _ parts.0).0)) in
    let others = λ (i : ℕ). chooses_text cs parts.1 whole i to in
    let joined = stands_joined whole from to (c ∷ []) cs in
    let rest = chooses_text cs in
    grind arith

-- the branches match where one of the texts stands
chooses_texts : (texts : List Text) → All (λ one. is_plain one ≡ true) texts → ChoosesAmong texts (join alt_all (map branch_of texts)).value
chooses_texts [] plain whole from to = chooses_none whole from to
chooses_texts (text ∷ texts) plain whole from to =
    let one = chooses_text text (plain 0 [] (omega arith)) whole from to in
    let others = chooses_texts texts (λ k d short. plain (suc k) d (omega arith)) whole from to in
    let rest = chooses_texts texts in
    grind arith

whole_pattern : Re → Re
whole_pattern re = alt (cat (look Start) (cat re (cat (look End) empty))) (byte_in [])

at_start : (hay : List ℕ) (i : ℕ) → i ≤ length hay → holds Start hay i ≡ true → i ≡ 0
unfolding holds holds_between
at_start hay zero le h = refl
at_start hay (suc i) le h =
    let next : suc i ≡ i + 1 = omega arith in
    absurd (true≢false (sym h ∙ rw (next, byte_before-add-one hay i, slice_get-get_or hay i 0 (omega arith))))

at_end : (hay : List ℕ) (i : ℕ) → holds End hay i ≡ true → length hay ≤ i
unfolding holds holds_between
at_end hay i h =
    elim (cases_lt i (length hay)) [ inl lt ↦ absurd (true≢false (sym h ∙ rw (slice_get-get_or hay i 0 lt))) | inr ge ↦ ge ]

-- where the pattern is found, what it anchors matches the whole
whole_if_found : (re : Re) (hay : List ℕ) → IsSome (find_str (whole_pattern re) hay 0) → Matches hay re 0 (length hay)
unfolding whole_pattern find_str
whole_if_found re hay h =
    let found = value_of_IsSome _ h in
    let first = IsFirst-of_first_between _ 0 (length hay) found.0 found.1 in
    let sound = (find_str_sound (whole_pattern re) hay 0 found.0 found.1).1 in
    ⊎_elim
    (λ (m : Matches hay (cat (look Start) (cat re (cat (look End) empty))) found.0.start found.0.trace.end).
    let from : m.0 ≡ 0 = m.1.1 ∙ at_start hay found.0.start first.to m.1.0 in
    let within = Matches-IsSpan hay re m.0 m.2.0 m.2.1 in
    let to : m.2.0 ≡ length hay = omega (arith, within, at_end hay m.2.0 m.2.2.1.0) in
    rw (from, to) at m.2.1)
    (λ no. absurd (reads_no_byte hay found.0.start found.0.trace.end no))
    sound

-- and it is found in a text that what it anchors matches whole
found_if_whole : (re : Re) (hay : List ℕ) → IsUtf8 hay → Matches hay re 0 (length hay) → IsSome (find_str (whole_pattern re) hay 0)
unfolding whole_pattern holds holds_between
found_if_whole re hay utf8 m =
    find_str_complete _ hay 0 0 (length hay) (omega arith) (IsCharBoundary-start hay utf8)
    (inl (0, (rw (byte_before-zero hay), refl), (length hay, m, (length hay, (rw (slice_get_past hay (length hay) (omega arith)), refl), refl))))

-- one of some texts of ASCII is UTF-8
one_is_utf8 : (found : Text) (texts : List Text) → All IsAscii texts → is_one_of found texts ≡ true → IsUtf8 found
one_is_utf8 found [] ascii h = absurd (true≢false (sym h))
one_is_utf8 found (text ∷ texts) ascii h =
    ⊎_elim
    (λ same. subst IsUtf8 ((slice_eq-Decides Decides-eqb text found (same_text text found) refl).0 same) (IsUtf8-from_ascii text (ascii 0 [] (omega arith))))
    (λ other. one_is_utf8 found texts (λ k d short. ascii (suc k) d (omega arith)) other)
    (true_or (same_text text found) (is_one_of found texts) h)

-- what is read of a body is found in the texts that it chooses among
finds_texts : (body : Text) (sub : Nested Re) (texts : List Text) (names : Names) → IsAscii body
    → read default_config (between body) ≡ Some (join alt_all (whole_branch sub ∷ []), names)
    → All IsAscii texts → ChoosesAmong texts sub.value → (found : List ℕ) → finds (between body) found ≡ is_one_of found texts
unfolding whole_pattern
finds_texts body sub texts names ascii reads are chooses found =
    let is_found = λ (o : Option (Nested Re × Names)). option_map_or (λ p. is_some (find_str p.0.value found 0)) o false in
    let lists = one_is_whole found texts in
    ap is_found (ap (read default_config) (chars-IsAscii (between body) (ascii_between body ascii)) ∙ reads)
    ∙ same_truth (is_some (find_str (whole_pattern sub.value) found 0)) (is_one_of found texts)
    (λ h. lists.0 ((chooses found 0 (length found)).0 (whole_if_found sub.value found h)))
    (λ h. found_if_whole sub.value found (one_is_utf8 found texts are h) ((chooses found 0 (length found)).1 (lists.1 h)))

all_ascii : (texts : List Text) → All (λ one. is_plain one ≡ true) texts → All IsAscii texts
all_ascii texts plain = λ k d short. ascii_plain _ (plain k d short)

pub plain_texts_are_chosen : PlainTextsAreChosen
unfolding first
plain_texts_are_chosen text others plain =
    let texts = text ∷ others in
    let body = with_bars text others in
    let reads = source_reads no_group body (join alt_all (map branch_of texts)) (λ n longer. branches_read no_group text others closing n [] (omega arith) plain (ends_at closing refl) refl refl) in
    finds_texts body (join alt_all (map branch_of texts)) texts reads.0 (ascii_bars text others plain) reads.1 (all_ascii texts plain) (chooses_texts texts plain)

-- ---- with a group

ascii_round : (front back cs : Text) (others : List Text) → is_plain front ≡ true → is_plain back ≡ true → All (λ one. is_plain one ≡ true) (cs ∷ others)
    → IsAscii (with_group front back cs others)
ascii_round front back cs others before behind plain = search (rules, ascii_append, ascii_plain, IsAscii-cons, ascii_bars)

ascii_texts : (front back : Text) (texts : List Text) → is_plain front ≡ true → is_plain back ≡ true → All (λ one. is_plain one ≡ true) texts
    → All IsAscii (between_texts front back texts)
ascii_texts front back [] before behind plain k d short = absurd (omega arith)
ascii_texts front back (text ∷ texts) before behind plain zero d short =
    ascii_append front (text ++ back) (ascii_plain front before) (ascii_append text back (ascii_plain text (plain 0 [] (omega arith))) (ascii_plain back behind))
ascii_texts front back (text ∷ texts) before behind plain (suc k) d short =
    ascii_texts front back texts before behind (λ j e less. plain (suc j) e (omega arith)) k d (omega arith)

matches_parts : (whole : List ℕ) (from to : ℕ) (xs ys : List Re)
    → AreAlike (Matches whole (cat_all (xs ++ ys)) from to) ((i : ℕ) × Matches whole (cat_all xs) from i × Matches whole (cat_all ys) i to)
matches_parts whole from to [] ys = (λ h. (from, refl, h), λ h. subst (λ (begin : ℕ). Matches whole (cat_all ys) begin to) h.1 h.2)
matches_parts whole from to (x ∷ xs) ys = (
  λ h. let rest = (matches_parts whole h.0 to xs ys).0 h.2 in (rest.0, (h.0, h.1, rest.1), rest.2),
  λ h. (h.1.0, h.1.1, (matches_parts whole h.1.0 to xs ys).1 (h.0, h.1.2, h.2)),
)

abbrev values : List (Nested Re) → List Re
values parts = map (λ part. part.value) parts

-- the parts of a branch with a group match where one of the texts that it puts together stands
chooses_round : (front back : Text) (texts : List Text) → is_plain front ≡ true → is_plain back ≡ true → All (λ one. is_plain one ≡ true) texts
    → ChoosesAmong (between_texts front back texts) (cat_all ((values (map itself front) ++ (captured texts).value ∷ []) ++ values (map itself back)))
chooses_round front back texts before behind plain whole from to = (there, here)
  where
    inside : Re
    inside = (captured texts).value

    there : Matches whole (cat_all ((values (map itself front) ++ (captured texts).value ∷ []) ++ values (map itself back))) from to
        → OneStands whole (between_texts front back texts) from to
    there h =
        let two = (matches_parts whole from to (values (map itself front) ++ (captured texts).value ∷ []) (values (map itself back))).0 h in
        let one = (matches_parts whole from two.0 (values (map itself front)) ((captured texts).value ∷ [])).0 two.1 in
        let middle = subst (λ (end : ℕ). OneStands whole texts one.0 end) (sym one.2.2) ((chooses_texts texts plain whole one.0 one.2.0).0 one.2.1) in
        let first = ⊎_elim (λ a. a) (λ no. absurd no) ((chooses_text front before whole from one.0).0 one.1) in
        let last = ⊎_elim (λ a. a) (λ no. absurd no) ((chooses_text back behind whole two.0 to).0 two.2) in
        (stands_with_each whole from to front (map (λ part. part ++ back) texts)).0
        (one.0, first, (stands_before_each whole one.0 to texts back).0 (two.0, middle, last))

    here : OneStands whole (between_texts front back texts) from to
        → Matches whole (cat_all ((values (map itself front) ++ (captured texts).value ∷ []) ++ values (map itself back))) from to
    here h =
        let one = (stands_with_each whole from to front (map (λ part. part ++ back) texts)).1 h in
        let two = (stands_before_each whole one.0 to texts back).1 one.2 in
        (matches_parts whole from to (values (map itself front) ++ (captured texts).value ∷ []) (values (map itself back))).1 (
          two.0,
          (matches_parts whole from two.0 (values (map itself front)) ((captured texts).value ∷ [])).1
              (one.0, (chooses_text front before whole from one.0).1 (inl one.1), (two.0, (chooses_texts texts plain whole one.0 two.0).1 two.1, refl)),
          (chooses_text back behind whole two.0 to).1 (inl two.2),
        )

pub plain_groups_are_chosen : PlainGroupsAreChosen
unfolding first
plain_groups_are_chosen front back text others before behind plain =
    let texts = text ∷ others in
    let body = with_group front back text others in
    let branch = branch_round front back texts in
    let reads = source_reads one_group body (join alt_all (branch ∷ [])) (λ n longer.
    branches_go n (n - 1) [] (at no_group (body ++ closing)) (omega arith)
    ∙ (ap (λ o. o >>= more_branches (n - 1) []) (round_reads front back text others closing (n - 1) (omega arith) before behind plain (ends_at closing refl) refl)
    ∙ join_ends alt_all (branch ∷ []) (at one_group closing))) in
    finds_texts body (join alt_all (branch ∷ [])) (between_texts front back texts) reads.0
    (ascii_round front back text others before behind plain) reads.1 (ascii_texts front back texts before behind plain)
    (λ whole from to.
    let parts = chooses_round front back texts before behind plain whole from to in
    let same : values ((map itself front ++ captured texts ∷ []) ++ map itself back) ≡ (values (map itself front) ++ (captured texts).value ∷ []) ++ values (map itself back) =
    map-append (λ part. part.value) (map itself front ++ captured texts ∷ []) (map itself back)
    ∙ ap (λ l. l ++ values (map itself back)) (map-append (λ part. part.value) (map itself front) (captured texts ∷ [])) in (
      λ h. parts.0 (⊎_elim (λ a. subst (λ (l : List Re). Matches whole (cat_all l) from to) same a) (λ no. absurd (reads_no_byte whole from to no)) h),
      λ h. inl (subst (λ (l : List Re). Matches whole (cat_all l) from to) (sym same) (parts.1 h)),
    ))
