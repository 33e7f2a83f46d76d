-- What an index of routes finds, and that it passes over no route that may match.
use Rattle.std.proofs.Common.{◌≡◌, ℕ, zero, suc, ◌+◌, ◌<◌, ◌≤◌, Bool, true, false, cond, ◌&&◌, ◌||◌, List, [], ◌∷◌, ◌++◌, Option, Some, None, length, get_or, take, drop, ◌-◌, nat_eq, nat_le, bytes_eq, refl, sym, ap, subst, ◌∙◌, arith, rules}
use Rattle.std.proofs.lemmas.List.{take_more, length-take-le}
use Rattle.std.specs.Cmp.Lexicographic.{bytes_decides}
use Rattle.std.specs.List.{AllByRecursion, find, list_any, list_all, slice_get}
use Rattle.std.specs.List.Sorted.{IsNonDecreasing}
use Rattle.am_labels.specs.LabelSets.{Labels, value_of}
use Rattle.am_matchers.specs.Matchers.{MatcherView, admitted, all_admitted}
use Rattle.am_config.specs.declared.route.Route.{Route}
use Rattle.am_config.specs.Routes.{Forest, no_routes, route, count_of}
use Rattle.am_config.specs.RouteLists.{route_view, forest_of}
use Rattle.am_routes.specs.declared.child_entry.ChildEntry.{ChildEntry}
use Rattle.am_routes.specs.declared.name_index.NameIndex.{NameIndex}
use Rattle.am_routes.specs.Looking.{is_equal, first_equality, may_match}
use Rattle.am_routes.specs.inside.ChildIndexes.{ChildView, children_from, offsets_from, child_entry_of, entries_from, has_no_routes, filings, places_from, is_unfiled, is_filed, indexes_kept, has_name, is_found, is_kept, is_met, IsFirstFrom, earlier, without, places_left, IsIndexOf, AreLeftOf}

-- ---- places

pub places-push : {X : Type 0} (test : X → Bool) (at : ℕ) (xs : List X) (x : X) → places_from test at (xs ++ x ∷ []) ≡ places_from test at xs ++ cond (test x) ((at + length xs) ∷ []) []
places-push test at [] x = let here : at ≡ at + 0 = omega arith in ap (λ n. cond (test x) (n ∷ []) []) here
places-push test at (first ∷ xs) x = let rest = places-push test (at + 1) xs x in grind arith

least_first : (at : ℕ) (rest : List ℕ) → ((i d : ℕ) → i < length rest → at + 1 ≤ get_or rest i d) → (i d : ℕ) → i < length (at ∷ rest) → at ≤ get_or (at ∷ rest) i d
least_first at rest later zero d h = omega arith
least_first at rest later (suc i) d h = let above : at + 1 ≤ get_or rest i d = later i d (omega arith) in omega arith

at_least : {X : Type 0} (test : X → Bool) (at : ℕ) (xs : List X) (i d : ℕ) → i < length (places_from test at xs) → at ≤ get_or (places_from test at xs) i d
at_least test at [] i d = λ h. absurd (omega arith)
at_least test at (x ∷ xs) i d =
    let later : (i d : ℕ) → i < length (places_from test (at + 1) xs) → at + 1 ≤ get_or (places_from test (at + 1) xs) i d = at_least test (at + 1) xs in
    grind (arith, least_first)

rises_first : (at : ℕ) (rest : List ℕ) → ((i d : ℕ) → i < length rest → at + 1 ≤ get_or rest i d) → IsNonDecreasing rest → IsNonDecreasing (at ∷ rest)
rises_first at rest later rise zero zero d h k = omega arith
rises_first at rest later rise zero (suc j) d h k = let above : at + 1 ≤ get_or rest j d = later j d (omega arith) in omega arith
rises_first at rest later rise (suc i) zero d h k = absurd (omega arith)
rises_first at rest later rise (suc i) (suc j) d h k = rise i j d (omega arith) (omega arith)

-- indexes rise
pub places-rise : {X : Type 0} (test : X → Bool) (at : ℕ) (xs : List X) → IsNonDecreasing (places_from test at xs)
places-rise test at [] = λ i j d h k. absurd (omega arith)
places-rise test at (x ∷ xs) = let rest = places-rise test (at + 1) xs in grind (arith, at_least, rises_first)

-- what fails before an index and passes there is found there
pub found-at : {X : Type 0} (test : X → Bool) (xs : List X) (i : ℕ) → ((k : ℕ) (d : X) → k < i → test (get_or xs k d) ≡ false) → ((d : X) → i < length xs → test (get_or xs i d) ≡ true) → slice_get xs i ≡ find test xs
found-at test [] i before at = refl
found-at test (x ∷ xs) zero before at = sym (ap (λ b. cond b (Some x) (find test xs)) (at x (omega arith)))
found-at test (x ∷ xs) (suc i) before at =
    found-at test xs i (λ k d h. before (suc k) d (omega arith)) (λ d h. at d (omega arith))
    ∙ sym (ap (λ b. cond b (Some x) (find test xs)) (before 0 x (omega arith)))

-- ---- the first from an index on

-- the first among elements that are counted from a number
abbrev IsFound : {X : Type 0} → (X → Bool) → ℕ → ℕ → List X → Option ℕ → Type 0
IsFound {X} test from n xs None = (j : ℕ) → (x : X) → from ≤ n + j → slice_get xs j ≡ Some x → test x ≡ false
IsFound {X} test from n xs (Some at) =
    (j : ℕ) × (at ≡ n + j) × (from ≤ at) × ((x : X) × (slice_get xs j ≡ Some x) × (test x ≡ true))
    × ((i : ℕ) → (x : X) → from ≤ n + i → i < j → slice_get xs i ≡ Some x → test x ≡ false)

later_found : {X : Type 0} (test : X → Bool) (from n : ℕ) (x : X) (xs : List X) (found : Option ℕ) → (from ≤ n → test x ≡ false) → IsFound test from (n + 1) xs found → IsFound test from n (x ∷ xs) found
later_found {X} test from n x xs None fails rest = grind arith
later_found {X} test from n x xs (Some at) fails rest = (suc rest.0, omega (arith, rest.1), rest.2, rest.3, before)
  where
    before : (i : ℕ) → (y : X) → from ≤ n + i → i < suc rest.0 → slice_get (x ∷ xs) i ≡ Some y → test y ≡ false
    before zero y h k is = let same : x ≡ y = (cc) in subst (λ z. test z ≡ false) same (fails (omega arith))
    before (suc i) y h k is = rest.4 i y (omega arith) (omega arith) is

is_found_from : {X : Type 0} (test : X → Bool) (from n : ℕ) (xs : List X) → IsFound test from n xs (find (nat_le from) (places_from test n xs))
is_found_from test from n [] = λ j x h is. absurd (cc)
is_found_from {X} test from n (x ∷ xs) = let rest = is_found_from test from (n + 1) xs in grind (arith, later_found)

-- the first of the indexes of what passes, from one on
pub first-place : {X : Type 0} (test : X → Bool) (from : ℕ) (xs : List X) → IsFirstFrom test from xs (find (nat_le from) (places_from test 0 xs))
first-place {X} test from xs = grind (arith, is_found_from)

pub first-alike : {X : Type 0} (one other : X → Bool) (from : ℕ) (xs : List X) (found : Option ℕ) → ((k : ℕ) (x : X) → slice_get xs k ≡ Some x → one x ≡ other x) → IsFirstFrom one from xs found → IsFirstFrom other from xs found
first-alike one other from xs None alike first = λ k x h is. sym (alike k x is) ∙ first k x h is
first-alike one other from xs (Some at) alike first =
    (first.0, (first.1.0, first.1.1, sym (alike at first.1.0 first.1.1) ∙ first.1.2), λ k x h less is. sym (alike k x is) ∙ first.2 k x h less is)

neither : (a b : Bool) → a ≡ false → b ≡ false → (a || b) ≡ false
neither false false s t = refl
neither true b s t = absurd (cc)
neither false true s t = absurd (cc)

left_holds : (a b : Bool) → a ≡ true → (a || b) ≡ true
left_holds true b s = refl
left_holds false b s = absurd (cc)

right_holds : (a b : Bool) → b ≡ true → (a || b) ≡ true
right_holds true b s = refl
right_holds false b s = s

-- ---- the indexes that are left

slice_get-drop : {X : Type 0} (k : ℕ) (xs : List X) (i j : ℕ) → j ≡ k + i → slice_get (drop k xs) i ≡ slice_get xs j
slice_get-drop zero xs i j e = let same : i ≡ j = omega arith in ap (slice_get xs) same
slice_get-drop (suc k) [] i j e = refl
slice_get-drop (suc k) (x ∷ xs) i zero e = absurd (omega arith)
slice_get-drop (suc k) (x ∷ xs) i (suc j) e = slice_get-drop k xs i j (omega arith)

first_counted : {X : Type 0} (test : X → Bool) (from n : ℕ) (xs : List X) → from ≤ n → IsFound test from n xs (slice_get (places_from test n xs) 0)
first_counted test from n [] low = λ j x h is. absurd (cc)
first_counted {X} test from n (x ∷ xs) low = let rest = first_counted test from (n + 1) xs in grind (arith, later_found)

-- the first of them is the first that passes
pub first-left : {X : Type 0} (test : X → Bool) (from : ℕ) (xs : List X) → IsFirstFrom test from xs (slice_get (places_left test from xs) 0)
first-left {X} test from xs = counted (slice_get (places_left test from xs) 0) (first_counted test from from (drop from xs) (omega arith))
  where
    counted : (found : Option ℕ) → IsFound test from from (drop from xs) found → IsFirstFrom test from xs found
    counted None none = λ k x h is. none (k - from) x (omega arith) (slice_get-drop from xs (k - from) k (omega arith) ∙ is)
    counted (Some at) some = (
      some.2,
      (some.3.0, sym (slice_get-drop from xs some.0 at some.1) ∙ some.3.1, some.3.2),
      λ k x h less is. some.4 (k - from) x (omega arith) (omega (arith, some.1)) (slice_get-drop from xs (k - from) k (omega arith) ∙ is),
    )

-- what stays the same at each step is the same at the end
pub same-along : {X : Type 0} (F : ℕ → X) (from steps : ℕ) → ((k : ℕ) → from ≤ k → k < from + steps → F k ≡ F (suc k)) → F from ≡ F (from + steps)
same-along F from zero step = let here : from ≡ from + 0 = omega arith in ap F here
same-along F from (suc steps) step = let rest = same-along F from steps in grind arith

left_passed : {X : Type 0} (test : X → Bool) (n k : ℕ) (xs : List X) → ((x : X) → slice_get xs k ≡ Some x → test x ≡ false) → places_from test n (drop k xs) ≡ places_from test (n + 1) (drop (suc k) xs)
left_passed test n zero [] fails = refl
left_passed test n (suc k) [] fails = refl
left_passed test n zero (x ∷ xs) fails = ap (λ b. cond b (n ∷ places_from test (n + 1) xs) (places_from test (n + 1) xs)) (fails x refl)
left_passed test n (suc k) (x ∷ xs) fails = left_passed test n k xs fails

not_first : (n : ℕ) (places : List ℕ) → ((i d : ℕ) → i < length places → n + 1 ≤ get_or places i d) → without n places ≡ places
not_first n [] above = refl
not_first n (place ∷ places) above = let up : n + 1 ≤ place = above 0 0 (omega arith) in grind arith

left_without : {X : Type 0} (test : X → Bool) (n k : ℕ) (xs : List X) → without n (places_from test n (drop k xs)) ≡ places_from test (n + 1) (drop (suc k) xs)
left_without test n zero [] = refl
left_without test n (suc k) [] = refl
left_without test n zero (x ∷ xs) = grind (arith, not_first, at_least)
left_without test n (suc k) (x ∷ xs) = left_without test n k xs

-- those after one before which none passes
pub left-past : {X : Type 0} (test : X → Bool) (from at : ℕ) (xs : List X) → from ≤ at → ((k : ℕ) (x : X) → from ≤ k → k < at → slice_get xs k ≡ Some x → test x ≡ false)
    → without at (places_left test from xs) ≡ places_left test (at + 1) xs
left-past test from at xs reach before =
    let steps = at - from in
    let on : from + steps ≡ at = omega arith in
    let next : suc at ≡ at + 1 = omega arith in
    let step : (k : ℕ) → from ≤ k → k < from + steps → places_left test k xs ≡ places_left test (suc k) xs =
    λ k h less. let more : k + 1 ≡ suc k = omega arith in left_passed test k k xs (λ x is. before k x h (omega arith) is) ∙ ap (λ n. places_from test n (drop (suc k) xs)) more in
    ap (without at) (same-along (λ k. places_left test k xs) from steps step ∙ ap (λ k. places_left test k xs) on)
    ∙ (left_without test at at xs ∙ ap (λ k. places_from test (at + 1) (drop k xs)) next)

pub places-none : {X : Type 0} (at : ℕ) (xs : List X) → [] ≡ places_from (λ x. false) at xs
places-none at [] = refl
places-none at (x ∷ xs) = places-none (at + 1) xs

-- ---- one test or another

pub first-either : {X : Type 0} (one other : X → Bool) (from : ℕ) (xs : List X) (a b : Option ℕ) → IsFirstFrom one from xs a → IsFirstFrom other from xs b → IsFirstFrom (λ x. one x || other x) from xs (earlier a b)
first-either one other from xs None None p q = λ k x h is. neither (one x) (other x) (p k x h is) (q k x h is)
first-either one other from xs None (Some at) p q = grind arith
first-either one other from xs (Some at) None p q = grind arith
first-either one other from xs (Some a) (Some b) p q = grind arith

-- ---- what routes are filed under

pub filings-push : (rs : List Route) (r : Route) → filings (forest_of (rs ++ r ∷ [])) ≡ filings (forest_of rs) ++ first_equality r.matchers ∷ []
filings-push [] r = refl
filings-push (one ∷ rs) r = ap (λ l. first_equality one.matchers ∷ l) (filings-push rs r)

pub filings-more : (rs : List Route) (i : ℕ) (r : Route) → i < length rs → r ≡ get_or rs i r → filings (forest_of (take (i + 1) rs)) ≡ filings (forest_of (take i rs)) ++ first_equality r.matchers ∷ []
filings-more rs i r early is =
    ap (λ l. filings (forest_of l)) (take_more rs i r early ∙ ap (λ one. take i rs ++ one ∷ []) (sym is))
    ∙ filings-push (take i rs) r

pub length-filings : (rs : List Route) → length (filings (forest_of rs)) ≡ length rs
length-filings [] = refl
length-filings (r ∷ rs) = let rest : length (filings (forest_of rs)) ≡ length rs = length-filings rs in omega arith

-- a route more adds its index, if it passes
pub places-step : (test : Option MatcherView → Bool) (rs : List Route) (i : ℕ) (r : Route) → i < length rs → r ≡ get_or rs i r
    → places_from test 0 (filings (forest_of (take (i + 1) rs))) ≡ places_from test 0 (filings (forest_of (take i rs))) ++ cond (test (first_equality r.matchers)) (i ∷ []) []
places-step test rs i r early is =
    let before = filings (forest_of (take i rs)) in
    let long : 0 + length before ≡ i = omega (arith, length-filings (take i rs), length-take-le i rs (omega arith)) in
    ap (places_from test 0) (filings-more rs i r early is)
    ∙ (places-push test 0 before (first_equality r.matchers)
    ∙ ap (λ n. places_from test 0 before ++ cond (test (first_equality r.matchers)) (n ∷ []) []) long)

equality_is_equal : (matchers : List MatcherView) (m : MatcherView) → first_equality matchers ≡ Some m → is_equal m.operator ≡ true
equality_is_equal [] m is = absurd (cc)
equality_is_equal (one ∷ matchers) m is = let rest = equality_is_equal matchers m in grind arith

-- a route is filed under a matcher that asks for one value
pub filed-equal : (f : Forest) (k : ℕ) (m : MatcherView) → slice_get (filings f) k ≡ Some (Some m) → is_equal m.operator ≡ true
filed-equal no_routes k m is = absurd (cc)
filed-equal (route first below others) zero m is = let same : first_equality first.matchers ≡ Some m = (cc) in equality_is_equal first.matchers m same
filed-equal (route first below others) (suc k) m is = filed-equal others k m is

-- a route whose first equality matcher fails doesn't match
pub filed-fails : (labels : Labels) (matchers : List MatcherView) → may_match labels (first_equality matchers) ≡ false → all_admitted matchers labels ≡ false
filed-fails labels [] fails = absurd (cc)
filed-fails labels (one ∷ matchers) fails = let rest = filed-fails labels matchers in grind arith

-- ---- which are found

all_get : {X : Type 0} (test : X → Bool) (xs : List X) (k : ℕ) (x : X) → list_all test xs ≡ true → slice_get xs k ≡ Some x → test x ≡ true
all_get test [] k x all is = absurd (cc)
all_get test (y ∷ xs) zero x all is = grind arith
all_get test (y ∷ xs) (suc k) x all is = let rest = all_get test xs k x in grind arith

-- the index of a name keeps for the label's value exactly what asks for it
met_by : (labels : Labels) (m : MatcherView) (indexes : List NameIndex)
    → list_any (λ index. is_filed index.name.now (value_of labels index.name.now) (Some m)) indexes ≡ (has_name m.name indexes && bytes_eq (value_of labels m.name) m.value)
met_by labels m [] = refl
met_by labels m (index ∷ indexes) =
    let rest = met_by labels m indexes in
    let same = bytes_decides m.name index.name.now in
    grind arith

admitted_equal : (labels : Labels) (m : MatcherView) → is_equal m.operator ≡ true → admitted m labels ≡ bytes_eq (value_of labels m.name) m.value
admitted_equal labels m is = grind arith

-- what is found is what may match
pub met-may_match : (labels : Labels) (indexes : List NameIndex) (f : Forest) (k : ℕ) (filing : Option MatcherView) → list_all (is_found indexes) (filings f) ≡ true → slice_get (filings f) k ≡ Some filing → is_met labels indexes filing ≡ may_match labels filing
met-may_match labels indexes f k None all is = refl
met-may_match labels indexes f k (Some m) all is =
    met_by labels m indexes
    ∙ (ap (λ b. b && bytes_eq (value_of labels m.name) m.value) (all_get (is_found indexes) (filings f) k (Some m) all is)
    ∙ sym (admitted_equal labels m (filed-equal f k m is)))

-- ---- a route at an index

-- whether there are no routes shows in their list
pub none-of_routes : (rs : List Route) (f : Forest) → forest_of rs ≡ f → (nat_eq (length rs) 0) ≡ has_no_routes f
none-of_routes [] f is = ap has_no_routes is
none-of_routes (r ∷ rs) f is = let some : nat_eq (length (r ∷ rs)) 0 ≡ false = grind arith in some ∙ ap has_no_routes is

abbrev pub seen : ℕ → Route → ChildView
seen offset r = record { offset = offset; first = route_view r; below = r.children }

-- by what is kept of it
pub child-at : (offset : ℕ) (rs : List Route) (at : ℕ) (r : Route) (own : ChildEntry) → at < length rs → r ≡ get_or rs at r → own ≡ get_or (entries_from offset (forest_of rs)) at own
    → (slice_get (children_from offset (forest_of rs)) at ≡ Some (seen own.offset r)) × (own ≡ child_entry_of (seen own.offset r))
child-at offset [] at r own early is comes = absurd (omega arith)
child-at offset (one ∷ rs) zero r own early is comes = grind arith
child-at offset (one ∷ rs) (suc at) r own early is comes = child-at (offset + 1 + count_of one.children) rs at r own (omega arith) is comes

-- by how far it comes after the route above it
pub entry-at : (offset : ℕ) (rs : List Route) (at : ℕ) (r : Route) (own : ℕ) (d : ChildEntry) → at < length rs → r ≡ get_or rs at r → own ≡ get_or (offsets_from offset (forest_of rs)) at own
    → get_or (entries_from offset (forest_of rs)) at d ≡ child_entry_of (seen own r)
entry-at offset [] at r own d early is comes = absurd (omega arith)
entry-at offset (one ∷ rs) zero r own d early is comes = grind arith
entry-at offset (one ∷ rs) (suc at) r own d early is comes = entry-at (offset + 1 + count_of one.children) rs at r own d (omega arith) is comes

pub length-entries : (offset : ℕ) (rs : List Route) → length (entries_from offset (forest_of rs)) ≡ length rs
length-entries offset [] = refl
length-entries offset (r ∷ rs) = let rest : length (entries_from (offset + 1 + count_of r.children) (forest_of rs)) ≡ length rs = length-entries (offset + 1 + count_of r.children) rs in omega arith

pub length-offsets : (offset : ℕ) (rs : List Route) → length (offsets_from offset (forest_of rs)) ≡ length rs
length-offsets offset [] = refl
length-offsets offset (r ∷ rs) = let rest : length (offsets_from (offset + 1 + count_of r.children) (forest_of rs)) ≡ length rs = length-offsets (offset + 1 + count_of r.children) rs in omega arith

pub offsets-push : (offset : ℕ) (rs : List Route) (r : Route) → offsets_from offset (forest_of (rs ++ r ∷ [])) ≡ offsets_from offset (forest_of rs) ++ (offset + count_of (forest_of rs)) ∷ []
offsets-push offset [] r = let here : offset ≡ offset + 0 = omega arith in ap (λ n. n ∷ []) here
offsets-push offset (one ∷ rs) r = let rest = offsets-push (offset + 1 + count_of one.children) rs r in grind arith

pub offsets-more : (offset : ℕ) (rs : List Route) (i : ℕ) (r : Route) → i < length rs → r ≡ get_or rs i r
    → offsets_from offset (forest_of (take (i + 1) rs)) ≡ offsets_from offset (forest_of (take i rs)) ++ (offset + count_of (forest_of (take i rs))) ∷ []
offsets-more offset rs i r early is =
    ap (λ l. offsets_from offset (forest_of l)) (take_more rs i r early ∙ ap (λ one. take i rs ++ one ∷ []) (sym is))
    ∙ offsets-push offset (take i rs) r

-- ---- keeping indexes

pub all_by-push : {X : Type 0} (P : X → Type 0) (xs : List X) (x : X) → AllByRecursion P xs → P x → AllByRecursion P (xs ++ x ∷ [])
all_by-push P [] x all one = (one, tt)
all_by-push P (y ∷ xs) x all one = (all.0, all_by-push P xs x all.1 one)

pub all_by-get : {X : Type 0} (P : X → Type 0) (xs : List X) (i : ℕ) (d : X) → AllByRecursion P xs → i < length xs → P (get_or xs i d)
all_by-get P [] i d all early = absurd (omega arith)
all_by-get P (x ∷ xs) zero d all early = all.0
all_by-get P (x ∷ xs) (suc i) d all early = all_by-get P xs i d all.1 (omega arith)

list_any-push : {X : Type 0} (test : X → Bool) (xs : List X) (x : X) → list_any test (xs ++ x ∷ []) ≡ (list_any test xs || test x)
list_any-push test [] x = elim (test x) as (λ b. (b || false) ≡ b) [ true ↦ refl | false ↦ refl ]
list_any-push test (y ∷ xs) x = let rest = list_any-push test xs x in grind arith

list_all-push : {X : Type 0} (test : X → Bool) (xs : List X) (x : X) → list_all test xs ≡ true → test x ≡ true → list_all test (xs ++ x ∷ []) ≡ true
list_all-push test [] x all one = ap (λ b. b && true) one
list_all-push test (y ∷ xs) x all one = let rest = list_all-push test xs x in grind arith

pub named-more : (name : List ℕ) (indexes : List NameIndex) (index : NameIndex) → has_name name indexes ≡ true → has_name name (indexes ++ index ∷ []) ≡ true
named-more name indexes index is = list_any-push (λ (index : NameIndex). bytes_eq name index.name.now) indexes index ∙ left_holds (has_name name indexes) (bytes_eq name index.name.now) is

pub named-push : (name : List ℕ) (indexes : List NameIndex) (index : NameIndex) → index.name.now ≡ name → has_name name (indexes ++ index ∷ []) ≡ true
named-push name indexes index is = search (rules, list_any-push, right_holds)

-- what is found stays found with an index more
found_more : (indexes : List NameIndex) (index : NameIndex) (all : List (Option MatcherView)) → list_all (is_found indexes) all ≡ true → list_all (is_found (indexes ++ index ∷ [])) all ≡ true
found_more indexes index [] found = refl
found_more indexes index (None ∷ all) found = found_more indexes index all found
found_more indexes index (Some m ∷ all) found =
    let rest = found_more indexes index all in
    grind (arith, named-more)

-- a route whose name is found already
pub found-step : (indexes : List NameIndex) (rs : List Route) (i : ℕ) (r : Route) → i < length rs → r ≡ get_or rs i r → list_all (is_found indexes) (filings (forest_of (take i rs))) ≡ true → is_found indexes (first_equality r.matchers) ≡ true
    → list_all (is_found indexes) (filings (forest_of (take (i + 1) rs))) ≡ true
found-step indexes rs i r early is found one =
    ap (list_all (is_found indexes)) (filings-more rs i r early is)
    ∙ list_all-push (is_found indexes) (filings (forest_of (take i rs))) (first_equality r.matchers) found one

-- one whose name begins an index
pub found-begins : (indexes : List NameIndex) (index : NameIndex) (rs : List Route) (i : ℕ) (r : Route) → i < length rs → r ≡ get_or rs i r → list_all (is_found indexes) (filings (forest_of (take i rs))) ≡ true → is_found (indexes ++ index ∷ []) (first_equality r.matchers) ≡ true
    → list_all (is_found (indexes ++ index ∷ [])) (filings (forest_of (take (i + 1) rs))) ≡ true
found-begins indexes index rs i r early is found one = found-step (indexes ++ index ∷ []) rs i r early is (found_more indexes index (filings (forest_of (take i rs))) found) one

-- the first of the places that are kept
pub kept-first : {X : Type 0} (test : X → Bool) (places : List ℕ) (from : ℕ) (xs : List X) (found : Option ℕ) → (IsNonDecreasing places → found ≡ find (nat_le from) places) → places ≡ places_from test 0 xs → IsFirstFrom test from xs found
kept-first test places from xs found answer are = grind (arith, places-rise, first-place)

-- with one more those too that it keeps for the label's value
pub met-more : (labels : Labels) (indexes : List NameIndex) (index : NameIndex) (filing : Option MatcherView)
    → (is_met labels indexes filing || is_filed index.name.now (value_of labels index.name.now) filing) ≡ is_met labels (indexes ++ index ∷ []) filing
met-more labels indexes index filing = grind (arith, list_any-push)

-- what can't match has an equality matcher, and the first of the indexes doesn't keep it
pub unfiled-fails : (labels : Labels) (filing : Option MatcherView) → may_match labels filing ≡ false → is_unfiled filing ≡ false
unfiled-fails labels None fails = fails
unfiled-fails labels (Some m) fails = refl

first_fails : (labels : Labels) (indexes : List NameIndex) (filing : Option MatcherView) → is_met labels indexes filing ≡ false → is_kept labels (take 1 indexes) filing ≡ false
first_fails labels [] filing fails = refl
first_fails labels (index ∷ indexes) filing fails = grind arith

pub kept-fails : (labels : Labels) (indexes : List NameIndex) (f : Forest) (k : ℕ) (filing : Option MatcherView) → list_all (is_found indexes) (filings f) ≡ true → slice_get (filings f) k ≡ Some filing → may_match labels filing ≡ false → is_kept labels (take 1 indexes) filing ≡ false
kept-fails labels indexes f k filing all is fails = first_fails labels indexes filing (met-may_match labels indexes f k filing all is ∙ fails)

pub filed-none : (labels : Labels) (indexes : List NameIndex) (all : List (Option MatcherView)) → slice_get indexes 0 ≡ None → [] ≡ places_left (is_kept labels (take 1 indexes)) 0 all
filed-none labels [] all none = places-none 0 all
filed-none labels (index ∷ indexes) all none = absurd (cc)

pub filed-first : (labels : Labels) (indexes : List NameIndex) (index : NameIndex) (all : List (Option MatcherView)) → slice_get indexes 0 ≡ Some index → AllByRecursion (IsIndexOf all) indexes
    → indexes_kept (value_of labels index.name.now) index ≡ places_left (is_kept labels (take 1 indexes)) 0 all
filed-first labels [] index all some are = absurd (cc)
filed-first labels (one ∷ indexes) index all some are = grind arith

-- what is left after the first one that may match
pub left-after : (labels : Labels) (from : ℕ) (routes : Forest) (entries : List ChildEntry) (unfiled filed : List ℕ) (indexes : List NameIndex) (at : ℕ)
    → AreLeftOf labels from routes entries unfiled filed indexes → IsFirstFrom (may_match labels) from (filings routes) (Some at)
    → AreLeftOf labels (at + 1) routes entries (without at unfiled) (without at filed) indexes
left-after labels from routes entries unfiled filed indexes at left first =
    let all = filings routes in (
      left.0,
      ap (without at) left.1
          ∙ left-past is_unfiled from at all first.0 (λ k filing h less is. unfiled-fails labels filing (first.2 k filing h less is)),
      ap (without at) left.2
          ∙ left-past (is_kept labels (take 1 indexes)) from at all first.0 (λ k filing h less is. kept-fails labels indexes routes k filing left.3.1 is (first.2 k filing h less is)),
      left.3,
    )
