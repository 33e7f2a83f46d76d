-- The map that pairs in byte order of names make.
use Rattle.std.proofs.Common.{◌≡◌, ℕ, Option, unwrap_or, List, [], ◌∷◌, ◌++◌, length, reverse, refl, sym, ap, subst, None, ◌∙◌, T, ◌&&◌, true, false, Less, Equal, Greater, arith}
use Rattle.std.specs.FinMap.{entries, empty, from_entries, from_sorted, entries-from_sorted, entries-insert, len, len-entries, empty_of_len, get-entries, get-from_entries, from_entries_push, slice_cmp-IsAntisymmetric, nat_cmp-IsAntisymmetric, entries_sorted, same_entries_map, contains_key}
use Rattle.std.specs.FinMap.Entries.{put, is_sorted, below_all, find}
use Rattle.std.specs.Cmp.Lexicographic.{nat_list_cmp_total}
use Rattle.std.specs.BTreeMap.{insert_entry}
use Rattle.std.specs.Option.{is_some}
use Rattle.std.proofs.lemmas.List.{reverse-append}
use Rattle.std.specs.Ordering.{is_lt, is_ge}
use Rattle.std.specs.declared.cmp.Ordering.{Ordering}
use Rattle.std.proofs.lemmas.Bool.{and_parts, and_from}
use Rattle.am_labels.specs.Texts.{text_cmp}
use Rattle.am_labels.proofs.LabelSets.Searches.{both, less}
use Rattle.am_labels.specs.LabelSets.{Labels, last_holds, value_of}

-- the map of no pairs
pub from_none : (pairs : List (List ℕ × List ℕ)) → pairs ≡ [] → from_sorted {R = text_cmp} pairs ≡ empty
from_none pairs e = ap (from_sorted {R = text_cmp}) e ∙ empty_of_len _ (len-entries _ ∙ ap length (entries-from_sorted text_cmp [] tt))

pub len_sorted : (pairs : List (List ℕ × List ℕ)) → T (is_sorted text_cmp pairs) → len (from_sorted {R = text_cmp} pairs) ≡ length pairs
len_sorted pairs h = len-entries _ ∙ ap length (entries-from_sorted text_cmp pairs h)

-- the entries of the map that pairs in order make
pub entries_of : (pairs : List (List ℕ × List ℕ)) (m : Labels) → T (is_sorted text_cmp pairs) → from_sorted {R = text_cmp} pairs ≡ m → entries m ≡ pairs
entries_of pairs m h e = ap entries (sym e) ∙ entries-from_sorted text_cmp pairs h

pub value_found : (pairs : List (List ℕ × List ℕ)) (m : Labels) (name : List ℕ) (o : Option (List ℕ)) → T (is_sorted text_cmp pairs) → from_sorted {R = text_cmp} pairs ≡ m → o ≡ find text_cmp name pairs → value_of m name ≡ unwrap_or o []
value_found pairs m name o h e f = ap (λ o. unwrap_or o []) (get-entries m name ∙ (ap (find text_cmp name) (entries_of pairs m h e) ∙ sym f))

pub entries_empty : entries (empty {K = List ℕ} {X = List ℕ} {R = text_cmp}) ≡ []
entries_empty = entries_of [] empty tt (from_none [] refl)

-- a B-tree's insertion puts a pair in as a finite map does
insert_put : (name value : List ℕ) (pairs : List (List ℕ × List ℕ)) → insert_entry text_cmp pairs name value ≡ put text_cmp name value pairs
insert_put name value [] = refl
insert_put name value (pair ∷ pairs) = let rest = insert_put name value pairs in grind arith

-- one more pair holds over those before it
pub last_push : (pairs : List (List ℕ × List ℕ)) (name value : List ℕ)
    → insert_entry text_cmp (entries (last_holds pairs)) name value ≡ entries (last_holds (pairs ++ (name, value) ∷ []))
last_push pairs name value =
    insert_put name value (entries (last_holds pairs))
    ∙ (sym (entries-insert nat_list_cmp_total (last_holds pairs) name value)
    ∙ ap (λ ps. entries (from_entries {R = text_cmp} ps)) (sym (reverse-append pairs ((name, value) ∷ []))))

pub sorted_entries : (pairs : List (List ℕ × List ℕ)) (m : Labels) → pairs ≡ entries m → T (is_sorted text_cmp pairs)
sorted_entries pairs m e = subst (λ (ps : List (List ℕ × List ℕ)). T (is_sorted text_cmp ps)) (sym e) (entries_sorted m)

pub map_of_entries : (pairs : List (List ℕ × List ℕ)) (m : Labels) → pairs ≡ entries m → from_sorted {R = text_cmp} pairs ≡ m
map_of_entries pairs m e = same_entries_map _ m (entries-from_sorted text_cmp pairs (sorted_entries pairs m e) ∙ e)

-- a name before all others isn't among them
pub absent_below : (name : List ℕ) (pairs : List (List ℕ × List ℕ)) → T (below_all text_cmp name pairs) → find text_cmp name pairs ≡ None
absent_below name [] h = refl
absent_below name (pair ∷ pairs) h = let rest = absent_below name pairs in grind arith

-- and comes first if it is put in
put_first : (name value : List ℕ) (pairs : List (List ℕ × List ℕ)) → T (below_all text_cmp name pairs) → put text_cmp name value pairs ≡ (name, value) ∷ pairs
put_first name value [] h = refl
put_first name value (pair ∷ pairs) h = grind arith

-- pairs in byte order, each name once, are the entries of their map
pub entries_rising : (pairs : List (List ℕ × List ℕ)) → T (is_sorted text_cmp pairs) → entries (last_holds pairs) ≡ pairs
entries_rising [] h = entries_empty
entries_rising (pair ∷ pairs) h =
    let parts = both _ _ h in
    let rest = entries_rising pairs parts.1 in
    let none : find text_cmp pair.0 (reverse pairs) ≡ None =
    sym (get-from_entries nat_list_cmp_total (reverse pairs) pair.0) ∙ (get-entries (last_holds pairs) pair.0 ∙ (ap (find text_cmp pair.0) rest ∙ absent_below pair.0 pairs parts.0)) in
    ap (λ ps. entries (from_entries {R = text_cmp} ps)) (reverse-append (pair ∷ []) pairs)
    ∙ (ap entries (from_entries_push nat_list_cmp_total (slice_cmp-IsAntisymmetric nat_cmp-IsAntisymmetric) (reverse pairs) pair.0 pair.1 none)
    ∙ (entries-insert nat_list_cmp_total (last_holds pairs) pair.0 pair.1
    ∙ (ap (put text_cmp pair.0 pair.1) rest ∙ put_first pair.0 pair.1 pairs parts.0)))

-- a name below another is below all that the other is below
below_more : (x y : List ℕ) (pairs : List (List ℕ × List ℕ)) → text_cmp x y ≡ Less → below_all text_cmp y pairs ≡ true → below_all text_cmp x pairs ≡ true
below_more x y [] h below = refl
below_more x y (pair ∷ pairs) h below =
    let parts = and_parts _ _ below in
    let far = nat_list_cmp_total.trans x y pair.0 h (less _ (subst T (sym parts.0) tt)) in
    and_from _ _ (ap is_lt far) (below_more x y pairs h parts.1)

-- a name below the first of some pairs is in order before them if they are in order
pub one_more_rises : (name : List ℕ) (pair : List ℕ × List ℕ) (pairs : List (List ℕ × List ℕ)) → text_cmp name pair.0 ≡ Less
    → (below_all text_cmp name (pair ∷ pairs) && is_sorted text_cmp (pair ∷ pairs)) ≡ (below_all text_cmp pair.0 pairs && is_sorted text_cmp pairs)
one_more_rises name pair pairs h = grind (arith, and_parts, and_from, below_more)

pub lower : (o : Ordering) → is_ge o ≡ false → o ≡ Less
lower Less h = refl
lower Equal h = absurd (subst T h tt)
lower Greater h = absurd (subst T h tt)

pub contains_found : (pairs : List (List ℕ × List ℕ)) (m : Labels) (name : List ℕ) (o : Option (List ℕ)) → T (is_sorted text_cmp pairs) → from_sorted {R = text_cmp} pairs ≡ m → o ≡ find text_cmp name pairs → is_some o ≡ contains_key m name
contains_found pairs m name o h e f = ap is_some (sym (get-entries m name ∙ (ap (find text_cmp name) (entries_of pairs m h e) ∙ sym f)))
