-- The array of a post.
use Rattle.std.proofs.Common.{◌≡◌, ℕ, ◌<◌, ◌≤◌, List, [], ◌∷◌, ◌++◌, length, append-nil, Option, None, Some, Result, Ok, Err, refl, sym, ap, ◌∙◌, arith, ◌⊎◌, inr}
use Rattle.std.specs.Prelude.{IsUtf8}
use Rattle.std.proofs.lemmas.List.{nil_from_length}
use Rattle.serde_json.specs.Data.{Data, null, boolean, number, string, array, object, Items, no_items, item}
use Rattle.serde_json.specs.Find.{as_array}
use Rattle.serde_json.specs.Read.{read}
use Rattle.serde_json.proofs.OnLiterals.{serde_json_on_literals}
use Rattle.serde_json.specs.View.{items_of, items_view}
use Rattle.serde_json.specs.declared.value.Value.{Value}
use Rattle.am_alert.specs.declared.alert.Alert.{Alert}
use Rattle.am_posts.specs.declared.postable.Postable.{Postable}
use Rattle.am_alert.specs.declared.post.AlertFault.{AlertFault}
use Rattle.am_alert.specs.declared.post.Post.{Post}
use Rattle.am_alert.specs.declared.post.PostFault.{PostFault}
use Rattle.am_alert.specs.declared.post.PostFault.TheVariants as fault
use Rattle.am_posts.specs.Posts.{count, elements_of, entries_of, Entries, IsArray, IsPostOf, postables_of, ReadsEach}

array_is : (d : Data) (ds : Items) → Some ds ≡ as_array d → d ≡ array ds
array_is null ds e = (cc)
array_is (boolean b) ds e = (cc)
array_is (number n) ds e = (cc)
array_is (string s) ds e = (cc)
array_is (array fs) ds e = let same : ds ≡ fs = (cc) in ap array (sym same)
array_is (object ms) ds e = (cc)

count_items : (ds : List Data) → count (items_of ds) ≡ length ds
count_items [] = refl
count_items (d ∷ ds) = let h = count_items ds in omega arith

is_array : (bytes : List ℕ) (d : Data) (ds : Items) → length bytes ≤ 4194304 → IsUtf8 bytes → read bytes ≡ Some d → Some ds ≡ as_array d → IsArray bytes ds
is_array bytes d ds short u e a = (short, u, e ∙ ap Some (array_is d ds a))

pub post_many : (bytes : List ℕ) (d : Data) (xs : List Data) → length bytes ≤ 4194304 → IsUtf8 bytes → read bytes ≡ Some d → Some (items_of xs) ≡ as_array d → 1024 < length xs → (4194304 < length bytes) ⊎ ((ds : Items) × IsArray bytes ds × (1024 < count ds))
post_many bytes d xs short u e a long = inr (items_of xs, is_array bytes d (items_of xs) short u e a, omega (arith, count_items xs))

pub post_ok : (now timeout : ℕ) (bytes : List ℕ) (d : Data) (xs : List Data) (post : Post) → length bytes ≤ 4194304 → IsUtf8 bytes → read bytes ≡ Some d → Some (items_of xs) ≡ as_array d → length xs ≤ 1024 → elements_of now timeout 0 (items_of xs) ≡ Ok (post.valid, post.faults) → IsPostOf now timeout bytes (Ok post)
post_ok now timeout bytes d xs post short u e a few reads = (items_of xs, is_array bytes d (items_of xs) short u e a, omega (arith, count_items xs), reads)

pub post_err : (now timeout : ℕ) (bytes : List ℕ) (d : Data) (xs : List Data) (f : PostFault) → 0 < length bytes → length bytes ≤ 4194304 → IsUtf8 bytes → read bytes ≡ Some d → Some (items_of xs) ≡ as_array d → length xs ≤ 1024 → ReadsEach (Err f) (elements_of now timeout 0 (items_of xs)) → IsPostOf now timeout bytes (Err f)
post_err now timeout bytes d xs fault.NoMemory some short u e a few reads = (some, short)
post_err now timeout bytes d xs fault.NotJson some short u e a few reads = absurd reads
post_err now timeout bytes d xs fault.NotAnArray some short u e a few reads = absurd reads
post_err now timeout bytes d xs fault.TooMany some short u e a few reads = absurd reads
post_err now timeout bytes d xs (fault.BadMember i) some short u e a few reads = (items_of xs, is_array bytes d (items_of xs) short u e a, omega (arith, count_items xs), reads)
post_err now timeout bytes d xs (fault.OutOfRange i) some short u e a few reads = (items_of xs, is_array bytes d (items_of xs) short u e a, omega (arith, count_items xs), reads)

-- entries that were read before others
abbrev pub with_front : Entries → Result Entries PostFault → Result Entries PostFault
with_front front (Ok rest) = Ok (front.0 ++ rest.0, front.1 ++ rest.1)
with_front front (Err f) = Err f

-- bytes that are JSON are some
pub some_bytes : (bytes : List ℕ) (d : Data) → read bytes ≡ Some d → 0 < length bytes
unfolding serde_json_on_literals
some_bytes [] d e = let none : read [] ≡ None = refl in absurd (let no : None ≡ Some d = sym none ∙ e in cc)
some_bytes (b ∷ bytes) d e = omega arith

-- what was read before the end is all
pub all_read : (now timeout i : ℕ) (rest : List (Option Postable)) (all : Result Entries PostFault) (valid : List Alert) (faults : List (ℕ × AlertFault)) → length rest ≡ 0
    → with_front (valid, faults) (entries_of now timeout i rest) ≡ all
    → all ≡ Ok (valid, faults)
all_read now timeout i rest all valid faults none e = grind (arith, nil_from_length, append-nil)

pub count_values : (values : List Value) → count (items_view values) ≡ length values
count_values [] = refl
count_values (value ∷ values) = let h = count_values values in omega arith

-- there is an element for each value
pub as_many : (ds : Items) → length (postables_of ds) ≡ count ds
as_many no_items = refl
as_many (item d ds) = let h = as_many ds in omega arith
