-- How long a compact text may be.
use Rattle.std.proofs.Common.{◌≡◌, ◌∙◌, ℕ, ◌+◌, ◌*◌, ◌≤◌, Bool, true, false, ◌||◌, List, [], ◌∷◌, length, nat_cmp, Option, Some, None, refl, ap, arith, Ordering, Less, Equal, Greater}
use Rattle.std.specs.Prelude.{is_some, IfSome}
use Rattle.std.specs.Cmp.Lexicographic.{slice_cmp}
use Rattle.std.specs.Ordering.{match_ordering}
use Rattle.std.proofs.lemmas.List.{length-append}
use Rattle.json.specs.Print.{escape, escape_byte, quoted}
use Rattle.serde_json.specs.Data.{Data, array, boolean, object, Items, no_items, item, Members, no_members, member, put}
use Rattle.serde_json.specs.Written.{compact_text, has_float, items_have_float, items_text, members_have_float, members_text}
use Rattle.am_posts.specs.inside.Rooms.{HasRoom, ItemsHaveRoom, MembersHaveRoom}

byte_short : (x : ℕ) → length (escape_byte x) ≤ 6
unfolding escape_byte
byte_short x = grind arith

escape_short : (text : List ℕ) → length (escape text) ≤ length text * 6
escape_short [] = omega arith
escape_short (x ∷ text) = let rest = escape_short text in grind (arith, byte_short, length-append)

-- a text as it is written
pub quoted_short : (text : List ℕ) → length (quoted text) ≤ length text * 6 + 2
quoted_short text = grind (arith, length-append, escape_short)

-- one more item was written
pub item_long : (d : Data) (ds : Items) → length (items_text true (item d ds)) ≡ length (compact_text d) + length (items_text true ds) + 1
item_long d ds = let long = length-append (compact_text d) (items_text true ds) in omega (arith, long)

-- one more member was written
pub member_long : (name : List ℕ) (d : Data) (ms : Members) → length (members_text true (member name d ms)) ≡ length (quoted name) + length (compact_text d) + length (members_text true ms) + 2
member_long name d ms = grind (arith, length-append)

-- the first item has no comma
pub items_first : (ds : Items) → length (items_text false ds) ≤ length (items_text true ds)
items_first no_items = omega arith
items_first (item d ds) = omega arith

pub members_first : (ms : Members) → length (members_text false ms) ≤ length (members_text true ms)
members_first no_members = omega arith
members_first (member name d ms) = omega arith

-- an array has room if its items have, beside the opening bracket
pub array_room : (d : Data) (ds : Items) (room less : ℕ) (o : Option ℕ) → d ≡ array ds → less + 1 ≤ room → IfSome o (ItemsHaveRoom ds less) → IfSome o (HasRoom d room)
array_room d ds room less None is fits h = h
array_room d ds room less (Some left) is fits h = grind (arith, items_first)

pub object_room : (d : Data) (ms : Members) (room less : ℕ) (o : Option ℕ) → d ≡ object ms → less + 1 ≤ room → IfSome o (MembersHaveRoom ms less) → IfSome o (HasRoom d room)
object_room d ms room less None is fits h = h
object_room d ms room less (Some left) is fits h = grind (arith, members_first)

-- what has room leaves the limit
pub within : (ds : Items) (room : ℕ) (o : Option ℕ) → is_some o ≡ true → IfSome o (ItemsHaveRoom ds room) → (items_have_float ds ≡ false) × (length (items_text false ds) ≤ room)
within ds room None some h = cc
within ds room (Some left) some h = let first = items_first ds in (h.0, omega (arith, first, h.1))

-- ---- a member more takes no more than its name and its value, with a comma and a colon

put_long_at : (o : Ordering) (k l : List ℕ) (d e : Data) (ms : Members) → slice_cmp nat_cmp k l ≡ o
    → length (members_text true (put k d ms)) ≤ length (quoted k) + length (compact_text d) + length (members_text true ms) + 2
    → length (members_text true (match_ordering o (member k d (member l e ms)) (member l d ms) (member l e (put k d ms))))
    ≤ length (quoted k) + length (compact_text d) + length (members_text true (member l e ms)) + 2
put_long_at Less k l d e ms is rest = let long = member_long k d (member l e ms) in omega (arith, long)
put_long_at Equal k l d e ms is rest = grind (arith, member_long)
put_long_at Greater k l d e ms is rest = grind (arith, member_long)

put_long : (k : List ℕ) (d : Data) (ms : Members)
    → length (members_text true (put k d ms)) ≤ length (quoted k) + length (compact_text d) + length (members_text true ms) + 2
put_long k d no_members = let long = member_long k d no_members in omega (arith, long)
put_long k d (member l e ms) = put_long_at _ k l d e ms refl (put_long k d ms)

neither : (a b : Bool) → a ≡ false → b ≡ false → (a || b) ≡ false
neither a b a-is b-is = ap (λ a. a || b) a-is ∙ b-is

put_no_float : (k : List ℕ) (d : Data) (ms : Members) → has_float d ≡ false → members_have_float ms ≡ false → members_have_float (put k d ms) ≡ false
put_no_float k d no_members none before = neither (has_float d) false none refl
put_no_float k d (member l e ms) none before = let rest = put_no_float k d ms in grind arith

pub one_more_fits : (k : List ℕ) (d : Data) (ms : Members) (room left after_name after : ℕ) → MembersHaveRoom ms room left
    → length (quoted k) + after_name + 2 ≤ left → HasRoom d after_name after → MembersHaveRoom (put k d ms) room after
one_more_fits k d ms room left after_name after fits name value = grind (arith, put_long, put_no_float)

pub none_fit : (room left : ℕ) → left + 1 ≤ room → MembersHaveRoom no_members room left
none_fit room left fits = (refl, omega (arith, fits))

pub wider : (ms : Members) (less room left : ℕ) → less ≤ room → MembersHaveRoom ms less left → MembersHaveRoom ms room left
wider ms less room left fits h = (h.0, omega (arith, fits, h.1))

pub items_wider : (ds : Items) (less room left : ℕ) → less ≤ room → ItemsHaveRoom ds less left → ItemsHaveRoom ds room left
items_wider ds less room left fits h = (h.0, omega (arith, fits, h.1))

pub object_fits : (ms : Members) (room less left : ℕ) → less + 1 ≤ room → MembersHaveRoom ms less left → HasRoom (object ms) room left
object_fits ms room less left fits h = object_room (object ms) ms room less (Some left) refl fits h

-- true and false take five bytes at most
pub flag_fits : (flag : Bool) (room left : ℕ) → left + 5 ≤ room → HasRoom (boolean flag) room left
flag_fits true room left fits = (refl, omega (arith, fits))
flag_fits false room left fits = (refl, omega (arith, fits))
