-- The alerts and faults of a post, over the value that its JSON is (Alertmanager's API v2,
-- `postAlertsHandler`).
use Rattle.std.specs.Prelude.{◌≡◌, ℕ, ◌+◌, ◌<◌, ◌≤◌, ◌⊎◌, ◌||◌, nat_eq, nat_lt, if◌then◌else◌, List, [], ◌∷◌}
use Rattle.std.specs.Prelude.{length, Option, Some, None, option_map, is_none, unwrap_or, Result, Ok, Err, ⊤}
use Rattle.std.specs.Prelude.{IsUtf8}
use Rattle.std.specs.FinMap.{contains_key, len}
use Rattle.serde_json.specs.Data.{Data, array, Items, no_items, item}
use Rattle.serde_json.specs.Find.{as_array}
use Rattle.serde_json.specs.Read.{read}
use Rattle.am_alert.specs.Moments.{later}
use Rattle.am_posts.specs.Postables.{postable_of}
use Rattle.am_alert.specs.declared.alert.Alert.{Alert}
use Rattle.am_posts.specs.declared.postable.Postable.{Postable}
use Rattle.am_posts.specs.declared.elements.Element.{Element}
use Rattle.am_posts.specs.declared.elements.Element.TheVariants.{Valid, Invalid, BadMember, OutOfRange}
use Rattle.am_alert.specs.declared.post.AlertFault.{AlertFault}
use Rattle.am_alert.specs.declared.post.AlertFault.TheVariants.{NoLabels, EndBeforeStart, EmptyName}
use Rattle.am_alert.specs.declared.post.TheConstants.{MAX_ALERTS, MAX_BYTES}
use Rattle.am_alert.specs.declared.post.Post.{Post}
use Rattle.am_alert.specs.declared.post.PostFault.{PostFault}
use Rattle.am_alert.specs.declared.post.PostFault.TheVariants as fault

-- ---- one element

-- the first of two times that is there
abbrev pub first_given : Option ℕ → Option ℕ → Option ℕ
first_given None second = second
first_given (Some time) second = Some time

-- the alert of an element with this end; an absent start is the given end, else the moment
-- (`postAlertsHandler`'s defaults)
abbrev pub with_end : ℕ → Postable → ℕ → Alert
with_end now given finish = record {
  labels = given.labels;
  annotations = given.annotations;
  start = unwrap_or (first_given given.start given.end) now;
  end = finish;
  updated = now;
  timeout = is_none given.end;
  generator = given.generator;
}

-- the alert of an element: an absent end is the moment and the resolve timeout (`postAlertsHandler`'s
-- defaults). None: the default end is no instant
abbrev pub defaulted : ℕ → ℕ → Postable → Option Alert
defaulted now timeout given = option_map (with_end now given) (first_given given.end (later now timeout))

-- why an alert is invalid, the first cause in this order (`types.Alert.Validate`, which tests the times
-- first)
abbrev pub fault_of : Alert → Option AlertFault
fault_of alert =
    if nat_eq (len alert.labels) 0 then Some NoLabels
    else (if nat_lt alert.end alert.start then Some EndBeforeStart
    else (if contains_key alert.labels [] || contains_key alert.annotations [] then Some EmptyName else None))

-- an alert is valid, or has its fault
abbrev pub judged : Alert → Option AlertFault → Element
judged alert None = Valid alert
judged alert (Some f) = Invalid f

-- an alert whose times are instants is judged; without an instant for its end it is out of range
abbrev pub in_range : Option Alert → Element
in_range None = OutOfRange
in_range (Some alert) = judged alert (fault_of alert)

-- what an element is: a bad member comes before an end out of range, and that before an invalid alert. An
-- element whose members are readable gets its defaults and is judged
abbrev pub element_of : ℕ → ℕ → Option Postable → Element
element_of now timeout None = BadMember
element_of now timeout (Some given) = in_range (defaulted now timeout given)

-- the members of each element, none where one isn't readable
abbrev pub postables_of : Items → List (Option Postable)
postables_of no_items = []
postables_of (item d ds) = postable_of d ∷ postables_of ds

-- ---- all elements

-- valid alerts, and faults with their indices in the post
abbrev pub Entries : Type 0
Entries = List Alert × List (ℕ × AlertFault)

-- the entries of the elements after one, and that one before them; its refusal comes before theirs
abbrev pub with_first : ℕ → Element → Result Entries PostFault → Result Entries PostFault
with_first i (Valid alert) (Ok rest) = Ok (alert ∷ rest.0, rest.1)
with_first i (Valid alert) (Err f) = Err f
with_first i (Invalid f) (Ok rest) = Ok (rest.0, (i, f) ∷ rest.1)
with_first i (Invalid f) (Err g) = Err g
with_first i BadMember rest = Err (fault.BadMember i)
with_first i OutOfRange rest = Err (fault.OutOfRange i)

-- the elements from index i on: what is valid and what is invalid, or the refusal of the first that is
-- refused
abbrev pub entries_of : ℕ → ℕ → ℕ → List (Option Postable) → Result Entries PostFault
entries_of now timeout i [] = Ok ([], [])
entries_of now timeout i (given ∷ rest) =
    with_first i (element_of now timeout given) (entries_of now timeout (i + 1) rest)

-- the same of the elements as they are given
abbrev pub elements_of : ℕ → ℕ → ℕ → Items → Result Entries PostFault
elements_of now timeout i ds = entries_of now timeout i (postables_of ds)

-- ---- the whole post

-- how many elements there are
abbrev pub count : Items → ℕ
count no_items = 0
count (item d ds) = count ds + 1

-- the bytes are the JSON of an array of these elements, and no more bytes than a post may have
abbrev pub IsArray : List ℕ → Items → Type 0
IsArray bytes ds = (length bytes ≤ MAX_BYTES) × IsUtf8 bytes × (read bytes ≡ Some (array ds))

-- what reading a post answers. Memory may run out at any point after the test of the number of bytes, if
-- there are bytes
abbrev pub IsPostOf : ℕ → ℕ → List ℕ → Result Post PostFault → Type 0
IsPostOf now timeout bytes (Ok post) =
    (ds : Items) × IsArray bytes ds × (count ds ≤ MAX_ALERTS)
    × (elements_of now timeout 0 ds ≡ Ok (post.valid, post.faults))
IsPostOf now timeout bytes (Err fault.TooMany) =
    (MAX_BYTES < length bytes) ⊎ ((ds : Items) × IsArray bytes ds × (MAX_ALERTS < count ds))
IsPostOf now timeout bytes (Err fault.NotJson) =
    (length bytes ≤ MAX_BYTES) × (IsUtf8 bytes → read bytes ≡ None)
IsPostOf now timeout bytes (Err fault.NotAnArray) =
    (length bytes ≤ MAX_BYTES) × IsUtf8 bytes
    × (d : Data) × (read bytes ≡ Some d) × (as_array d ≡ None)
IsPostOf now timeout bytes (Err (fault.BadMember i)) =
    (ds : Items) × IsArray bytes ds × (count ds ≤ MAX_ALERTS)
    × (elements_of now timeout 0 ds ≡ Err (fault.BadMember i))
IsPostOf now timeout bytes (Err (fault.OutOfRange i)) =
    (ds : Items) × IsArray bytes ds × (count ds ≤ MAX_ALERTS)
    × (elements_of now timeout 0 ds ≡ Err (fault.OutOfRange i))
IsPostOf now timeout bytes (Err fault.NoMemory) =
    (0 < length bytes) × (length bytes ≤ MAX_BYTES)

-- what reading the elements answered is what the definition gives, unless memory ran out
abbrev pub ReadsEach : Result Post PostFault → Result Entries PostFault → Type 0
ReadsEach (Ok post) entries = entries ≡ Ok (post.valid, post.faults)
ReadsEach (Err (fault.BadMember i)) entries = entries ≡ Err (fault.BadMember i)
ReadsEach (Err (fault.OutOfRange i)) entries = entries ≡ Err (fault.OutOfRange i)
ReadsEach (Err fault.NoMemory) entries = ⊤
ReadsEach (Err fault.NotJson) entries = ⊥
ReadsEach (Err fault.NotAnArray) entries = ⊥
ReadsEach (Err fault.TooMany) entries = ⊥
