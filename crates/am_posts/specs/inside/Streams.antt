-- What is read of an array of elements, token by token: of the tokens at hand, these are a value's, and those
-- are left. A depth is how deep arrays and objects may still nest; of a room, the value's compact text leaves
-- this.
pub use Rattle.am_posts.specs.Tokens.{AreItems, AreMembers, IsValueOf}
use Rattle.std.specs.Prelude.{◌≡◌, ◌≤◌, List, ℕ, Option, Some}
use Rattle.std.specs.declared.cmp.Ordering.TheVariants.{Less}
use Rattle.json.specs.Token.{Token}
use Rattle.serde_json.specs.Data.{Data, Items, Members, array, object, put, string}
use Rattle.serde_json.specs.Read.{read}
use Rattle.am_labels.specs.Texts.{text_cmp}
use Rattle.am_posts.specs.Postables.{pairs_of, postable_of}
use Rattle.am_posts.specs.Posts.{count, postables_of}
use Rattle.am_posts.specs.WholeAlerts.{alert_in, whole_alerts_in}
use Rattle.am_posts.specs.inside.Drafts.{IsDraftOf}
use Rattle.am_posts.specs.inside.Rooms.{HasRoom, ItemsHaveRoom, MembersHaveRoom}
use Rattle.am_alert.specs.declared.alert.Alert.{Alert}
use Rattle.am_posts.specs.declared.draft.Draft.{Draft}
use Rattle.am_alert.specs.declared.post.TheConstants.{MAX_ALERTS}
use Rattle.am_posts.specs.declared.postable.Postable.{Postable}

-- a text is the array of these elements, which are as many as a post may have
abbrev pub IsArrayOf : List ℕ → List (Option Postable) → Type 0
IsArrayOf text elements = (ds : Items) × (read text ≡ Some (array ds)) × (count ds ≤ MAX_ALERTS)
    × (elements ≡ postables_of ds)

-- the first tokens are those of these elements, and of the bracket that closes their array
abbrev pub AreElementsOf : ℕ → List Token → List Token → ℕ → ℕ → List (Option Postable) → Type 0
AreElementsOf depth old new room left elements = (ds : Items) × AreItems depth old new ds
    × (count ds ≤ MAX_ALERTS) × (elements ≡ postables_of ds) × ItemsHaveRoom ds room left

-- the first tokens are those of this element
abbrev pub IsElementOf : ℕ → List Token → List Token → ℕ → ℕ → Postable → Type 0
IsElementOf depth old new room left element = (d : Data) × IsValueOf depth old new d
    × HasRoom d room left × (postable_of d ≡ Some element)

-- the first tokens are those of whole alerts, and of the bracket that closes their array
abbrev pub AreAlertsOf : ℕ → List Token → List Token → List Alert → Type 0
AreAlertsOf depth old new alerts = (ds : Items)
    × AreItems depth old new ds × (whole_alerts_in ds ≡ Some alerts)

-- the first tokens are those of this whole alert
abbrev pub IsWholeAlertOf : ℕ → List Token → List Token → Alert → Type 0
IsWholeAlertOf depth old new alert = (d : Data) × IsValueOf depth old new d × (alert_in d ≡ Some alert)

-- the first tokens are those of members, of which this was read, and of the brace that closes their object
abbrev pub AreMembersOf : ℕ → List Token → List Token → ℕ → ℕ → Draft → Type 0
AreMembersOf depth old new room left draft = (members : Members) × AreMembers depth old new members
    × MembersHaveRoom members room left × IsDraftOf draft members

-- the first tokens are those of an object, of whose members this was read
abbrev pub IsDraftAhead : ℕ → List Token → List Token → ℕ → ℕ → Draft → Type 0
IsDraftAhead depth old new room left draft = (members : Members) × IsValueOf depth old new (object members)
    × HasRoom (object members) room left × IsDraftOf draft members

-- the first tokens are those of a member's value, with which the draft has what there is then
abbrev pub TakesMember : ℕ → List ℕ → List Token → List Token → ℕ → ℕ → Draft → Draft → Type 0
TakesMember depth name old new room left was is = (d : Data) × IsValueOf depth old new d
    × HasRoom d room left × ((members : Members) → IsDraftOf was members → IsDraftOf is (put name d members))

-- the first token is this text, whatever may nest
abbrev pub BeginsWithText : List Token → List Token → ℕ → ℕ → List ℕ → Type 0
BeginsWithText old new room left text =
    ((depth : ℕ) → IsValueOf depth old new (string text)) × HasRoom (string text) room left

-- the first tokens are those of an object of these names and texts
abbrev pub AreTextsOf : ℕ → List Token → List Token → ℕ → ℕ → List (List ℕ × List ℕ) → Type 0
AreTextsOf depth old new room left pairs = (members : Members) × IsValueOf depth old new (object members)
    × HasRoom (object members) room left × (pairs_of members ≡ Some pairs)

-- the first tokens are those of these names and texts, and of the brace that closes their object
abbrev pub ArePairsOf : ℕ → List Token → List Token → ℕ → ℕ → List (List ℕ × List ℕ) → Type 0
ArePairsOf depth old new room left pairs = (members : Members) × AreMembers depth old new members
    × MembersHaveRoom members room left × (pairs_of members ≡ Some pairs)

-- the first of two texts is below the other in byte order
abbrev pub IsBefore : List ℕ → List ℕ → Type 0
IsBefore text other = text_cmp text other ≡ Less
