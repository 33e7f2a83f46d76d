-- What comes next in a text of JSON that is read token by token: of the tokens at hand, those of this come
-- first, and those after it are left.
use Rattle.std.specs.Prelude.{◌≡◌, ℕ, List, Some, length, option_and_then}
use Rattle.json.specs.Json as json
use Rattle.json.specs.Token.{Token}
use Rattle.serde_json.specs.Data.{Data, Items, Members, no_members}
use Rattle.serde_json.specs.Find.{as_array}
use Rattle.serde_json.specs.Read.{of_items, of_json, of_members}
use Rattle.am_posts.specs.Bodies.{IsBodyOf}
use Rattle.am_posts.specs.WholeAlerts.{whole_alerts_in}
use Rattle.am_alert.specs.declared.alert.Alert.{Alert}
use Rattle.am_posts.specs.declared.body.Body.{Body}

-- a value whose arrays and objects nest no deeper than this
abbrev pub IsValueOf : ℕ → List Token → List Token → Data → Type 0
IsValueOf depth old new d = (j : json.Json) × (json.value depth old ≡ Some (j, new)) × (of_json j ≡ Some d)

-- some items, and the bracket that closes their array
abbrev pub AreItems : ℕ → List Token → List Token → Items → Type 0
AreItems depth old new ds = (js : json.Items)
    × (json.items (json.value depth) (length old) old ≡ Some (js, new)) × (of_items js ≡ Some ds)

-- some members, and the brace that closes their object
abbrev pub AreMembers : ℕ → List Token → List Token → Members → Type 0
AreMembers depth old new members = (js : json.Members)
    × (json.members (json.value depth) (length old) old ≡ Some (js, new))
    × (of_members js no_members ≡ Some members)

-- a value that is posted as this body
abbrev pub IsNextBody : ℕ → List Token → List Token → Body → Type 0
IsNextBody depth old new body = (d : Data) × IsValueOf depth old new d × IsBodyOf d body

-- an array of these whole alerts
abbrev pub AreNextAlerts : ℕ → List Token → List Token → List Alert → Type 0
AreNextAlerts depth old new alerts = (d : Data)
    × IsValueOf depth old new d × (option_and_then whole_alerts_in (as_array d) ≡ Some alerts)
