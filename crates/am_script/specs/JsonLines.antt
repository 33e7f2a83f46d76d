-- How output is written as JSON objects, one a line.
use Rattle.std.specs.Prelude.{ℕ, List, [], ◌∷◌, ◌++◌, codes, decimal}
use Rattle.std.specs.FinMap.{entries}
use Rattle.json.specs.Json.{Json, array, boolean, number, string, object, Items, no_items, item}
use Rattle.json.specs.Json.{Members, no_members, member}
use Rattle.json.specs.Print.{print}
use Rattle.json.specs.Token.{Token, key}
use Rattle.json.specs.Tree.{json_tokens}
use Rattle.am_alert.specs.Printing.{moment_text}
use Rattle.am_alert.specs.declared.alert.Alert.{Alert}
use Rattle.am_labels.specs.LabelSets.{Labels}
use Rattle.am_script.specs.ScriptTexts.{fault_text}
use Rattle.am_script.specs.declared.script.Fault.{Fault}

-- the tokens of a member
abbrev pub named : List ℕ → Json → List Token
named name it = key name ∷ json_tokens it

-- a number in decimal digits
abbrev pub decimal_json : ℕ → Json
decimal_json n = number (decimal n)

-- names and values as members
abbrev pub members_of_pairs : List (List ℕ × List ℕ) → Members
members_of_pairs [] = no_members
members_of_pairs (pair ∷ pairs) = member pair.0 (string pair.1) (members_of_pairs pairs)

-- labels or annotations: their names and values, in byte order of names
abbrev pub labels_json : Labels → Json
labels_json labels = object (members_of_pairs (entries labels))

-- texts as the elements of an array
abbrev pub items_of_texts : List (List ℕ) → Items
items_of_texts [] = no_items
items_of_texts (text ∷ texts) = item (string text) (items_of_texts texts)

-- an array of texts
abbrev pub texts_json : List (List ℕ) → Json
texts_json texts = array (items_of_texts texts)

-- the members of an alert, under Alertmanager's names (API v2's `gettableAlert`)
abbrev pub alert_members : Alert → Members
alert_members alert =
    member (codes "labels") (labels_json alert.labels)
    (member (codes "annotations") (labels_json alert.annotations)
    (member (codes "startsAt") (string (moment_text alert.start))
    (member (codes "endsAt") (string (moment_text alert.end))
    (member (codes "updatedAt") (string (moment_text alert.updated))
    (member (codes "timeout") (boolean alert.timeout)
    (member (codes "generatorURL") (string alert.generator) no_members))))))

-- the members of an answer: its word, and then its own
abbrev pub worded : List ℕ → Members → Members
worded word own = member (codes "answer") (string word) own

-- what was asked for was refused, and why
abbrev pub refusing : List ℕ → List ℕ → Members
refusing asked why = worded (codes "refused")
    (member (codes "do") (string asked) (member (codes "fault") (string why) no_members))

-- an object about a line of input: the line's number, and then the other members
abbrev pub about_line : ℕ → Members → Json
about_line line others = object (member (codes "line") (decimal_json line) others)

-- a line of input is refused
abbrev pub fault_members : Fault → Members
fault_members why = worded (codes "refused") (member (codes "fault") (string (fault_text why)) no_members)

-- an object on a line of its own
abbrev pub object_line : Json → List ℕ
object_line it = print (json_tokens it) ++ codes "\n"
