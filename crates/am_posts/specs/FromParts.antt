-- Alerts from their parts, for who has no JSON of them (Alertmanager's `types.Alert`, of which
-- `provider.Alerts`' Put takes a list).
use Rattle.std.specs.Prelude.{◌≡◌, ◌≢◌, ℕ, ◌+◌, ◌<◌, ◌≤◌, List, [], ◌∷◌, length, filter, map, None, Some, ⊤}
use Rattle.std.specs.Prelude.{Result, Ok, Err}
use Rattle.std.specs.FinMap.{get}
use Rattle.am_labels.specs.LabelSets.{Labels, last_holds}
use Rattle.am_alert.specs.declared.alert.Alert.{Alert}
use Rattle.am_posts.specs.declared.alert_parts.AlertParts.{AlertParts}
use Rattle.am_posts.specs.declared.alert_parts.PartsFault.{PartsFault}
use Rattle.am_posts.specs.declared.alert_parts.PartsFault.TheVariants as parts_fault
use Rattle.am_alert.specs.declared.post.Post.{Post}
use Rattle.am_alert.specs.declared.post.PostFault.{PostFault}
use Rattle.am_alert.specs.declared.post.PostFault.TheVariants as fault
use Rattle.am_alert.specs.declared.post.TheConstants.{MAX_ALERTS}
use Rattle.am_posts.specs.declared.elements.Element.{Element}
use Rattle.am_posts.specs.Postables.{has_value}
use Rattle.am_posts.specs.Posts.{Entries, fault_of, judged, with_first}

-- the alert of some parts, with the labels that have a value (`removeEmptyLabels`)
abbrev pub alert_of : AlertParts → Alert
alert_of parts = record {
  labels = last_holds (filter has_value parts.labels.items);
  annotations = last_holds parts.annotations.items;
  start = parts.start;
  end = parts.end;
  updated = parts.updated;
  timeout = parts.timeout;
  generator = parts.generator;
}

-- each label has a value
abbrev pub HasValues : Labels → Type 0
HasValues labels = (name : List ℕ) → get labels name ≢ Some []

-- the element that a whole alert is: it is valid, or has its fault
abbrev pub element_from : Alert → Element
element_from alert = judged alert (fault_of alert)

-- the alerts from index i on: those that are valid, and the faults of the others with their indices
abbrev pub elements_from : ℕ → List Alert → Result Entries PostFault
elements_from i [] = Ok ([], [])
elements_from i (alert ∷ rest) = with_first i (element_from alert) (elements_from (i + 1) rest)

-- what judging an alert answers: the alert if it has no fault, else that fault
abbrev pub IsJudged : Alert → Result Alert PartsFault → Type 0
IsJudged given (Ok alert) = (alert ≡ given) × (fault_of given ≡ None)
IsJudged given (Err (parts_fault.Invalid f)) = fault_of given ≡ Some f
IsJudged given (Err parts_fault.NoMemory) = ⊤

-- what parts make: their alert if it has no fault (`types.Alert.Validate`, as for an alert of a post), else
-- that fault
abbrev pub IsAlertOf : AlertParts → Result Alert PartsFault → Type 0
IsAlertOf parts made = IsJudged (alert_of parts) made

-- what a post of alerts is, and why it is refused as a whole
abbrev pub IsPostOfAlerts : List Alert → Result Post PostFault → Type 0
IsPostOfAlerts alerts (Ok post) =
    (length alerts ≤ MAX_ALERTS) × (elements_from 0 alerts ≡ Ok (post.valid, post.faults))
IsPostOfAlerts alerts (Err fault.TooMany) = MAX_ALERTS < length alerts
IsPostOfAlerts alerts (Err fault.NoMemory) = length alerts ≤ MAX_ALERTS
IsPostOfAlerts alerts (Err fault.NotJson) = ⊥
IsPostOfAlerts alerts (Err fault.NotAnArray) = ⊥
IsPostOfAlerts alerts (Err (fault.BadMember i)) = ⊥
IsPostOfAlerts alerts (Err (fault.OutOfRange i)) = ⊥

-- what a post of parts is: that of their alerts
abbrev pub IsPostOfParts : List AlertParts → Result Post PostFault → Type 0
IsPostOfParts parts post = IsPostOfAlerts (map alert_of parts) post
