-- The alerts that a run knows, if it follows: those that accepted puts gave since the last collection. One of
-- them is shown by its place among them.
use Rattle.std.specs.Prelude.{◌≡◌, ◌≢◌, ℕ, Bool, true, false, List, [], ◌∷◌, if◌then◌else◌, slice_get}
use Rattle.std.specs.Prelude.{Option, Some, None, is_none, IfSome, IsSomeAnd}
use Rattle.std.specs.List.{position_or_len}
use Rattle.std.specs.Map.{keys_of, lookup}
use Rattle.indexmap.specs.IndexMap.{insert_entry}
use Rattle.am_posts.specs.Posts.{fault_of}
use Rattle.am_alert.specs.declared.alert.Alert.{Alert}
use Rattle.am_labels.specs.LabelSets.{Labels, same_labels}
use Rattle.am_script.specs.declared.command.Command.{Command}
use Rattle.am_script.specs.declared.command.Command.TheVariants.{Put}
use Rattle.am_answers.specs.declared.answer.Answer.{Answer}
use Rattle.am_answers.specs.declared.answer.Answer.TheVariants as answer

-- alerts, each under its label set, in the order in which the label sets began
abbrev pub Known : Type 0
Known = List (Labels × Alert)

-- the known alerts with one that was put, in the place of its label set, else at the end; one with a fault
-- isn't stored
abbrev pub noted : Known → Alert → Known
noted known alert =
    if is_none (fault_of alert) then insert_entry same_labels known alert.labels alert else known

-- the place that it takes, if it has no fault
abbrev pub place_taken : Known → Alert → Option ℕ
place_taken known alert = if is_none (fault_of alert)
    then Some (position_or_len (same_labels alert.labels) (keys_of known)) else None

-- the known alerts with each of those that were put, one after another
abbrev pub all_noted : Known → List Alert → Known
all_noted known [] = known
all_noted known (alert ∷ alerts) = all_noted (noted known alert) alerts

-- the place that each of them takes
abbrev pub places_taken : Known → List Alert → List (Option ℕ)
places_taken known [] = []
places_taken known (alert ∷ alerts) = place_taken known alert ∷ places_taken (noted known alert) alerts

-- whether the answers of a post or a put say that it was accepted
abbrev pub is_posted : List Answer → Bool
is_posted (answer.Posted valid place ∷ rest) = true
is_posted given = false

-- whether the answers of a collection say that it removed what is resolved
abbrev pub is_collected : List Answer → Bool
is_collected (answer.Collected removed ∷ rest) = true
is_collected (answer.Taken removed ∷ rest) = true
is_collected given = false

-- the alerts of an accepted put, in a run that follows
abbrev pub alerts_put : Bool → Command → List Answer → List Alert
alerts_put true (Put at alerts) given = if is_posted given then alerts else []
alerts_put follows command given = []

-- the alerts that are known on, once a command was answered so: none after a collection
abbrev pub known_on : List Answer → Known → Known
known_on given known = if is_collected given then [] else known

-- the known alerts once a command was answered so, in a run that follows or not
abbrev pub known_after : Bool → Command → List Answer → Known → Known
known_after follows command given known =
    all_noted (known_on given known) (alerts_put follows command given)

-- the places that the alerts of the command then have
abbrev pub places_after : Bool → Command → List Answer → Known → List (Option ℕ)
places_after follows command given known =
    places_taken (known_on given known) (alerts_put follows command given)

-- the alert that an answer shows, if it is an item or a stored alert
abbrev pub alert_shown : Answer → Option Alert
alert_shown (answer.Item alert) = Some alert
alert_shown (answer.StoredAlert alert) = Some alert
alert_shown _ = None

-- the place that an answer is shown by: there its alert is known, in all its parts. An answer without one is
-- shown whole: it has no alert, or one that isn't known as that of its label set
abbrev pub IsShownAt : Known → Answer → Option ℕ → Type 0
IsShownAt known one (Some place) =
    IsSomeAnd (alert_shown one) (λ alert. IsSomeAnd (slice_get known place) (λ entry. entry.1 ≡ alert))
IsShownAt known one None =
    IfSome (alert_shown one) (λ alert. lookup (same_labels alert.labels) known ≢ Some alert)
