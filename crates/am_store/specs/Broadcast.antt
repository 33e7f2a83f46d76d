-- What is sent out, by the journal alone, and what of it is due to a subscription.
use Rattle.std.specs.Prelude.{◌≡◌, ℕ, List, [], ◌∷◌, ◌++◌, Option, Some, None}
use Rattle.std.specs.List.{flat_map}
use Rattle.am_alert.specs.declared.alert.Alert.{Alert}
use Rattle.am_store.specs.declared.call.Call.{Call}
use Rattle.am_store.specs.declared.call.Call.TheVariants.{Posted, Collected, Subscribed, Left, Closed}
use Rattle.am_store.specs.Journal.{JournalView, until, since}
use Rattle.am_store.specs.Stored.{Update, Report, updates_of, first_reports, updates, Holding, holding_of}
use Rattle.am_store.specs.Stored.{stored}

-- the alert held, as a list
abbrev pub alert_held : Option Holding → List Alert
alert_held None = []
alert_held (Some held) = held.alert ∷ []

-- what each alert of a post became: what its label set holds just after it (`provider/mem`'s Put:
-- what it hands to its listeners)
abbrev pub batch_of : List Update → ℕ → List Alert → List Alert
batch_of before now [] = []
batch_of before now (new ∷ news) =
    alert_held (holding_of new.labels (before ++ Report now new ∷ []))
    ++ batch_of (before ++ Report now new ∷ []) now news

-- what one call sends out: one batch, where it is a post with an alert
abbrev pub batches_of : List Update → Call → List (List Alert)
batches_of before (Posted now []) = []
batches_of before (Posted now (new ∷ news)) = batch_of before now (new ∷ news) ∷ []
batches_of before (Collected now) = []
batches_of before (Subscribed lane) = []
batches_of before (Left lane) = []
batches_of before Closed = []

-- what calls send out after some updates
abbrev pub broadcast_from : List Update → List Call → List (List Alert)
broadcast_from before [] = []
broadcast_from before (call ∷ calls) =
    batches_of before call ++ broadcast_from (before ++ updates_of call) calls

-- what a journal's calls sent out, without those that were dropped: one batch for each post with an
-- alert
abbrev pub broadcast : JournalView → List (List Alert)
broadcast journal = broadcast_from (first_reports journal.store) journal.calls

-- the alerts of batches, one after another
abbrev pub items_of : List (List Alert) → List Alert
items_of batches = flat_map (λ batch. batch) batches

-- what is due to who subscribed after `at` calls, if no later call was dropped: what was stored then, and
-- what was sent out since (`provider/mem`'s Subscribe: the alerts there are, then its channel's)
abbrev pub due : JournalView → ℕ → List Alert
due journal at =
    stored (updates (until journal at))
    ++ items_of (broadcast_from (updates (until journal at)) (since journal at))

-- the first list begins the second
abbrev pub IsFront : {A : Type 0} → List A → List A → Type 0
IsFront {A} front whole = (rest : List A) × (front ++ rest ≡ whole)
