-- What a reader shows that waits.
use Rattle.std.specs.Prelude.{◌≡◌, ◌-◌, ◌<◌, ◌⊎◌, ℕ, Option, None, Some, Result, Ok, Err}
use Rattle.am_alert.specs.declared.alert.Alert.{Alert}
use Rattle.am_provider.specs.Showings.{ShowsItem, StaysShown, Shows}
use Rattle.am_provider.specs.declared.answers.Step.TheVariants as step
use Rattle.am_provider.specs.Subscriptions.{SubscriptionView, taken}
use Rattle.sinnoraku.specs.declared.next.Next.{Next}
use Rattle.sinnoraku.specs.declared.next.Next.TheVariants as next

-- an alert more, or that no more will come, and why
abbrev pub ShowsNow : SubscriptionView → Next → SubscriptionView → Type 0
ShowsNow old (next.Alert alert) new = ShowsItem old alert new
ShowsNow old next.Closed new = Shows old step.Closed new
ShowsNow old next.Cut new = Shows old step.Cut new

-- a wait, which shows nothing, and then that
abbrev pub ShowsNext : SubscriptionView → Next → SubscriptionView → Type 0
ShowsNext old shown new =
    (waited : SubscriptionView) × StaysShown old waited × ShowsNow waited shown new

-- an answer: what is next; or that memory ran out for the copy of an alert, which was shown all the same
abbrev pub AnswersNext : {E : Type 0} → SubscriptionView → Result Next E → SubscriptionView → Type 0
AnswersNext old (Ok shown) new = ShowsNext old shown new
AnswersNext old (Err fault) new = (alert : Alert) × ShowsNext old (next.Alert alert) new

-- what an iterator gives that may still be asked this many times, and then once less: an alert, or a lack of
-- memory. It gives nothing only if no more will come or it may not be asked, and then it has shown nothing
abbrev pub GivesNext : {E : Type 0} → ℕ → SubscriptionView → Option (Result Alert E) → ℕ → SubscriptionView
    → Type 0
GivesNext left old (Some (Ok alert)) rest new =
    (rest ≡ left - 1) × ShowsNext old (next.Alert alert) new
GivesNext left old (Some (Err fault)) rest new =
    (rest ≡ left - 1) × ((alert : Alert) × ShowsNext old (next.Alert alert) new)
GivesNext left old None rest new =
    (rest ≡ left - 1) × (taken new ≡ taken old)
    × (0 < left → ShowsNext old next.Closed new ⊎ ShowsNext old next.Cut new)
