-- The answers that `next` gives.
use Rattle.am_alert.specs.declared.alert.Alert.{Alert}
use Rattle.am_provider.specs.Showings.{ShowsItem, Shows}
use Rattle.am_provider.specs.Subscriptions.{SubscriptionView}
use Rattle.am_provider.specs.declared.answers.Step.TheVariants as step
use Rattle.am_runner.specs.Reading.{NextIs}
use Rattle.am_answers.specs.declared.answer.Answer.{Answer}
use Rattle.am_answers.specs.declared.answer.Answer.TheVariants as answer

-- what holds of an alert, of Pending, of Closed and of Cut holds of each of them
pub by_next : {old new : SubscriptionView} (P : Answer → Type 0) → ((alert : Alert) → ShowsItem old alert new → P (answer.Item alert))
    → (Shows old step.Pending new → P answer.Pending) → (Shows old step.Closed new → P answer.SawClosed) → (Shows old step.Cut new → P answer.SawCut)
    → (given : Answer) → NextIs old given new → P given
by_next P item pending closed cut (answer.Item alert) next = item alert next
by_next P item pending closed cut answer.Pending next = pending next
by_next P item pending closed cut answer.SawClosed next = closed next
by_next P item pending closed cut answer.SawCut next = cut next
by_next P item pending closed cut (answer.Posted v p) next = absurd next
by_next P item pending closed cut (answer.Invalid i f) next = absurd next
by_next P item pending closed cut (answer.CutLane l) next = absurd next
by_next P item pending closed cut (answer.PostRefused w) next = absurd next
by_next P item pending closed cut (answer.Subscribed l o) next = absurd next
by_next P item pending closed cut (answer.SubscribeRefused w) next = absurd next
by_next P item pending closed cut (answer.Left t c u) next = absurd next
by_next P item pending closed cut (answer.Collected n) next = absurd next
by_next P item pending closed cut (answer.Taken n) next = absurd next
by_next P item pending closed cut answer.CloseAccepted next = absurd next
by_next P item pending closed cut answer.CloseRefused next = absurd next
by_next P item pending closed cut (answer.Trimmed n) next = absurd next
by_next P item pending closed cut (answer.Compacted n) next = absurd next
by_next P item pending closed cut (answer.Group h) next = absurd next
by_next P item pending closed cut (answer.Member a) next = absurd next
by_next P item pending closed cut (answer.Swept s) next = absurd next
by_next P item pending closed cut (answer.Forgotten n) next = absurd next
by_next P item pending closed cut (answer.Muted r b) next = absurd next
by_next P item pending closed cut answer.NotMuted next = absurd next
by_next P item pending closed cut (answer.StoredCount n) next = absurd next
by_next P item pending closed cut (answer.Page h) next = absurd next
by_next P item pending closed cut (answer.StoredAlert a) next = absurd next
by_next P item pending closed cut answer.NotStored next = absurd next
by_next P item pending closed cut (answer.Route r) next = absurd next
by_next P item pending closed cut (answer.Matched r) next = absurd next
by_next P item pending closed cut (answer.OutOfMemory v) next = absurd next
by_next P item pending closed cut (answer.NotOpen v) next = absurd next
