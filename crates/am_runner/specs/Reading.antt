-- An open subscription with its consumer, and what reading it answers.
use Rattle.std.specs.Prelude.{◌≡◌, ℕ, ◌+◌, ◌<◌, Bool, true, false, List, [], ◌∷◌, ◌++◌, Option, Some, None}
use mathlib.Core.List.{IsPrefix}
use Rattle.am_alert.specs.declared.alert.Alert.{Alert}
use Rattle.am_provider.specs.Batches.{Batch}
use Rattle.am_provider.specs.Subscriptions.{SubscriptionView, taken}
use Rattle.am_provider.specs.Showings.{ShowsItem, Shows}
use Rattle.am_provider.specs.declared.answers.Step.TheVariants as step
use Rattle.am_answers.specs.Answers.{is_item}
use Rattle.am_answers.specs.Consumers.{ConsumerView}
use Rattle.am_answers.specs.Consuming.{TakesAlert, HasTaken}
use Rattle.am_script.specs.declared.command.Verb.TheVariants as verb
use Rattle.am_answers.specs.declared.answer.Answer.{Answer}
use Rattle.am_answers.specs.declared.answer.Answer.TheVariants as answer

-- a subscription, its name, its consumer, and whether that had no memory for an alert that was shown
pub record OpenView : Type 0 where
  pub name : List ℕ
  pub subscription : SubscriptionView
  pub consumer : ConsumerView
  pub missed : Bool

-- unless an alert was missed, a consumer took what its subscription has taken, and nothing else
abbrev pub TookAll : SubscriptionView → ConsumerView → Bool → Type 0
TookAll subscription consumer missed = missed ≡ false → HasTaken (taken subscription) consumer

-- the answer to what the subscription shows next
abbrev pub NextIs : SubscriptionView → Answer → SubscriptionView → Type 0
NextIs old (answer.Item alert) new = ShowsItem old alert new
NextIs old answer.Pending new = Shows old step.Pending new
NextIs old answer.SawClosed new = Shows old step.Closed new
NextIs old answer.SawCut new = Shows old step.Cut new
NextIs old other new = ⊥

-- an answer that is an alert is taken, and then there may be more; of another one nothing is
abbrev pub IsTaken : Answer → ConsumerView → Bool → ConsumerView → Type 0
IsTaken (answer.Item alert) old goes_on new = (goes_on ≡ true) × TakesAlert alert old new
IsTaken other old goes_on new = (goes_on ≡ false) × (new ≡ old)

-- One read: an alert, which the consumer takes, or after which it is answered that it had no memory to take
-- it; or another answer, which ends the reading. It comes after those before.
pub data ReadsOne (old : OpenView) (before : List Answer) : Bool → List Answer → OpenView → Type 0 where
  takes : {new : OpenView} (alert : Alert) → ShowsItem old.subscription alert new.subscription
      → TakesAlert alert old.consumer new.consumer
      → (new.name ≡ old.name) × (new.missed ≡ old.missed)
      → ReadsOne old before true (before ++ answer.Item alert ∷ []) new
  misses : {new : OpenView} (alert : Alert) → ShowsItem old.subscription alert new.subscription
      → new.consumer ≡ old.consumer → (new.name ≡ old.name) × (new.missed ≡ true)
      → ReadsOne old before true
      ((before ++ answer.Item alert ∷ []) ++ answer.OutOfMemory verb.Take ∷ []) new
  ends : {new : OpenView} (last : Answer) → is_item last ≡ false
      → NextIs old.subscription last new.subscription
      → new.consumer ≡ old.consumer → (new.name ≡ old.name) × (new.missed ≡ old.missed)
      → ReadsOne old before false (before ++ last ∷ []) new

-- a number of alerts was read, one after another
pub data ReadsSome (old : OpenView) : ℕ → List Answer → OpenView → Type 0 where
  nothing : ReadsSome old 0 [] old
  one_more : {count : ℕ} {before answers : List Answer} {mid new : OpenView}
      → ReadsSome old count before mid → ReadsOne mid before true answers new
      → ReadsSome old (count + 1) answers new

-- what at most `max` reads answer: that many alerts, or fewer and then why there are no more
pub data ReadAnswers (old : OpenView) (max : ℕ) : List Answer → OpenView → Type 0 where
  all : {answers : List Answer} {new : OpenView} → ReadsSome old max answers new
      → ReadAnswers old max answers new
  ended : {count : ℕ} {before answers : List Answer} {mid new : OpenView} → count < max
      → ReadsSome old count before mid → ReadsOne mid before false answers new
      → ReadAnswers old max answers new

-- the answers end with Pending: nothing is left for now
abbrev pub EndsPending : List Answer → Type 0
EndsPending answers = (before : List Answer) × (answers ≡ before ++ answer.Pending ∷ [])

-- a subscription that was read says that nothing is left, once it has seen all that was noted of the log
pub record SaysPendingPast (noted : List Batch) (was new : SubscriptionView) : Type 0 where
  pub old : SubscriptionView
  pub opening : old.opening ≡ was.opening
  pub start : old.cursor.lane.start ≡ was.cursor.lane.start
  pub shows : Shows old step.Pending new
  pub past : IsPrefix noted new.cursor.lane.front
