-- A consumer that took what its subscription has taken still does after a call.
use Rattle.std.proofs.Common.{◌≡◌, ℕ, Bool, true, false, List, [], ◌∷◌, ◌++◌, Option, Some, None, IfSome, refl, ap, sym, subst, ◌∙◌, append-nil, take}
use Rattle.std.specs.List.{filter_map}
use Rattle.std.proofs.lemmas.Bool.{false≢true}
use Rattle.std.proofs.lemmas.List.Elements.{filter_map-append}
use Rattle.am_alert.specs.declared.alert.Alert.{Alert}
use Rattle.am_provider.specs.Subscriptions.{SubscriptionView, taken}
use Rattle.am_cast.specs.Cursors as cast
use Rattle.am_provider.specs.Showings.{ShowsItem, ShowsNone}
use Rattle.am_alert.specs.Merging.{unresolved}
use Rattle.am_inhibit.specs.KeptAlerts as keeping
use Rattle.am_inhibit.specs.Inhibitors.{InhibitorView}
use Rattle.am_inhibit.specs.LastAlerts.{last_alerts}
use Rattle.am_inhibit.specs.InhibitionLaws.{KeptAlertsGoOn}
use Rattle.am_routes.specs.Groups.{DispatcherView, Take, Sweep, Follows}
use Rattle.am_script.specs.declared.command.Verb.TheVariants as verb
use Rattle.am_answers.specs.Answers.{is_item}
use Rattle.am_answers.specs.Consumers.{ConsumerView}
use Rattle.am_answers.specs.Consuming.{HasTaken, DispatcherTook, InhibitorTook, InhibitorTakes, OnHalf, TakesAlert, IsSwept, DispatcherSwept, InhibitorSwept, alert_kept, alert_taken}
use Rattle.am_runner.specs.Reading.{OpenView, NextIs, IsTaken, ReadsOne, takes, misses, ends, TookAll}
use Rattle.am_runner.proofs.Nexts.{by_next}
use Rattle.am_answers.specs.declared.answer.Answer.{Answer}
use Rattle.am_answers.specs.declared.answer.Answer.TheVariants as answer
use Rattle.am_answers.specs.declared.consumer.Half.{Half}
use Rattle.am_answers.specs.declared.consumer.Half.TheVariants as half

-- one alert more was taken
dispatcher_taken : (alerts : List Alert) (alert : Alert) (old new : DispatcherView) → Follows (Take alert) old new → DispatcherTook alerts old → DispatcherTook (alerts ++ alert ∷ []) new
dispatcher_taken alerts alert old new follows (events, are, groups) =
    (events ++ Take alert ∷ [], filter_map-append alert_taken events (Take alert ∷ []) ∙ ap (λ (taken : List Alert). taken ++ alert ∷ []) are, follows.1 events groups)

inhibitor_taken : KeptAlertsGoOn → (alerts : List Alert) (alert : Alert) (old new : InhibitorView) → InhibitorTakes alert old new → InhibitorTook alerts old → InhibitorTook (alerts ++ alert ∷ []) new
inhibitor_taken go_on alerts alert old new same (events, are, keeps) =
    let more : filter_map alert_kept (events ++ keeping.Take alert ∷ []) ≡ alerts ++ alert ∷ [] =
    filter_map-append alert_kept events (keeping.Take alert ∷ []) ∙ ap (λ (taken : List Alert). taken ++ alert ∷ []) are in (
      events ++ keeping.Take alert ∷ [],
      more,
      ap (λ one. one.alerts) same ∙ (ap (λ (before : List Alert). last_alerts (before ++ alert ∷ [])) keeps ∙ sym ((go_on events).0 alert)),
    )

-- a half that was there took what it took, and one that wasn't is still not there
on_half : {A : Type 0} (becomes : A → A → Type 0) (without : Type 0) (P Q : A → Type 0) (old new : Option A) → ((was is : A) → becomes was is → P was → Q is)
    → OnHalf becomes without old new → IfSome old P → IfSome new Q
on_half becomes without P Q (Some old) (Some new) goes_on did took = goes_on old new did took
on_half becomes without P Q None None goes_on did took = tt
on_half becomes without P Q (Some old) None goes_on did took = absurd did
on_half becomes without P Q None (Some new) goes_on did took = absurd did

-- a consumer took one alert more
one_taken : KeptAlertsGoOn → (alerts : List Alert) (alert : Alert) (old new : ConsumerView) → TakesAlert alert old new → HasTaken alerts old → HasTaken (alerts ++ alert ∷ []) new
one_taken go_on alerts alert old new (one, other) (by_one, by_other) = (
  on_half (Follows (Take alert)) _ (DispatcherTook alerts) (DispatcherTook (alerts ++ alert ∷ [])) old.dispatcher new.dispatcher (dispatcher_taken alerts alert) one by_one,
  on_half (InhibitorTakes alert) _ (InhibitorTook alerts) (InhibitorTook (alerts ++ alert ∷ [])) old.inhibitor new.inhibitor (inhibitor_taken go_on alerts alert) other by_other,
)

dispatcher_swept : (alerts : List Alert) (now : ℕ) (old new : DispatcherView) → Follows (Sweep now) old new → DispatcherTook alerts old → DispatcherTook alerts new
dispatcher_swept alerts now old new follows (events, are, groups) =
    (events ++ Sweep now ∷ [], filter_map-append alert_taken events (Sweep now ∷ []) ∙ (append-nil _ ∙ are), follows.1 events groups)

inhibitor_swept : KeptAlertsGoOn → (alerts : List Alert) (now : ℕ) (old new : InhibitorView) → new ≡ record old { alerts = unresolved now old.alerts } → InhibitorTook alerts old → InhibitorTook alerts new
inhibitor_swept go_on alerts now old new is (events, are, keeps) = (
  events ++ keeping.Sweep now ∷ [],
  filter_map-append alert_kept events (keeping.Sweep now ∷ []) ∙ (append-nil _ ∙ are),
  ap (λ (i : InhibitorView). i.alerts) is ∙ (ap (unresolved now) keeps ∙ sym ((go_on events).1 now)),
)

-- a sweep takes nothing
pub sweep_takes_none : KeptAlertsGoOn → (alerts : List Alert) (now : ℕ) (which : Half) (old new : ConsumerView) (given : Answer) → IsSwept now which old new given → HasTaken alerts old → HasTaken alerts new
sweep_takes_none go_on alerts now half.Dispatcher old new given (done, same) (by_one, by_other) = (
  on_half (λ was is. DispatcherSwept now was is given) _ (DispatcherTook alerts) (DispatcherTook alerts) old.dispatcher new.dispatcher
      (λ was is swept. dispatcher_swept alerts now was is swept.2) done by_one,
  subst (λ (kept : Option InhibitorView). IfSome kept (InhibitorTook alerts)) (sym same) by_other,
)
sweep_takes_none go_on alerts now half.Inhibitor old new given (done, same) (by_one, by_other) = (
  subst (λ (kept : Option DispatcherView). IfSome kept (DispatcherTook alerts)) (sym same) by_one,
  on_half (λ was is. InhibitorSwept now was is given) _ (InhibitorTook alerts) (InhibitorTook alerts) old.inhibitor new.inhibitor
      (λ was is swept. inhibitor_swept go_on alerts now was is swept.1) done by_other,
)

-- an alert was shown, and taken
took_one : KeptAlertsGoOn → (old new : SubscriptionView) (alert : Alert) (before after : ConsumerView) (missed : Bool) → ShowsItem old alert new → TakesAlert alert before after → TookAll old before missed → TookAll new after missed
took_one go_on old new alert before after missed shows did took none =
    subst (λ (alerts : List Alert). HasTaken alerts after) (sym shows.taken) (one_taken go_on (taken old) alert before after did (took none))

module _ (old new : SubscriptionView) (before after : ConsumerView) (missed goes_on : Bool) where
  -- what is no alert leaves what was taken
  none_taken : (told : Bool) → ShowsNone old told new → cast.shown_items new.cursor ≡ cast.shown_items old.cursor → taken new ≡ taken old
  none_taken told none same = ap taken none.rest ∙ ap (λ (log : List Alert). take old.shown old.opening ++ log) same

  after_none : taken new ≡ taken old → after ≡ before → TookAll old before missed → TookAll new after missed
  after_none same kept took none =
      subst (λ (consumer : ConsumerView). HasTaken (taken new) consumer) (sym kept) (subst (λ (alerts : List Alert). HasTaken alerts before) (sym same) (took none))

  -- an answer of `next` was taken: the consumer goes on from what it took
  pub took_shown : KeptAlertsGoOn → (given : Answer) → NextIs old given new → IsTaken given before goes_on after → TookAll old before missed → TookAll new after missed
  took_shown law given next = by_next (λ one. IsTaken one before goes_on after → TookAll old before missed → TookAll new after missed)
      (λ alert shows taken_it. took_one law old new alert before after missed shows taken_it.1)
      (λ shows kept. after_none (none_taken old.closed_told shows.0 shows.1.taken) kept.1)
      (λ shows kept. after_none (none_taken true shows.0 shows.1.taken) kept.1)
      (λ shows kept. after_none (none_taken old.closed_told shows.0 shows.1.taken) kept.1)
      given next

  abbrev pub view_before : List ℕ → OpenView
  view_before name = record { name = name; subscription = old; consumer = before; missed = missed }

  abbrev pub view_after : List ℕ → Bool → OpenView
  view_after name flag = record { name = name; subscription = new; consumer = after; missed = flag }

  last_read : (name : List ℕ) (answers : List Answer) (last : Answer) → is_item last ≡ false → NextIs old last new → goes_on ≡ false → after ≡ before
      → ReadsOne (view_before name) answers goes_on (answers ++ last ∷ []) (view_after name missed)
  last_read name answers last is next stops kept =
      subst (λ (b : Bool). ReadsOne (view_before name) answers b (answers ++ last ∷ []) (view_after name missed)) (sym stops)
      (ends last is next kept (refl, refl))

  -- an answer of `next` was taken: one read
  pub reads_shown : (name : List ℕ) (answers : List Answer) (given : Answer) → NextIs old given new → IsTaken given before goes_on after
      → ReadsOne (view_before name) answers goes_on (answers ++ given ∷ []) (view_after name missed)
  reads_shown name answers given next = by_next (λ one. IsTaken one before goes_on after → ReadsOne (view_before name) answers goes_on (answers ++ one ∷ []) (view_after name missed))
      (λ alert shows taken_it. subst (λ (b : Bool). ReadsOne (view_before name) answers b (answers ++ answer.Item alert ∷ []) (view_after name missed)) (sym taken_it.0)
      (takes alert shows taken_it.1 (refl, refl)))
      (λ shows kept. last_read name answers answer.Pending refl shows kept.0 kept.1)
      (λ shows kept. last_read name answers answer.SawClosed refl shows kept.0 kept.1)
      (λ shows kept. last_read name answers answer.SawCut refl shows kept.0 kept.1)
      given next

  -- an alert was shown, and the consumer had no memory for it: one read too
  pub reads_missed : (name : List ℕ) (answers : List Answer) (given : Answer) → is_item given ≡ true → NextIs old given new → after ≡ before
      → ReadsOne (view_before name) answers true ((answers ++ given ∷ []) ++ answer.OutOfMemory verb.Take ∷ []) (view_after name true)
  reads_missed name answers given is next same = by_next (λ one. is_item one ≡ true → ReadsOne (view_before name) answers true ((answers ++ one ∷ []) ++ answer.OutOfMemory verb.Take ∷ []) (view_after name true))
      (λ alert shows item. misses alert shows same (refl, refl))
      (λ shows item. absurd (false≢true item))
      (λ shows item. absurd (false≢true item))
      (λ shows item. absurd (false≢true item))
      given next is

  pub read_one : (name : List ℕ) (answers all : List Answer) (given : Answer) → NextIs old given new → IsTaken given before goes_on after
      → all ≡ answers ++ given ∷ [] → ReadsOne (view_before name) answers goes_on all (view_after name missed)
  read_one name answers all given next taken_it is =
      subst (λ (every : List Answer). ReadsOne (view_before name) answers goes_on every (view_after name missed)) (sym is) (reads_shown name answers given next taken_it)

  pub missed_read : (name : List ℕ) (answers all : List Answer) (given : Answer) → is_item given ≡ true → NextIs old given new → after ≡ before
      → all ≡ (answers ++ given ∷ []) ++ answer.OutOfMemory verb.Take ∷ [] → ReadsOne (view_before name) answers true all (view_after name true)
  missed_read name answers all given item next kept is =
      subst (λ (every : List Answer). ReadsOne (view_before name) answers true every (view_after name true)) (sym is) (reads_missed name answers given item next kept)
