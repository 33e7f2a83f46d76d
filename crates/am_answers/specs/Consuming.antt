-- The consumer of a subscription, a dispatcher, an inhibitor, both or neither: what it takes of what the
-- subscription shows, and what it answers.
use Rattle.std.specs.Prelude.{◌≡◌, ◌⊎◌, ℕ, ◌^◌, ◌-◌, min, List, [], ◌∷◌, ◌++◌, map, length, flat_map, Option}
use Rattle.std.specs.Prelude.{Some, None, Bool, ◌&&◌, is_some, IfSome, count_by, ⊤}
use Rattle.std.specs.List.{filter_map}
use Rattle.am_alert.specs.Merging.{is_resolved_at, unresolved}
use Rattle.am_alert.specs.declared.alert.Alert.{Alert}
use Rattle.am_labels.specs.LabelSets.{Labels}
use Rattle.am_routes.specs.Groups.{DispatchEvent, DispatcherView, GroupView, Follows, Take, Sweep, groups_of}
use Rattle.am_routes.specs.Groups.{removed_alerts, removed_groups}
use Rattle.am_config.specs.RouteLists.{root_of}
use Rattle.am_config.specs.declared.config.Config.{Config}
use Rattle.am_routes.specs.declared.dispatcher.Swept.{Swept}
use Rattle.am_inhibit.specs.Inhibitors.{InhibitorView}
use Rattle.am_inhibit.specs.KeptAlerts as keeping
use Rattle.am_inhibit.specs.LastAlerts.{last_alerts}
use Rattle.am_inhibit.specs.Muting.{muted}
use Rattle.am_script.specs.declared.kind.Kind.{Kind}
use Rattle.am_script.specs.declared.kind.Kind.TheVariants.{Plain, Dispatch, Inhibit, Notify}
use Rattle.am_script.specs.declared.command.Verb.{Verb}
use Rattle.am_script.specs.declared.command.Verb.TheVariants as verb
use Rattle.am_answers.specs.declared.answer.GroupHead.{GroupHead}
use Rattle.am_answers.specs.declared.answer.Answer.{Answer}
use Rattle.am_answers.specs.declared.answer.Answer.TheVariants as answer
use Rattle.am_answers.specs.declared.consumer.Half.{Half}
use Rattle.am_answers.specs.declared.consumer.Half.TheVariants as half
use Rattle.am_answers.specs.Consumers.{ConsumerView}

-- a dispatcher that took nothing yet
abbrev pub fresh_dispatcher : Config → DispatcherView
fresh_dispatcher config = record { tree = root_of config.tree; groups = [] }

-- an inhibitor that took nothing yet
abbrev pub fresh_inhibitor : Config → InhibitorView
fresh_inhibitor config = record { rules = config.rules; alerts = []; looked = 0 }

-- the consumer of a kind, which took nothing yet; that of a plain subscription has neither half
abbrev pub fresh_consumer : Config → Kind → ConsumerView
fresh_consumer config Plain = record { dispatcher = None; inhibitor = None }
fresh_consumer config Dispatch = record { dispatcher = Some (fresh_dispatcher config); inhibitor = None }
fresh_consumer config Inhibit = record { dispatcher = None; inhibitor = Some (fresh_inhibitor config) }
fresh_consumer config Notify = record {
  dispatcher = Some (fresh_dispatcher config);
  inhibitor = Some (fresh_inhibitor config);
}

-- whether a consumer has both halves
abbrev pub has_both : ConsumerView → Bool
has_both consumer = is_some consumer.inhibitor && is_some consumer.dispatcher

-- what becomes of a half of a consumer, and what holds of a consumer without it
abbrev pub OnHalf : {A : Type 0} → (A → A → Type 0) → Type 0 → Option A → Option A → Type 0
OnHalf becomes without (Some old) (Some new) = becomes old new
OnHalf becomes without None None = without
OnHalf becomes without old new = ⊥

-- an inhibitor takes an alert
abbrev pub InhibitorTakes : Alert → InhibitorView → InhibitorView → Type 0
InhibitorTakes alert old new = new ≡ record old { alerts = last_alerts (old.alerts ++ alert ∷ []) }

-- a consumer takes an alert: each of its halves does
abbrev pub TakesAlert : Alert → ConsumerView → ConsumerView → Type 0
TakesAlert alert old new = OnHalf (Follows (Take alert)) ⊤ old.dispatcher new.dispatcher
    × OnHalf (InhibitorTakes alert) ⊤ old.inhibitor new.inhibitor

-- the alert of an event
abbrev pub alert_taken : DispatchEvent → Option Alert
alert_taken (Take alert) = Some alert
alert_taken (Sweep now) = None

-- the alerts that a dispatcher took, among its sweeps
abbrev pub alerts_taken : List DispatchEvent → List Alert
alerts_taken events = filter_map alert_taken events

-- the alert that an inhibitor takes by an event
abbrev pub alert_kept : keeping.InhibitorEvent → Option Alert
alert_kept (keeping.Take alert) = Some alert
alert_kept (keeping.Sweep now) = None

-- a dispatcher took these alerts and no others, in their order, with its sweeps somewhere between: its groups
-- are those of its takes and sweeps
abbrev pub DispatcherTook : List Alert → DispatcherView → Type 0
DispatcherTook alerts dispatcher = (events : List DispatchEvent)
    × (alerts_taken events ≡ alerts) × (dispatcher.groups ≡ groups_of dispatcher.tree events)

-- the same of an inhibitor and its alerts
abbrev pub InhibitorTook : List Alert → InhibitorView → Type 0
InhibitorTook alerts inhibitor = (events : List keeping.InhibitorEvent)
    × (filter_map alert_kept events ≡ alerts) × (inhibitor.alerts ≡ keeping.kept_alerts events)

-- the same of each half of a consumer
abbrev pub HasTaken : List Alert → ConsumerView → Type 0
HasTaken alerts consumer =
    IfSome consumer.dispatcher (DispatcherTook alerts) × IfSome consumer.inhibitor (InhibitorTook alerts)

-- where the numbers of alerts that are counted for an answer stop
abbrev pub most_counted : ℕ
most_counted = 2 ^ 64 - 1

-- the word of the command that sweeps a half
abbrev pub sweep_word : Half → Verb
sweep_word half.Dispatcher = verb.Sweep
sweep_word half.Inhibitor = verb.Forget

-- a dispatcher is swept, and answers how much it dropped
abbrev pub DispatcherSwept : ℕ → DispatcherView → DispatcherView → Answer → Type 0
DispatcherSwept now old new given = (gone : Swept) × (given ≡ answer.Swept gone) × Follows (Sweep now) old new
    × (gone.alerts ≡ min (removed_alerts now old.groups) most_counted)
    × (gone.groups ≡ removed_groups now old.groups)

-- an inhibitor is swept, and answers how many alerts it dropped
abbrev pub InhibitorSwept : ℕ → InhibitorView → InhibitorView → Answer → Type 0
InhibitorSwept now old new given = (given ≡ answer.Forgotten (count_by (is_resolved_at now) old.alerts))
    × (new ≡ record old { alerts = unresolved now old.alerts })

-- One half of a consumer is swept, and the other stays as it was. A consumer without that half stays, and
-- that is answered.
abbrev pub IsSwept : ℕ → Half → ConsumerView → ConsumerView → Answer → Type 0
IsSwept now half.Dispatcher old new given =
    OnHalf (λ was is. DispatcherSwept now was is given) (given ≡ answer.NotOpen verb.Sweep)
    old.dispatcher new.dispatcher × (new.inhibitor ≡ old.inhibitor)
IsSwept now half.Inhibitor old new given =
    OnHalf (λ was is. InhibitorSwept now was is given) (given ≡ answer.NotOpen verb.Forget)
    old.inhibitor new.inhibitor × (new.dispatcher ≡ old.dispatcher)

-- what is answered of the rule that mutes a target and the label set by which it does, if there is one
abbrev pub muting_answer : Option (ℕ × Labels) → Answer
muting_answer None = answer.NotMuted
muting_answer (Some muting) = answer.Muted muting.0 muting.1

-- what an inhibitor answers of a target at a moment, unless it is out of memory
abbrev pub muting_at : InhibitorView → ℕ → Labels → Answer
muting_at inhibitor now labels = muting_answer (muted inhibitor.alerts inhibitor.rules labels now)

-- what an inhibitor, if there is one, answers of a target: what mutes it, or that it is out of memory
abbrev pub IsAskedOf : Labels → ℕ → Option InhibitorView → Answer → Type 0
IsAskedOf labels now None given = given ≡ answer.NotOpen verb.Mutes
IsAskedOf labels now (Some inhibitor) given =
    (given ≡ answer.OutOfMemory verb.Mutes) ⊎ (given ≡ muting_at inhibitor now labels)

-- what a consumer answers of a target
abbrev pub IsAsked : Labels → ℕ → ConsumerView → Answer → Type 0
IsAsked labels now consumer given = IsAskedOf labels now consumer.inhibitor given

-- what is answered of a group before its alerts
abbrev pub head_of_group : GroupView → GroupHead
head_of_group group = record {
  route = group.route;
  receiver = group.receiver;
  labels = group.labels;
  alerts = length group.alerts;
}

-- a group, and then each of its alerts
abbrev pub answers_of_group : GroupView → List Answer
answers_of_group group =
    answer.Group (head_of_group group)
    ∷ map answer.Member group.alerts

-- an alert of a group, and then what mutes it at a moment (Alertmanager's `notify.MuteStage`)
abbrev pub answers_of_member : InhibitorView → ℕ → Alert → List Answer
answers_of_member inhibitor now alert =
    answer.Member alert ∷ muting_at inhibitor now alert.labels ∷ []

-- a group, and then each of its alerts with what mutes it at a moment
abbrev pub answers_of_group_at : InhibitorView → ℕ → GroupView → List Answer
answers_of_group_at inhibitor now group =
    answer.Group (head_of_group group)
    ∷ flat_map (answers_of_member inhibitor now) group.alerts

-- what is answered of groups, and of what mutes their alerts at a moment, if it is given and there is an
-- inhibitor
abbrev pub answers_of_each : Option ℕ → Option InhibitorView → List GroupView → List Answer
answers_of_each (Some now) (Some inhibitor) groups = flat_map (answers_of_group_at inhibitor now) groups
answers_of_each at inhibitor groups = flat_map answers_of_group groups

-- the same of the groups of a dispatcher, if there is one
abbrev pub answers_of_all : Option ℕ → Option InhibitorView → Option DispatcherView → List Answer
answers_of_all at inhibitor (Some dispatcher) = answers_of_each at inhibitor dispatcher.groups
answers_of_all at inhibitor None = answer.NotOpen verb.Groups ∷ []

-- the same of a consumer
abbrev pub answers_of_groups : Option ℕ → ConsumerView → List Answer
answers_of_groups at consumer = answers_of_all at consumer.inhibitor consumer.dispatcher
