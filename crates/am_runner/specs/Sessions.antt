-- A thread's pass and its open subscriptions, and what each command of its lines does to them.
use Rattle.std.specs.Prelude.{◌≡◌, ℕ, zero, suc, Bool, false, List, [], ◌∷◌, ◌++◌, map, length, position, ⊤}
use Rattle.std.specs.Prelude.{slice_get, slice_set, remove, Option, Some, None, Ok, Err, if◌then◌else◌}
use Rattle.std.specs.Option.{option_and_then, option_map}
use Rattle.std.specs.Str.{bytes_eq}
use Rattle.std.specs.Arc.{arc_value}
use Rattle.std.specs.Duration.{as_nanos}
use Rattle.std.specs.declared.alloc.Global.{Global}
use Rattle.std.specs.declared.sync.Arc.{Arc}
use Rattle.std.specs.declared.time.Duration.{Duration}
use Rattle.am_alert.specs.declared.alert.Alert.{Alert}
use Rattle.am_posts.specs.declared.body.Body.{Body}
use Rattle.am_store.specs.declared.call.Call.{Call}
use Rattle.am_store.specs.Broadcast.{due, IsFront}
use Rattle.am_store.specs.LaneSets.{has_lane}
use Rattle.std.specs.declared.alloc.AllocError.{AllocError}
use Rattle.am_cast.specs.Posters.{PassView}
use Rattle.am_cast.specs.declared.faults.CloseFault.{CloseFault}
use Rattle.am_history.specs.Fronts.{FrontView}
use Rattle.am_provider.specs.Posts.{HasMet}
use Rattle.am_provider.specs.Callers.{KnowsAllSent, SeesCall}
use Rattle.am_provider.specs.Headline.{AnswersSubscribe, AnswersLeave, AnswersCollect, AnswersClose}
use Rattle.am_provider.specs.Headline.{AnswersCompact, AnswersGet, AnswersPage, AnswersStored, AnswersTake}
use Rattle.am_provider.specs.Headline.{AnswersTrim, AnswersVouch}
use Rattle.am_provider.specs.Histories.{EntryView, whole}
use Rattle.am_provider.specs.Subscriptions.{taken}
use Rattle.am_provider.specs.declared.answers.Policy.{Policy}
use Rattle.am_provider.specs.declared.answers.Ended.{Ended}
use Rattle.am_provider.specs.declared.answers.Page.{Page}
use Rattle.am_provider.specs.declared.answers.Posted.{Posted}
use Rattle.am_store.specs.declared.faults.BodyFault.{BodyFault}
use Rattle.am_store.specs.declared.faults.SubFault.{SubFault}
use Rattle.am_labels.specs.LabelSets.{Labels}
use Rattle.am_script.specs.declared.kind.Kind.{Kind}
use Rattle.am_config.specs.RouteLists.{root_of}
use Rattle.am_config.specs.declared.config.Config.{Config}
use Rattle.am_script.specs.declared.command.Command.{Command}
use Rattle.am_script.specs.declared.command.Command.TheVariants.{Post, Put, Subscribe, Read, Leave, Collect}
use Rattle.am_script.specs.declared.command.Command.TheVariants.{Take, Close, Trim, Compact, Groups, Sweep}
use Rattle.am_script.specs.declared.command.Command.TheVariants.{Forget, Mutes, Stored, StoredPage, Get}
use Rattle.am_script.specs.declared.command.Command.TheVariants.{Routes, Route}
use Rattle.am_script.specs.declared.command.GivenMoment.{GivenMoment}
use Rattle.am_script.specs.Commands.{moment_in}
use Rattle.am_script.specs.declared.command.Verb.{Verb}
use Rattle.am_script.specs.declared.command.Verb.TheVariants as verb
use Rattle.am_answers.specs.Asking.{AsksTree, ShowsTree}
use Rattle.am_answers.specs.Consuming.{answers_of_groups, fresh_consumer, has_both, sweep_word}
use Rattle.am_answers.specs.Consuming.{IsAsked, IsSwept}
use Rattle.am_runner.specs.Putting.{AnswersPosted, AnswersPut}
use Rattle.am_runner.specs.Reading.{OpenView, ReadAnswers, EndsPending}
use Rattle.am_answers.specs.declared.answer.Answer.{Answer}
use Rattle.am_answers.specs.declared.answer.Answer.TheVariants as answer
use Rattle.am_answers.specs.declared.consumer.Half.{Half}
use Rattle.am_answers.specs.declared.consumer.Half.TheVariants as half

-- what a script is run under: a resolve timeout in nanoseconds, how many places the log has, and what a post
-- does if it is full
pub record Setting : Type 0 where
  pub timeout : ℕ
  pub places : ℕ
  pub policy : Policy

-- the setting of a provider with `places` places, a policy and a resolve timeout
abbrev pub setting_of : ℕ → Policy → Duration → Setting
setting_of places policy timeout =
    record { timeout = as_nanos timeout; places = places; policy = policy }

-- a thread's pass, how much of the provider's history it has seen and which entries of it are its own, and
-- its open subscriptions in the order in which they were opened
pub record SessionView : Type 0 where
  pub pass : PassView Alert Call
  pub front : FrontView EntryView
  pub opened : List OpenView

-- a session that nothing was done in, of the caller with this front
abbrev pub new_session : ℕ → SessionView
new_session seat = record {
  pass = record { noted = []; own = [] };
  front = record { seen = []; made = []; parts = 1; seat = seat; looks = 0 };
  opened = [];
}

-- the index of the subscription of this name
abbrev pub index_named : List ℕ → List OpenView → Option ℕ
index_named name opened = position (λ one. bytes_eq one.name name) opened

-- the lanes below a number that a post cut, in their order
abbrev pub cut_below : ℕ → ℕ → List ℕ
cut_below bits zero = []
cut_below bits (suc lane) =
    cut_below bits lane ++ (if has_lane bits lane then lane ∷ [] else [])

-- what is answered of an accepted post: how many alerts were valid and their place, each invalid one, and
-- each lane that it cut
abbrev pub posted_answers : Posted → List Answer
posted_answers posted = (answer.Posted posted.valid posted.place
    ∷ map (λ fault. answer.Invalid fault.0 fault.1) posted.faults)
    ++ map answer.CutLane (cut_below posted.cut 8)

-- what is answered of the stored alerts: how many there are, and each in their order
abbrev pub stored_answers : List Alert → List Answer
stored_answers alerts = answer.StoredCount (length alerts) ∷ map answer.StoredAlert alerts

-- what is answered of the alerts that a collection removed: how many, and each in the order of the store
abbrev pub taken_answers : List Alert → List Answer
taken_answers removed = answer.Taken (length removed) ∷ map answer.StoredAlert removed

-- what is answered of a page of the stored alerts from an index on: what it is a page of, and each of its
-- alerts
abbrev pub page_answers : ℕ → Page → List Answer
page_answers from page =
    answer.Page (record {
      alerts = length page.alerts;
      from = from;
      stored = page.stored;
      calls = page.calls;
    }) ∷ map answer.StoredAlert page.alerts

-- what is answered of the stored alert of a label set, if there is one
abbrev pub found_answer : Option Alert → Answer
found_answer None = answer.NotStored
found_answer (Some alert) = answer.StoredAlert alert

-- what a command on the subscription of a name does to that one, and answers; where no subscription has
-- the name, nothing is done and that is answered
pub data OnNamed (name : List ℕ) (word : Verb) (does : OpenView → List Answer → OpenView → Type 0)
    (old : List OpenView) : List Answer → List OpenView → Type 0 where
  one_named : {index : ℕ} {before after : OpenView} {answers : List Answer}
      → index_named name old ≡ Some index → slice_get old index ≡ Some before
      → does before answers after
      → OnNamed name word does old answers (slice_set old index after)
  none_named : index_named name old ≡ None
      → OnNamed name word does old (answer.NotOpen word ∷ []) old

-- the subscription at an index is left, once the pass has met it, and the rest stay in their order
pub record LeavesAt (index : ℕ) (old : SessionView) (ended : Ended) (new : SessionView) : Type 0 where
  pub one : OpenView
  pub there : slice_get old.opened index ≡ Some one
  pub opened : new.opened ≡ remove old.opened index
  pub sees : SeesCall old.front new.front (AnswersLeave one.subscription ended)
  pub met : HasMet one.subscription.cursor.lane.front old.pass new.pass

-- all subscriptions are left, in the order in which they were opened
pub data LeavesAll : SessionView → SessionView → Type 0 where
  none_left : {session : SessionView} → session.opened ≡ [] → LeavesAll session session
  one_left : {old mid new : SessionView} {ended : Ended} → LeavesAt 0 old ended mid → LeavesAll mid new
      → LeavesAll old new

-- one answer
pub data IsOne (does : Answer → Type 0) : List Answer → Type 0 where
  just : {given : Answer} → does given → IsOne does (given ∷ [])

-- The subscription at an index is read, once the provider was asked what it is owed. At that place in the
-- history it had taken its due so far; and if it is answered Pending then, it has taken all that it was owed
-- there: so whoever posted before the line is read by it
pub record ReadsAt (index max : ℕ) (old : SessionView) (answers : List Answer) (new : SessionView)
    : Type 0 where
  pub before : OpenView
  pub after : OpenView
  pub there : slice_get old.opened index ≡ Some before
  pub opened : new.opened ≡ slice_set old.opened index after
  pub reads : ReadAnswers before max answers after
  pub sees : SeesCall old.front new.front (AnswersVouch before.subscription)
  pub pass : KnowsAllSent old.pass new.pass new.front
  pub all : EndsPending answers
      → IsFront (due (whole sees.before) before.subscription.at) (taken after.subscription)

-- what is answered of the groups of a subscription's dispatcher, if there is one, at a moment if one is given
abbrev pub groups_told : Option ℕ → Option OpenView → List Answer
groups_told at None = answer.NotOpen verb.Groups ∷ []
groups_told at (Some open_one) = answers_of_groups at open_one.consumer

-- the subscription of a name
abbrev pub named_in : List ℕ → List OpenView → Option OpenView
named_in name opened = option_and_then (slice_get opened) (index_named name opened)

-- whether there is a subscription with a dispatcher and an inhibitor
abbrev pub is_notified : Option OpenView → Bool
is_notified None = false
is_notified (Some one) = has_both one.consumer

-- whether the subscription of a name has both
abbrev pub has_notifier : List ℕ → List OpenView → Bool
has_notifier name opened = is_notified (named_in name opened)

-- the command that sweeps a half of what consumes a subscription's alerts
abbrev pub sweep_command : Half → List ℕ → ℕ → Command
sweep_command half.Dispatcher name at = Sweep name at
sweep_command half.Inhibitor name at = Forget name at

-- that half is swept, and nothing else of the subscription changes
abbrev pub SweepsOne : Half → ℕ → OpenView → Answer → OpenView → Type 0
SweepsOne which at old given new = IsSwept at which old.consumer new.consumer given
    × (new ≡ record old { consumer = new.consumer })

abbrev pub SweepsNamed : Half → List ℕ → ℕ → List OpenView → List Answer → List OpenView → Type 0
SweepsNamed which name at old answers new = OnNamed name (sweep_word which) (λ before given after.
    IsOne (λ one. SweepsOne which at before one after) given)
    old answers new

-- what is answered of a target by the inhibitor of a subscription, if there is one
abbrev pub IsAskedAt : Labels → ℕ → Option OpenView → Answer → Type 0
IsAskedAt labels at None given = given ≡ answer.NotOpen verb.Mutes
IsAskedAt labels at (Some one) given = IsAsked labels at one.consumer given

-- What a command does to a session, and what it answers, under a configuration and a setting. What the
-- provider makes of it is what its calls say, at their places in the one history.
pub data Does (config : Config) (setting : Setting) (old : SessionView)
    : Command → List Answer → SessionView → Type 0 where
  posted : {at : ℕ} {body : Body} {posted : Posted} {pass : PassView Alert Call}
      {front : FrontView EntryView}
      → AnswersPosted setting.policy setting.places at setting.timeout body old.pass pass old.front front
      (Ok posted)
      → Does config setting old (Post at body) (posted_answers posted)
      (record old { pass = pass; front = front })
  post_refused : {at : ℕ} {body : Body} {why : BodyFault} {pass : PassView Alert Call}
      {front : FrontView EntryView}
      → AnswersPosted setting.policy setting.places at setting.timeout body old.pass pass old.front front
      (Err why)
      → Does config setting old (Post at body) (answer.PostRefused why ∷ [])
      (record old { pass = pass; front = front })
  put : {at : ℕ} {alerts : List Alert} {posted : Posted} {pass : PassView Alert Call}
      {front : FrontView EntryView}
      → AnswersPut setting.policy setting.places at alerts old.pass pass old.front front (Ok posted)
      → Does config setting old (Put at alerts) (posted_answers posted)
      (record old { pass = pass; front = front })
  put_refused : {at : ℕ} {alerts : List Alert} {why : BodyFault} {pass : PassView Alert Call}
      {front : FrontView EntryView}
      → AnswersPut setting.policy setting.places at alerts old.pass pass old.front front (Err why)
      → Does config setting old (Put at alerts) (answer.PostRefused why ∷ [])
      (record old { pass = pass; front = front })
  subscribed : {name : List ℕ} {kind : Kind} {front : FrontView EntryView} (one : OpenView) → one.name ≡ name
      → SeesCall old.front front (AnswersSubscribe (Ok one.subscription))
      → one.consumer ≡ fresh_consumer config kind
      → Does config setting old (Subscribe name kind)
      (answer.Subscribed one.subscription.cursor.lane.number
      (length one.subscription.opening) ∷ [])
      (record old { front = front; opened = old.opened ++ one ∷ [] })
  subscribe_refused : {name : List ℕ} {kind : Kind} {why : SubFault} {front : FrontView EntryView}
      → SeesCall old.front front (AnswersSubscribe (Err why))
      → Does config setting old (Subscribe name kind) (answer.SubscribeRefused why ∷ [])
      (record old { front = front })
  read : {name : List ℕ} {max index : ℕ} {answers : List Answer} {new : SessionView}
      → index_named name old.opened ≡ Some index → ReadsAt index max old answers new
      → Does config setting old (Read name max) answers new
  nothing_to_read : {name : List ℕ} {max : ℕ} → index_named name old.opened ≡ None
      → Does config setting old (Read name max) (answer.NotOpen verb.Read ∷ []) old
  left : {name : List ℕ} {index : ℕ} {ended : Ended} {new : SessionView}
      → index_named name old.opened ≡ Some index → LeavesAt index old ended new
      → Does config setting old (Leave name)
      (answer.Left ended.taken ended.closed ended.cut ∷ []) new
  nothing_to_leave : {name : List ℕ} → index_named name old.opened ≡ None
      → Does config setting old (Leave name) (answer.NotOpen verb.Leave ∷ []) old
  collected : {at removed : ℕ} {front : FrontView EntryView}
      → SeesCall old.front front (AnswersCollect {E = AllocError} at (Ok removed))
      → Does config setting old (Collect at) (answer.Collected removed ∷ []) (record old { front = front })
  collect_refused : {at : ℕ} {error : AllocError} {front : FrontView EntryView}
      → SeesCall old.front front (AnswersCollect at (Err error))
      → Does config setting old (Collect at) (answer.OutOfMemory verb.Collect ∷ [])
      (record old { front = front })
  took : {at : ℕ} {removed : List Alert} {front : FrontView EntryView}
      → SeesCall old.front front (AnswersTake {E = AllocError} at (Ok removed))
      → Does config setting old (Take at) (taken_answers removed) (record old { front = front })
  take_refused : {at : ℕ} {error : AllocError} {front : FrontView EntryView}
      → SeesCall old.front front (AnswersTake at (Err error))
      → Does config setting old (Take at) (answer.OutOfMemory verb.Take ∷ []) (record old { front = front })
  closed : {front : FrontView EntryView} → SeesCall old.front front (AnswersClose {U = ⊤} (Ok tt))
      → Does config setting old Close (answer.CloseAccepted ∷ []) (record old { front = front })
  close_refused : {fault : CloseFault} {front : FrontView EntryView}
      → SeesCall old.front front (AnswersClose {U = ⊤} (Err fault))
      → Does config setting old Close (answer.CloseRefused ∷ []) (record old { front = front })
  trimmed : {dropped : ℕ} {front : FrontView EntryView}
      → SeesCall old.front front (AnswersTrim {E = AllocError} (Ok dropped))
      → Does config setting old Trim (answer.Trimmed dropped ∷ []) (record old { front = front })
  trim_refused : {error : AllocError} {front : FrontView EntryView}
      → SeesCall old.front front (AnswersTrim (Err error))
      → Does config setting old Trim (answer.OutOfMemory verb.Trim ∷ []) (record old { front = front })
  compacted : {dropped : ℕ} {front : FrontView EntryView}
      → SeesCall old.front front (AnswersCompact {E = AllocError} (Ok dropped))
      → Does config setting old Compact (answer.Compacted dropped ∷ []) (record old { front = front })
  compact_refused : {error : AllocError} {front : FrontView EntryView}
      → SeesCall old.front front (AnswersCompact (Err error))
      → Does config setting old Compact (answer.OutOfMemory verb.Compact ∷ []) (record old { front = front })
  groups : {name : List ℕ} {at : GivenMoment} {answers : List Answer}
      → answers ≡ groups_told (moment_in at) (named_in name old.opened)
      → Does config setting old (Groups name at) answers old
  swept : {name : List ℕ} {at : ℕ} {answers : List Answer} {opened : List OpenView}
      → SweepsNamed half.Dispatcher name at old.opened answers opened
      → Does config setting old (Sweep name at) answers (record old { opened = opened })
  forgot : {name : List ℕ} {at : ℕ} {answers : List Answer} {opened : List OpenView}
      → SweepsNamed half.Inhibitor name at old.opened answers opened
      → Does config setting old (Forget name at) answers (record old { opened = opened })
  mutes : {name : List ℕ} {at : ℕ} {labels : Labels} {answers : List Answer}
      → IsOne (IsAskedAt labels at (named_in name old.opened)) answers
      → Does config setting old (Mutes name at labels) answers old
  stored : {alerts : List Alert} {front : FrontView EntryView}
      → SeesCall old.front front (AnswersStored {E = AllocError} (Ok alerts))
      → Does config setting old Stored (stored_answers alerts) (record old { front = front })
  stored_refused : {error : AllocError} {front : FrontView EntryView}
      → SeesCall old.front front (AnswersStored (Err error))
      → Does config setting old Stored (answer.OutOfMemory verb.Stored ∷ []) (record old { front = front })
  paged : {from max : ℕ} {page : Page} {front : FrontView EntryView}
      → SeesCall old.front front (AnswersPage {E = AllocError} from max (Ok page))
      → Does config setting old (StoredPage from max) (page_answers from page) (record old { front = front })
  page_refused : {from max : ℕ} {error : AllocError} {front : FrontView EntryView}
      → SeesCall old.front front (AnswersPage from max (Err error))
      → Does config setting old (StoredPage from max) (answer.OutOfMemory verb.Stored ∷ [])
      (record old { front = front })
  got : {labels : Labels} {front : FrontView EntryView} (found : Option (Arc Alert Global))
      → SeesCall old.front front (AnswersGet {E = AllocError} labels (Ok found))
      → Does config setting old (Get labels) (found_answer (option_map arc_value found) ∷ [])
      (record old { front = front })
  get_refused : {labels : Labels} {error : AllocError} {front : FrontView EntryView}
      → SeesCall old.front front (AnswersGet labels (Err error))
      → Does config setting old (Get labels) (answer.OutOfMemory verb.Get ∷ [])
      (record old { front = front })
  routes : {answers : List Answer} → ShowsTree (root_of config.tree) answers
      → Does config setting old Routes answers old
  route : {labels : Labels} {answers : List Answer} → AsksTree labels (root_of config.tree) answers
      → Does config setting old (Route labels) answers old
