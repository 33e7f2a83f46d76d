-- What each call of a provider answers: by the history before it, and the entries that it added.
use Rattle.std.specs.Prelude.{◌≡◌, ◌≢◌, ℕ, ◌+◌, ◌≤◌, ◌<◌, true, false, if◌then◌else◌, nat_eq, nat_le}
use Rattle.std.specs.Prelude.{List, [], ◌∷◌, ◌++◌, length, filter, take, drop, Option, None, Some}
use Rattle.std.specs.Prelude.{Result, Ok, Err, IfOk, OnErr}
use Rattle.std.specs.Arc.{arc_value}
use Rattle.std.specs.List.{count_by}
use Rattle.std.specs.Option.{option_map}
use Rattle.std.specs.declared.alloc.Global.{Global}
use Rattle.std.specs.declared.sync.Arc.{Arc}
use Rattle.am_labels.specs.LabelSets.{Labels}
use Rattle.am_alert.specs.declared.alert.Alert.{Alert}
use Rattle.am_alert.specs.declared.post.Post.{Post}
use Rattle.am_alert.specs.Merging.{is_resolved_at}
use Rattle.am_cast.specs.declared.faults.CloseFault.{CloseFault}
use Rattle.am_cast.specs.declared.limits.TheConstants.{LANES, LONGEST_LOG}
use Rattle.am_cast.specs.Cursors.{HasCut}
use Rattle.am_store.specs.AlertList.{lookup}
use Rattle.am_store.specs.LaneSets.{has_lane}
use Rattle.am_store.specs.declared.call.Call.TheVariants.{Posted, Collected, Subscribed, Left, Closed}
use Rattle.am_store.specs.declared.journal.TheConstants.{MAX_BEFORE}
use Rattle.am_store.specs.Journal.{is_closed, is_open, AreAllOpen}
use Rattle.am_store.specs.Journal.{IsOpenSubscription, IsLowestIdle}
use Rattle.am_store.specs.Broadcast.{due, items_of, IsFront}
use Rattle.am_store.specs.Trims.{AreBeforeOpen}
use Rattle.am_provider.specs.declared.answers.Policy.{Policy}
use Rattle.am_provider.specs.declared.answers.Policy.TheVariants.{Refuse}
use Rattle.am_provider.specs.declared.answers.Posted as answers
use Rattle.am_provider.specs.declared.answers.Ended.{Ended}
use Rattle.am_provider.specs.declared.answers.Page.{Page}
use Rattle.am_store.specs.declared.faults.PutFault.{PutFault}
use Rattle.am_store.specs.declared.faults.PutFault.TheVariants as put
use Rattle.am_store.specs.declared.faults.SubFault.{SubFault}
use Rattle.am_store.specs.declared.faults.SubFault.TheVariants as sub
use Rattle.am_provider.specs.Histories.{EntryView, Accepted, Trimmed, Compacted, only_call, calls_of, whole}
use Rattle.am_provider.specs.Histories.{batch_count, trimmed_by, gone_by, stored_after, sent_by, is_cut}
use Rattle.am_provider.specs.Subscriptions.{SubscriptionView, taken}

-- the place of the next batch: how many were sent out before it
abbrev pub next_place : List EntryView → ℕ
next_place before = batch_count (calls_of before)

-- the lane is open, and at least `count` batches were sent since it was given out
abbrev pub AreSentSince : ℕ → ℕ → List EntryView → Type 0
AreSentSince count lane before = (at : ℕ) × IsOpenSubscription (whole before) lane at
    × (batch_count (take at (calls_of before)) + count ≤ next_place before)

-- an accepted post: its alerts are stored, and are sent out as the log's next batch if there is one. It cut
-- only open lanes that were not cut before and were given out at least as many batches ago as the log has
-- places, and none if the policy is to refuse (`provider/mem`'s Put)
pub record IsPosted (policy : Policy) (places now : ℕ) (post : Post) (posted : answers.Posted)
    (before added : List EntryView) : Type 0 where
  pub still_open : is_closed (whole before) ≡ false
  pub valid : posted.valid ≡ length post.valid
  pub faults : posted.faults ≡ post.faults
  pub place : posted.place ≡ (if nat_eq (length post.valid) 0 then None else Some (next_place before))
  pub cuts : (lane : ℕ) → lane < LANES → has_lane posted.cut lane ≡ true
      → (is_open (whole before) lane ≡ true) × (is_cut before lane ≡ false)
  pub late : (lane : ℕ) → lane < LANES → has_lane posted.cut lane ≡ true → AreSentSince places lane before
  pub refuses : policy ≡ Refuse → posted.cut ≡ 0
  pub entry : added ≡ Accepted (Posted now post.valid) posted.cut None ∷ []

-- why a post of `count` valid alerts is refused: a closed log before its end, and that before the others. A
-- full log names an open lane that isn't cut and was given out at least `places` batches ago, and how many
-- batches a lane has passed that lags by `places`. The log's own calls (am_cast) say that the named lane has
-- passed as many, that it is the lowest such, and that a full log isn't answered as a lack of memory. It
-- isn't said here: no entry of the history says how far a reader has come. The smallest example: two places,
-- subscribers a and b, two posts. A third names a if b alone has read, and b if a alone has. The history
-- before it is the same in both runs
abbrev pub IsPutRefusal : Policy → ℕ → ℕ → List EntryView → PutFault → Type 0
IsPutRefusal policy places count before put.Closed = is_closed (whole before) ≡ true
IsPutRefusal policy places count before put.LogEnd =
    (is_closed (whole before) ≡ false) × (0 < count) × (LONGEST_LOG ≤ next_place before)
IsPutRefusal policy places count before (put.Full lane passed) =
    (is_closed (whole before) ≡ false) × (0 < count) × (next_place before < LONGEST_LOG)
    × (policy ≡ Refuse)
    × (lane < LANES) × (is_open (whole before) lane ≡ true) × (is_cut before lane ≡ false)
    × (next_place before ≡ passed + places) × AreSentSince places lane before
IsPutRefusal policy places count before put.NoMemory =
    (is_closed (whole before) ≡ false) × (0 < count → next_place before < LONGEST_LOG)

-- what a post answers
abbrev pub AnswersPost : Policy → ℕ → ℕ → Post → Result answers.Posted PutFault → List EntryView
    → List EntryView → Type 0
AnswersPost policy places now post (Ok posted) before added =
    IsPosted policy places now post posted before added
AnswersPost policy places now post (Err fault) before added =
    IsPutRefusal policy places (length post.valid) before fault × (added ≡ [])

-- a new subscription: what is stored is shown first, and then each batch since. It has the lowest lane that
-- isn't open (`provider/mem`'s Subscribe)
pub record IsSubscribed (made : SubscriptionView) (before added : List EntryView) : Type 0 where
  pub still_open : is_closed (whole before) ≡ false
  pub at : made.at ≡ length (calls_of before)
  pub opening : made.opening ≡ stored_after before
  pub lane : IsLowestIdle (whole before) made.cursor.lane.number
  pub start : made.cursor.lane.start ≡ next_place before
  pub fresh : (taken made ≡ []) × (made.closed_told ≡ false)
  pub entry : added ≡ only_call (Subscribed made.cursor.lane.number) ∷ []

-- why a subscription is refused: the first cause in this order
abbrev pub IsSubRefusal : List EntryView → SubFault → Type 0
IsSubRefusal before sub.Closed = is_closed (whole before) ≡ true
IsSubRefusal before sub.NoLane = (is_closed (whole before) ≡ false) × AreAllOpen (whole before)
IsSubRefusal before sub.NoMemory = (is_closed (whole before) ≡ false) × (AreAllOpen (whole before) → ⊥)

-- what a subscription answers
abbrev pub AnswersSubscribe : Result SubscriptionView SubFault → List EntryView → List EntryView → Type 0
AnswersSubscribe (Ok made) before added = IsSubscribed made before added
AnswersSubscribe (Err fault) before added = IsSubRefusal before fault × (added ≡ [])

-- a post cut the subscription of a lane that came at a call: it was open then, and its reader, which has
-- passed `passed` batches, lagged then by as many as the log has places. It passed one more since at most,
-- the one in its hand
pub record HasLagged (places lane at passed : ℕ) (before : List EntryView) : Type 0 where
  pub first : List EntryView
  pub rest : List EntryView
  pub now : ℕ
  pub alerts : List Alert
  pub cut : ℕ
  pub entries : before ≡ first ++ Accepted (Posted now alerts) cut None ∷ rest
  pub still_open : IsOpenSubscription (whole first) lane at
  pub cuts : has_lane cut lane ≡ true
  pub late : passed + places ≤ length (sent_by first) + 1

-- what a subscription has taken: it begins what the history owes it, and is all of that if it answered
-- `Closed`, which it does of a closed log alone. One that found itself cut was cut, and one that was cut had
-- lagged. It is owed what was stored when it came, and each batch since
pub record TakesItsDue (subscription : SubscriptionView) (before : List EntryView) : Type 0 where
  pub lane : IsOpenSubscription (whole before) subscription.cursor.lane.number subscription.at
  pub owes : due (whole before) subscription.at
      ≡ subscription.opening ++ items_of (drop subscription.cursor.lane.start (sent_by before))
  pub front : IsFront (taken subscription) (due (whole before) subscription.at)
  pub complete : subscription.closed_told ≡ true → taken subscription ≡ due (whole before) subscription.at
  pub told_closed : subscription.closed_told ≡ true → is_closed (whole before) ≡ true
  pub told_cut : HasCut subscription.cursor → is_cut before subscription.cursor.lane.number ≡ true
  pub lagged : let v = subscription.cursor.lane in is_cut before v.number ≡ true
      → HasLagged v.places v.number subscription.at v.passed before

-- a subscription that goes on: so far it has taken its due. It adds no entry
abbrev pub AnswersVouch : SubscriptionView → List EntryView → List EntryView → Type 0
AnswersVouch subscription before added = TakesItsDue subscription before × (added ≡ [])

-- a subscription that is given back has taken its due
pub record AnswersLeave (subscription : SubscriptionView) (ended : Ended) (before added : List EntryView)
    : Type 0 where
  pub due : TakesItsDue subscription before
  pub at : ended.at ≡ subscription.at
  pub count : ended.taken ≡ length (taken subscription)
  pub closed : ended.closed ≡ subscription.closed_told
  pub cut : ended.cut ≡ is_cut before subscription.cursor.lane.number
  pub entry : added ≡ Accepted (Left subscription.cursor.lane.number) 0 (Some ended) ∷ []

-- a collection counts the stored alerts that are resolved (`provider/mem`'s garbage collection)
abbrev pub AnswersCollect : {E : Type 0} → ℕ → Result ℕ E → List EntryView → List EntryView → Type 0
AnswersCollect now (Ok removed) before added =
    (removed ≡ count_by (is_resolved_at now) (stored_after before))
    × (added ≡ only_call (Collected now) ∷ [])
AnswersCollect now (Err fault) before added = added ≡ []

-- a collection that hands back what it removed: the resolved ones of the stored alerts, in their order (what
-- `provider/mem`'s garbage collection hands to its callbacks)
abbrev pub AnswersTake : {E : Type 0} → ℕ → Result (List Alert) E → List EntryView → List EntryView → Type 0
AnswersTake now (Ok removed) before added =
    (removed ≡ filter (is_resolved_at now) (stored_after before))
    × (added ≡ only_call (Collected now) ∷ [])
AnswersTake now (Err fault) before added = added ≡ []

-- the log is ended once
abbrev pub AnswersClose : {U : Type 0} → Result U CloseFault → List EntryView → List EntryView → Type 0
AnswersClose (Ok done) before added =
    (is_closed (whole before) ≡ false) × (added ≡ only_call Closed ∷ [])
AnswersClose (Err fault) before added = (is_closed (whole before) ≡ true) × (added ≡ [])

-- how many calls a trim discards: those before the earliest open subscription, or all if none is open,
-- without those that earlier trims discarded. None where more would be discarded in all than can be counted
abbrev pub Discards : List EntryView → ℕ → Type 0
Discards before dropped =
    (count : ℕ) × AreBeforeOpen (whole before) (trimmed_by before + count)
    × (dropped ≡ (if nat_le (trimmed_by before + count) MAX_BEFORE then count else 0))

-- a trim discards of the journal what no open subscription needs, and nothing of the history
abbrev pub AnswersTrim : {E : Type 0} → Result ℕ E → List EntryView → List EntryView → Type 0
AnswersTrim (Ok dropped) before added = Discards before dropped × (added ≡ Trimmed dropped ∷ [])
AnswersTrim (Err fault) before added = added ≡ []

-- a compaction takes all calls of the journal out of memory, and answers how many those were. Nothing else
-- changes: every subscription is owed what it was owed
abbrev pub AnswersCompact : {E : Type 0} → Result ℕ E → List EntryView → List EntryView → Type 0
AnswersCompact (Ok count) before added =
    (gone_by before + count ≡ length (calls_of before)) × (added ≡ Compacted count ∷ [])
AnswersCompact (Err fault) before added = added ≡ []

-- a read of the store answers what is stored after the history, in its order, and adds no entry
-- (`provider/mem`'s GetPending)
abbrev pub AnswersStored : {E : Type 0} → Result (List Alert) E → List EntryView → List EntryView → Type 0
AnswersStored result before added = IfOk result (λ alerts. alerts ≡ stored_after before) × (added ≡ [])

-- a page of the store: at most `most` of the alerts that are stored after the history, in its order, from the
-- index `from` on. It says what it is a page of: how many alerts are stored then, and after how many calls
pub record IsPage (from most : ℕ) (before : List EntryView) (page : Page) : Type 0 where
  pub alerts : page.alerts ≡ take most (drop from (stored_after before))
  pub stored : page.stored ≡ length (stored_after before)
  pub calls : page.calls ≡ length (calls_of before)

-- a read of a page answers it, and adds no entry
abbrev pub AnswersPage : {E : Type 0} → ℕ → ℕ → Result Page E → List EntryView → List EntryView → Type 0
AnswersPage from most result before added = IfOk result (IsPage from most before) × (added ≡ [])

-- the same of the one alert of a label set, if there is one. Of a label set that isn't stored there is always
-- an answer (`provider/mem`'s Get)
abbrev pub AnswersGet : {E : Type 0} → Labels → Result (Option (Arc Alert Global)) E → List EntryView
    → List EntryView → Type 0
AnswersGet labels result before added =
    IfOk result (λ found. option_map arc_value found ≡ lookup labels (stored_after before))
    × OnErr result (lookup labels (stored_after before) ≢ None) × (added ≡ [])
