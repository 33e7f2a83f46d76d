-- What a thread read of its subscriptions is what was due to them.
use Rattle.std.proofs.Common.{◌≡◌, ◌≢◌, ℕ, zero, suc, ◌+◌, ◌⊎◌, inl, inr, Bool, true, false, List, [], ◌∷◌, ◌++◌, Option, Some, None, Err, length, take, slice_get, slice_set, remove, refl, sym, ap, subst, ◌∙◌, arith}
use native.Mathlib.Decide.{ℕ_discrete}
use mathlib.Core.Logic.{dite}
use mathlib.Core.List.{IsPrefix}
use Rattle.std.specs.Global.{Vec}
use Rattle.std.proofs.lemmas.Bool.{false≢true}
use Rattle.std.proofs.lemmas.List.{append_assoc, append-nil}
use Rattle.std.proofs.lemmas.List.Elements.{filter_map-append}
use Rattle.std.proofs.lemmas.Option.{slice_get_within}
use Rattle.am_alert.specs.declared.alert.Alert.{Alert}
use Rattle.am_posts.specs.declared.body.Body.{Body}
use Rattle.am_history.specs.Fronts.{FrontView}
use Rattle.am_store.specs.Broadcast.{due, IsFront}
use Rattle.am_cast.specs.Cursors as cast
use Rattle.am_provider.specs.Callers.{SeesCall}
use Rattle.am_provider.specs.Headline.{AnswersLeave}
use Rattle.am_provider.specs.Histories.{EntryView, calls_of, whole}
use Rattle.am_provider.specs.Owing.{StaysFrontOfDue}
use Rattle.am_provider.specs.Showings.{ShowsNone}
use Rattle.am_provider.specs.Subscriptions.{SubscriptionView, taken}
use Rattle.am_provider.specs.declared.answers.Ended.{Ended}
use Rattle.am_store.specs.declared.faults.BodyFault.{BodyFault}
use Rattle.am_store.specs.declared.faults.BodyFault.TheVariants as refused
use Rattle.am_cast.specs.Posters.{PassView}
use Rattle.am_store.specs.declared.call.Call.{Call}
use Rattle.am_config.specs.declared.config.Config.{Config}
use Rattle.am_script.specs.declared.command.Command.{Command}
use Rattle.am_script.specs.declared.command.Line.{Line}
use Rattle.am_script.specs.declared.command.Verb.{Verb}
use Rattle.am_script.specs.declared.command.Verb.TheVariants as verb
use Rattle.am_answers.specs.Answers.{is_item}
use Rattle.am_threads.specs.Owed.{AreOwed, ReadIsDue, ReadsContinue, item_in, items_in}
use Rattle.am_runner.specs.Putting.{AnswersPosted, AnswersPut}
use Rattle.am_runner.specs.Reading.{OpenView, NextIs, ReadsOne, takes, misses, ends, ReadsSome, nothing, one_more, ReadAnswers, all, ended}
use Rattle.am_runner.proofs.Nexts.{by_next}
use Rattle.am_runner.specs.Sessions.{Setting, SessionView, Does, LeavesAt, LeavesAll, OnNamed, IsOne, SweepsOne}
use Rattle.am_runner.specs.Sessions as does
use Rattle.am_runner.specs.Turning.{Order}
use Rattle.am_threads.specs.Working.{LeavesLast, LooksOn, Works, RunsLine}
use Rattle.am_threads.specs.Working as works
use Rattle.am_provider.proofs.Turns.{prefix_then}
use Rattle.am_answers.specs.declared.answer.Answer.{Answer}
use Rattle.am_answers.specs.declared.answer.Answer.TheVariants as answer
use Rattle.am_answers.specs.declared.consumer.Half.{Half}
use Rattle.am_answers.specs.declared.consumer.Half.TheVariants as half

-- ---- what a read takes

-- what is no alert leaves what was taken, and when the subscription came
record Stays (old new : SubscriptionView) : Type 0 where
  pub taken_is : taken new ≡ taken old
  pub at_is : new.at ≡ old.at

quiet : (old new : SubscriptionView) (told : Bool) → ShowsNone old told new → cast.shown_items new.cursor ≡ cast.shown_items old.cursor → Stays old new
quiet old new told none same = record {
  taken_is = ap taken none.rest ∙ ap (λ (log : List Alert). take old.shown old.opening ++ log) same;
  at_is = ap (λ (s : SubscriptionView). s.at) none.rest;
}

last_stays : (old new : SubscriptionView) (last : Answer) → is_item last ≡ false → NextIs old last new → Stays old new × (item_in last ≡ None)
last_stays old new last none next = by_next (λ one. is_item one ≡ false → Stays old new × (item_in one ≡ None))
    (λ alert shows item. absurd (false≢true (sym item)))
    (λ shows item. (quiet old new old.closed_told shows.0 shows.1.taken, refl))
    (λ shows item. (quiet old new true shows.0 shows.1.taken, refl))
    (λ shows item. (quiet old new old.closed_told shows.0 shows.1.taken, refl))
    last next none

-- what a subscription has taken since it had taken this, and when it came
record HasGoneOn (start : List Alert) (at : ℕ) (answers : List Answer) (now : OpenView) : Type 0 where
  pub taken_is : taken now.subscription ≡ start ++ items_in answers
  pub at_is : now.subscription.at ≡ at

one_read : (start : List Alert) (at : ℕ) (old new : OpenView) (before answers : List Answer) (goes_on : Bool) → HasGoneOn start at before old → ReadsOne old before goes_on answers new → HasGoneOn start at answers new
one_read start at old new before answers goes_on it (takes alert shows beside kept) = record {
  taken_is = shows.taken ∙ (ap (λ (l : List Alert). l ++ alert ∷ []) it.taken_is ∙ (append_assoc start (items_in before) (alert ∷ [])
      ∙ ap (λ (l : List Alert). start ++ l) (sym (filter_map-append item_in before (answer.Item alert ∷ [])))));
  at_is = shows.at ∙ it.at_is;
}
one_read start at old new before answers goes_on it (misses alert shows beside kept) = record {
  taken_is = shows.taken ∙ (ap (λ (l : List Alert). l ++ alert ∷ []) it.taken_is ∙ (append_assoc start (items_in before) (alert ∷ [])
      ∙ ap (λ (l : List Alert). start ++ l) (sym (filter_map-append item_in before (answer.Item alert ∷ []))
      ∙ (sym (append-nil (items_in (before ++ answer.Item alert ∷ []))) ∙ sym (filter_map-append item_in (before ++ answer.Item alert ∷ []) (answer.OutOfMemory verb.Take ∷ []))))));
  at_is = shows.at ∙ it.at_is;
}
one_read start at old new before answers goes_on it (ends last none next same kept) =
    let stays = last_stays old.subscription new.subscription last none next in
    let empty : items_in (last ∷ []) ≡ [] = one_item last stays.1 in record {
      taken_is = stays.0.taken_is ∙ (it.taken_is ∙ ap (λ (l : List Alert). start ++ l) (sym (append-nil (items_in before))
          ∙ (ap (λ (l : List Alert). items_in before ++ l) (sym empty) ∙ sym (filter_map-append item_in before (last ∷ [])))));
      at_is = stays.0.at_is ∙ it.at_is;
    }
  where
    with_item : Option Alert → List Alert
    with_item (Some alert) = alert ∷ []
    with_item None = []

    as_item : (o : Option Alert) → item_in last ≡ o → items_in (last ∷ []) ≡ with_item o
    as_item (Some alert) e = rw e refl
    as_item None e = rw e refl

    one_item : (last : Answer) → item_in last ≡ None → items_in (last ∷ []) ≡ []
    one_item last e = rw e refl

some_read : (old new : OpenView) (count : ℕ) (answers : List Answer) → ReadsSome old count answers new → HasGoneOn (taken old.subscription) old.subscription.at answers new
some_read old new count answers nothing = record { taken_is = sym (append-nil (taken old.subscription)); at_is = refl }
some_read old new count answers (one_more {count = less} {before = before} {mid = mid} reads one) =
    one_read (taken old.subscription) old.subscription.at mid new before answers true (some_read old mid less before reads) one

read_goes_on : (old new : OpenView) (max : ℕ) (answers : List Answer) → ReadAnswers old max answers new → HasGoneOn (taken old.subscription) old.subscription.at answers new
read_goes_on old new max answers (all reads) = some_read old new max answers reads
read_goes_on old new max answers (ended {count = count} {before = before} {mid = mid} less reads one) =
    one_read (taken old.subscription) old.subscription.at mid new before answers false (some_read old mid count before reads) one

pub reads_continue : ReadsContinue
reads_continue old new max answers reads = (read_goes_on old new max answers reads).taken_is

-- ---- lists of subscriptions

set_there : {A : Type 0} (xs : List A) (i : ℕ) (x y : A) → slice_get xs i ≡ Some x → slice_get (slice_set xs i y) i ≡ Some y
set_there [] i x y e = absurd (cc)
set_there (first ∷ xs) zero x y e = refl
set_there (first ∷ xs) (suc i) x y e = set_there xs i x y e

set_elsewhere : {A : Type 0} (xs : List A) (i j : ℕ) (y : A) → i ≢ j → slice_get (slice_set xs i y) j ≡ slice_get xs j
set_elsewhere [] i j y other = refl
set_elsewhere (first ∷ xs) zero zero y other = absurd (other refl)
set_elsewhere (first ∷ xs) zero (suc j) y other = refl
set_elsewhere (first ∷ xs) (suc i) zero y other = refl
set_elsewhere (first ∷ xs) (suc i) (suc j) y other = set_elsewhere xs i j y (λ same. other (ap suc same))

-- one of a list is the one that was removed, or is still there
removed : {A : Type 0} (xs : List A) (i j : ℕ) (x : A) → slice_get xs j ≡ Some x → (i ≡ j) ⊎ ((k : ℕ) × (slice_get (remove xs i) k ≡ Some x))
removed [] i j x e = absurd (cc)
removed (first ∷ xs) zero zero x e = inl refl
removed (first ∷ xs) zero (suc j) x e = inr (j, e)
removed (first ∷ xs) (suc i) zero x e = inr (zero, e)
removed (first ∷ xs) (suc i) (suc j) x e = elim (removed xs i j x e) [
  | inl same ↦ inl (ap suc same)
  | inr it ↦ inr (suc it.0, it.1)
]

append_there : {A : Type 0} (xs ys : List A) (i : ℕ) (x : A) → slice_get xs i ≡ Some x → slice_get (xs ++ ys) i ≡ Some x
append_there [] ys i x e = absurd (cc)
append_there (first ∷ xs) ys zero x e = e
append_there (first ∷ xs) ys (suc i) x e = append_there xs ys i x e

-- ---- from the end of a thread's work to its beginning

module _ (law : StaysFrontOfDue) (entries : List EntryView) where
  abbrev IsOwed : OpenView → Type 0
  IsOwed one = IsFront (taken one.subscription) (due (whole entries) one.subscription.at)

  earlier : (old new : OpenView) (answers : List Answer) → HasGoneOn (taken old.subscription) old.subscription.at answers new → IsOwed new → IsOwed old
  earlier old new answers it owed = (
    items_in answers ++ owed.0,
    sym (append_assoc (taken old.subscription) (items_in answers) owed.0) ∙ (ap (λ (l : List Alert). l ++ owed.0) (sym it.taken_is) ∙ (owed.1 ∙ ap (due (whole entries)) it.at_is)),
  )

  one_changed : (old : List OpenView) (index : ℕ) (before after : OpenView) → slice_get old index ≡ Some before → (IsOwed after → IsOwed before) → AreOwed entries (slice_set old index after) → AreOwed entries old
  one_changed old index before after found back owed j one there =
      dite (ℕ_discrete index j)
      (λ same.
      let is : Some before ≡ Some one = sym found ∙ (ap (slice_get old) same ∙ there) in
      let it : before ≡ one = cc in
      subst IsOwed it (back (owed index after (set_there old index before after found))))
      (λ other. owed j one (set_elsewhere old index j after other ∙ there))

  on_named : (name : List ℕ) (word : Verb) (changes : OpenView → List Answer → OpenView → Type 0) (old new : List OpenView) (answers : List Answer)
      → ((before after : OpenView) (given : List Answer) → changes before given after → IsOwed after → IsOwed before)
      → OnNamed name word changes old answers new → AreOwed entries new → AreOwed entries old
  on_named name word changes old new answers back (does.one_named {index = index} {before = before} {after = after} here found done) owed =
      one_changed old index before after found (back before after answers done) owed
  on_named name word changes old new answers back (does.none_named here) owed = owed

  -- a consumer alone was changed
  swept_one : (which : Half) (at : ℕ) (before after : OpenView) (given : List Answer) → IsOne (λ one. SweepsOne which at before one after) given → IsOwed after → IsOwed before
  swept_one which at before after given (does.just it) owed = subst IsFrontly (ap (λ (one : OpenView). one.subscription) it.1) owed
    where
      IsFrontly : SubscriptionView → Type 0
      IsFrontly s = IsFront (taken s) (due (whole entries) s.at)

  -- what a session was before, by what it has come to
  record WasOwed (old : SessionView) : Type 0 where
    pub seen : IsPrefix old.front.seen entries
    pub owed : AreOwed entries old.opened

  before_of : (was is : FrontView EntryView) (Answers : List EntryView → List EntryView → Type 0) (sees : SeesCall was is Answers) → IsPrefix is.seen entries → IsPrefix sees.before entries
  before_of was is Answers sees longer = (sees.added ++ longer.0, sym (append_assoc sees.before sees.added longer.0) ∙ (ap (λ (l : List EntryView). l ++ longer.0) (sym sees.seen) ∙ longer.1))

  seen_before : (was is : FrontView EntryView) (Answers : List EntryView → List EntryView → Type 0) → SeesCall was is Answers → IsPrefix is.seen entries → IsPrefix was.seen entries
  seen_before was is Answers sees longer =
      let mid = before_of was is Answers sees longer in
      (sees.known.0 ++ mid.0, sym (append_assoc was.seen sees.known.0 mid.0) ∙ (ap (λ (l : List EntryView). l ++ mid.0) sees.known.1 ∙ mid.1))

  left_one : (index : ℕ) (old new : SessionView) (ending : Ended) → LeavesAt index old ending new → WasOwed new → WasOwed old
  left_one index old new ending leaves it =
      let sees = leaves.sees in
      let answered = sees.answers in
      let longer = before_of old.front new.front (AnswersLeave leaves.one.subscription ending) sees it.seen in
      let inside = slice_get_within (calls_of sees.before) _ _ answered.due.lane.entry in
      let owes : IsOwed leaves.one = law sees.before entries leaves.one.subscription.at (taken leaves.one.subscription) longer (omega (arith, inside)) answered.due.front in
      record {
        seen = seen_before old.front new.front (AnswersLeave leaves.one.subscription ending) sees it.seen;
        owed = λ j one there. elim (removed old.opened index j one there) [
          | inl same ↦
              let is : Some leaves.one ≡ Some one = sym leaves.there ∙ (ap (slice_get old.opened) same ∙ there) in
              let found : leaves.one ≡ one = cc in
              subst IsOwed found owes
          | inr kept ↦ it.owed kept.0 one (ap (λ (l : List OpenView). slice_get l kept.0) leaves.opened ∙ kept.1)
        ];
      }

  all_left : (old left : SessionView) → LeavesAll old left → IsPrefix left.front.seen entries → WasOwed old
  all_left old left (does.none_left none) longer = record { seen = longer; owed = λ j one there. absurd (let never : slice_get {X = OpenView} [] j ≡ Some one = ap (λ (l : List OpenView). slice_get l j) (sym none) ∙ there in cc) }
  all_left old left (does.one_left {mid = mid} {ended = ending} one rest) longer = left_one 0 old mid ending one (all_left mid left rest longer)

  same_opened : (old new : SessionView) (Answers : List EntryView → List EntryView → Type 0) → SeesCall old.front new.front Answers → new.opened ≡ old.opened → WasOwed new → WasOwed old
  same_opened old new Answers sees same it = record {
    seen = seen_before old.front new.front Answers sees it.seen;
    owed = subst (AreOwed entries) same it.owed;
  }

  read_back : (max : ℕ) (before after : OpenView) (given : List Answer) → ReadAnswers before max given after → IsOwed after → IsOwed before
  read_back max before after given reads owed = earlier before after given (read_goes_on before after max given reads) owed

  refused_back : (config : Config) (setting : Setting) (at : ℕ) (body : Body) (old : SessionView) (why : BodyFault) (pass : PassView Alert Call) (front : FrontView EntryView)
      → AnswersPosted setting.policy setting.places at setting.timeout body old.pass pass old.front front (Err why) → WasOwed (record old { pass = pass; front = front }) → WasOwed old
  refused_back config setting at body old (refused.Put fault) pass front it owed = same_opened old (record old { pass = pass; front = front }) _ it.2 refl owed
  refused_back config setting at body old (refused.Unread fault) pass front it owed = record {
    seen = subst (λ (f : FrontView EntryView). IsPrefix f.seen entries) it.2 owed.seen;
    owed = owed.owed;
  }

  put_refused_back : (setting : Setting) (at : ℕ) (alerts : List Alert) (old : SessionView) (why : BodyFault) (pass : PassView Alert Call) (front : FrontView EntryView)
      → AnswersPut setting.policy setting.places at alerts old.pass pass old.front front (Err why) → WasOwed (record old { pass = pass; front = front }) → WasOwed old
  put_refused_back setting at alerts old (refused.Put fault) pass front it owed = same_opened old (record old { pass = pass; front = front }) _ it.2 refl owed
  put_refused_back setting at alerts old (refused.Unread fault) pass front it owed = record {
    seen = subst (λ (f : FrontView EntryView). IsPrefix f.seen entries) it.2 owed.seen;
    owed = owed.owed;
  }

  does_back : (config : Config) (setting : Setting) (old new : SessionView) (command : Command) (given : List Answer) → Does config setting old command given new → WasOwed new → WasOwed old
  does_back config setting old new command given (does.posted {pass = pass} {front = front} it) owed = same_opened old (record old { pass = pass; front = front }) _ it.2 refl owed
  does_back config setting old new command given (does.post_refused {at = at} {body = body} {why = why} {pass = pass} {front = front} it) owed = refused_back config setting at body old why pass front it owed
  does_back config setting old new command given (does.put {pass = pass} {front = front} it) owed = same_opened old (record old { pass = pass; front = front }) _ it.2 refl owed
  does_back config setting old new command given (does.put_refused {at = at} {alerts = alerts} {why = why} {pass = pass} {front = front} it) owed = put_refused_back setting at alerts old why pass front it owed
  does_back config setting old new command given (does.subscribed {front = front} one named sees fresh) owed = record {
    seen = seen_before old.front front _ sees owed.seen;
    owed = λ j other there. owed.owed j other (append_there old.opened (one ∷ []) j other there);
  }
  does_back config setting old new command given (does.subscribe_refused {front = front} sees) owed = same_opened old (record old { front = front }) _ sees refl owed
  does_back config setting old new command given (does.read {name = name} {max = max} {index = index} {answers = answers} here it) owed = record {
    seen = seen_before old.front new.front _ it.sees owed.seen;
    owed = one_changed old.opened index it.before it.after it.there (read_back max it.before it.after answers it.reads) (subst (AreOwed entries) it.opened owed.owed);
  }
  does_back config setting old new command given (does.nothing_to_read none) owed = owed
  does_back config setting old new command given (does.left {index = index} {ended = ending} here leaves) owed = left_one index old new ending leaves owed
  does_back config setting old new command given (does.nothing_to_leave none) owed = owed
  does_back config setting old new command given (does.collected {front = front} sees) owed = same_opened old (record old { front = front }) _ sees refl owed
  does_back config setting old new command given (does.collect_refused {front = front} sees) owed = same_opened old (record old { front = front }) _ sees refl owed
  does_back config setting old new command given (does.took {front = front} sees) owed = same_opened old (record old { front = front }) _ sees refl owed
  does_back config setting old new command given (does.take_refused {front = front} sees) owed = same_opened old (record old { front = front }) _ sees refl owed
  does_back config setting old new command given (does.closed {front = front} sees) owed = same_opened old (record old { front = front }) _ sees refl owed
  does_back config setting old new command given (does.close_refused {front = front} sees) owed = same_opened old (record old { front = front }) _ sees refl owed
  does_back config setting old new command given (does.trimmed {front = front} sees) owed = same_opened old (record old { front = front }) _ sees refl owed
  does_back config setting old new command given (does.trim_refused {front = front} sees) owed = same_opened old (record old { front = front }) _ sees refl owed
  does_back config setting old new command given (does.compacted {front = front} sees) owed = same_opened old (record old { front = front }) _ sees refl owed
  does_back config setting old new command given (does.compact_refused {front = front} sees) owed = same_opened old (record old { front = front }) _ sees refl owed
  does_back config setting old new command given (does.groups is) owed = owed
  does_back config setting old new command given (does.swept {name = name} {at = at} {answers = answers} {opened = opened} it) owed = record {
    seen = owed.seen;
    owed = on_named name verb.Sweep _ old.opened opened answers (swept_one half.Dispatcher at) it owed.owed;
  }
  does_back config setting old new command given (does.forgot {name = name} {at = at} {answers = answers} {opened = opened} it) owed = record {
    seen = owed.seen;
    owed = on_named name verb.Forget _ old.opened opened answers (swept_one half.Inhibitor at) it owed.owed;
  }
  does_back config setting old new command given (does.mutes it) owed = owed
  does_back config setting old new command given (does.stored {front = front} sees) owed = same_opened old (record old { front = front }) _ sees refl owed
  does_back config setting old new command given (does.stored_refused {front = front} sees) owed = same_opened old (record old { front = front }) _ sees refl owed
  does_back config setting old new command given (does.paged {front = front} sees) owed = same_opened old (record old { front = front }) _ sees refl owed
  does_back config setting old new command given (does.page_refused {front = front} sees) owed = same_opened old (record old { front = front }) _ sees refl owed
  does_back config setting old new command given (does.got {front = front} found sees) owed = same_opened old (record old { front = front }) _ sees refl owed
  does_back config setting old new command given (does.get_refused {front = front} sees) owed = same_opened old (record old { front = front }) _ sees refl owed
  does_back config setting old new command given (does.routes shows) owed = owed
  does_back config setting old new command given (does.route asks) owed = owed

  looked_back : (old new : SessionView) → LooksOn old new → WasOwed new → WasOwed old
  looked_back old new looks it = record {
    seen = prefix_then old.front.seen new.front.seen entries looks.0.0 it.seen;
    owed = subst (AreOwed entries) (ap (λ (s : SessionView). s.opened) looks.1) it.owed;
  }

  line_back : (config : Config) (setting : Setting) (order : Order) (at : ℕ) (line : Line) (old new : SessionView) (given : List Answer) → RunsLine config setting order at line old given new → WasOwed new → WasOwed old
  line_back config setting order at line old new given runs owed =
      looked_back old runs.begun runs.before (does_back config setting runs.begun runs.done line.command given runs.does (looked_back runs.done new runs.after owed))

  lines_back : (config : Config) (setting : Setting) (order : Order) (thread first : ℕ) (now end : SessionView) (lines : List Line) (answers : List (Vec Answer)) → Works config setting order thread first now lines answers end → WasOwed end → WasOwed now
  lines_back config setting order thread first now end lines answers works.nothing owed = owed
  lines_back config setting order thread first now end lines answers (works.own {lines = before} {answers = told} {old = old} line given mine it runs) owed =
      lines_back config setting order thread first now old before told it (line_back config setting order (first + length before) line old end given.items runs owed)
  lines_back config setting order thread first now end lines answers (works.others {lines = before} line not_mine it) owed =
      lines_back config setting order thread first now end before answers it owed

  last_back : (order : Order) (number : ℕ) (end : SessionView) (pass : PassView Alert Call) (front : FrontView EntryView) → LeavesLast order number end pass front → IsPrefix front.seen entries → WasOwed end
  last_back order number end pass front last longer =
      looked_back end last.begun last.looks (all_left last.begun (record { pass = pass; front = last.left; opened = [] }) last.leaves (prefix_then last.left.seen front.seen entries last.sees.0 longer))

pub read_is_due : StaysFrontOfDue → ReadIsDue
read_is_due law config setting order thread first number now end pass front lines answers entries works leaves longer =
    (lines_back law entries config setting order thread first now end lines answers works (last_back law entries order number end pass front leaves longer)).owed
