-- A history grows as the journal does.
use Rattle.std.proofs.Common.{◌≡◌, ◌≢◌, ℕ, ◌+◌, ◌-◌, ◌/◌, ◌≤◌, ◌<◌, max, add_assoc, add-zero, Bool, true, false, ◌||◌, cond, nat_eq, nat_le, List, [], ◌∷◌, ◌++◌, Option, Some, None, length, get_or, take, drop, filter, refl, sym, ap, subst, ◌∙◌, arith, length-append, length-drop, inl, inr}
use mathlib.Core.List.{IsPrefix}
use mathlib.Core.Logic.{dite}
use native.Mathlib.Decide.{ℕ_discrete}
use Rattle.std.specs.List.{All, slice_get, flat_map}
use Rattle.std.proofs.lemmas.List.{append_assoc, append-nil, take-append-drop, length-map, map-append, take-append-le}
use Rattle.std.proofs.lemmas.Bool.{le-leb}
use Rattle.std.proofs.lemmas.Bool.Decides.{eqb_tells}
use Rattle.std.proofs.lemmas.List.Elements.{filter-append}
use Rattle.am_alert.specs.declared.alert.Alert.{Alert}
use Rattle.am_segment.specs.Segments.{KeyView}
use Rattle.am_cast.specs.declared.views.Account.{Account}
use Rattle.am_cast.specs.Rule.{idle, live, cut, vacated}
use Rattle.am_cast.specs.Seats.{account_of, some_or}
use Rattle.am_cast.specs.Writers.{StandsOn, IsCutAs}
use Rattle.am_store.specs.LaneSets.{has_lane}
use Rattle.am_store.specs.declared.call.Call.{Call}
use Rattle.am_store.specs.declared.call.Call.TheVariants.{Posted}
use Rattle.am_store.specs.declared.lanes.OpenLane.{OpenLane}
use Rattle.am_store.specs.Journal.{JournalView, with_call, is_closed, is_open, MayFollow, IsLegal, IsKept, IsOpenSubscription, new_journal}
use Rattle.am_store.specs.Stored.{first_reports, updates}
use Rattle.am_store.specs.Broadcast.{broadcast, batches_of, due}
use Rattle.am_store.specs.Trims.{IsTrimmed, Drops}
use Rattle.am_store.specs.Laws.{GiveTheSame}
use Rattle.am_store.proofs.Journals.{get_end, get_drop, first_stays, first_all, broadcast_last, legal_last}
use Rattle.am_store.proofs.Trims.{trimmed_gives_the_same, trimmed_grows, trimmed_twice, moved, since_same}
use Rattle.am_provider.specs.declared.answers.Policy.{Policy}
use Rattle.am_provider.specs.Headline.{HasLagged, next_place}
use Rattle.am_provider.specs.Batches.{Batch, LogView, sent_in}
use Rattle.am_provider.specs.BookView.{BookView, batches, IsEndingOf, IsFaithful}
use Rattle.am_provider.specs.declared.answers.Ended.{Ended}
use Rattle.am_provider.specs.Histories.{EntryView, call_of, calls_of, whole, trimmed_by, gone_from, gone_by, stored_after, sent_by, cut_after, cut_from, is_cut, ending_of, endings_of, endings_since, Accepted, Trimmed, Compacted}
use Rattle.am_provider.specs.Ending.{IsOwed}
use Rattle.am_provider.specs.Posts.{HasSameLimits, IsCutBy}
use Rattle.am_provider.specs.inside.Endings.{is_since}
use Rattle.am_provider.specs.inside.Records.{IsRecorded}
use Rattle.am_provider.proofs.Endings.{kept_twice}
use Rattle.am_provider.proofs.Trimming.{sent_each}

-- ---- one entry more

pub calls_more : (entries more : List EntryView) → calls_of (entries ++ more) ≡ calls_of entries ++ calls_of more
calls_more [] more = refl
calls_more (entry ∷ entries) more = ap (λ calls. call_of entry ++ calls) (calls_more entries more) ∙ sym (append_assoc (call_of entry) (calls_of entries) (calls_of more))

pub whole_more : (entries : List EntryView) (call : Call) (bits : ℕ) (ended : Option Ended) → whole (entries ++ Accepted call bits ended ∷ []) ≡ with_call (whole entries) call
whole_more entries call bits ended = ap (λ (calls : List Call). record new_journal { calls = calls }) (calls_more entries (Accepted call bits ended ∷ []))

pub whole_trimmed : (entries : List EntryView) (count : ℕ) → whole (entries ++ Trimmed count ∷ []) ≡ whole entries
whole_trimmed entries count = ap (λ (calls : List Call). record new_journal { calls = calls }) (calls_more entries (Trimmed count ∷ []) ∙ append-nil (calls_of entries))

pub whole_compacted : (entries : List EntryView) (count : ℕ) → whole (entries ++ Compacted count ∷ []) ≡ whole entries
whole_compacted entries count = ap (λ (calls : List Call). record new_journal { calls = calls }) (calls_more entries (Compacted count ∷ []) ∙ append-nil (calls_of entries))

pub trimmed_more : (entries : List EntryView) (call : Call) (bits : ℕ) (ended : Option Ended) → trimmed_by (entries ++ Accepted call bits ended ∷ []) ≡ trimmed_by entries
trimmed_more [] call bits ended = refl
trimmed_more (Accepted first lanes other ∷ entries) call bits ended = trimmed_more entries call bits ended
trimmed_more (Trimmed count ∷ entries) call bits ended = ap (λ n. count + n) (trimmed_more entries call bits ended)
trimmed_more (Compacted count ∷ entries) call bits ended = trimmed_more entries call bits ended

pub trimmed_again : (entries : List EntryView) (count : ℕ) → trimmed_by (entries ++ Trimmed count ∷ []) ≡ trimmed_by entries + count
trimmed_again [] count = omega arith
trimmed_again (Accepted first lanes other ∷ entries) count = trimmed_again entries count
trimmed_again (Trimmed first ∷ entries) count = omega (arith, trimmed_again entries count)
trimmed_again (Compacted first ∷ entries) count = trimmed_again entries count

pub trimmed_compacted : (entries : List EntryView) (count : ℕ) → trimmed_by (entries ++ Compacted count ∷ []) ≡ trimmed_by entries
trimmed_compacted [] count = refl
trimmed_compacted (Accepted first lanes other ∷ entries) count = trimmed_compacted entries count
trimmed_compacted (Trimmed first ∷ entries) count = ap (λ n. first + n) (trimmed_compacted entries count)
trimmed_compacted (Compacted first ∷ entries) count = trimmed_compacted entries count

gone_more : (trimmed gone : ℕ) (entries : List EntryView) (entry : EntryView) → gone_from trimmed gone (entries ++ entry ∷ []) ≡ gone_from (trimmed + trimmed_by entries) (gone_from trimmed gone entries) (entry ∷ [])
gone_more trimmed gone [] entry = ap (λ n. gone_from n gone (entry ∷ [])) (sym (add-zero trimmed))
gone_more trimmed gone (Accepted first lanes other ∷ entries) entry = gone_more trimmed gone entries entry
gone_more trimmed gone (Trimmed first ∷ entries) entry =
    gone_more (trimmed + first) (max gone (trimmed + first)) entries entry
    ∙ ap (λ n. gone_from n (gone_from (trimmed + first) (max gone (trimmed + first)) entries) (entry ∷ [])) (add_assoc trimmed first (trimmed_by entries))
gone_more trimmed gone (Compacted first ∷ entries) entry = gone_more trimmed (gone + first) entries entry

pub gone_called : (entries : List EntryView) (call : Call) (bits : ℕ) (ended : Option Ended) → gone_by (entries ++ Accepted call bits ended ∷ []) ≡ gone_by entries
gone_called entries call bits ended = gone_more 0 0 entries (Accepted call bits ended)

pub gone_trimmed : (entries : List EntryView) (count : ℕ) → gone_by (entries ++ Trimmed count ∷ []) ≡ max (gone_by entries) (0 + trimmed_by entries + count)
gone_trimmed entries count = gone_more 0 0 entries (Trimmed count)

pub gone_compacted : (entries : List EntryView) (count : ℕ) → gone_by (entries ++ Compacted count ∷ []) ≡ gone_by entries + count
gone_compacted entries count = gone_more 0 0 entries (Compacted count)

cut_more : (lane : ℕ) (was : Bool) (entries : List EntryView) (call : Call) (bits : ℕ) (ended : Option Ended) → cut_from lane was (entries ++ Accepted call bits ended ∷ []) ≡ cut_after lane (cut_from lane was entries) call bits
cut_more lane was [] call bits ended = refl
cut_more lane was (Accepted first lanes other ∷ entries) call bits ended = cut_more lane (cut_after lane was first lanes) entries call bits ended
cut_more lane was (Trimmed count ∷ entries) call bits ended = cut_more lane was entries call bits ended
cut_more lane was (Compacted count ∷ entries) call bits ended = cut_more lane was entries call bits ended

cut_trimmed : (lane : ℕ) (was : Bool) (entries : List EntryView) (count : ℕ) → cut_from lane was (entries ++ Trimmed count ∷ []) ≡ cut_from lane was entries
cut_trimmed lane was [] count = refl
cut_trimmed lane was (Accepted first lanes other ∷ entries) count = cut_trimmed lane (cut_after lane was first lanes) entries count
cut_trimmed lane was (Trimmed first ∷ entries) count = cut_trimmed lane was entries count
cut_trimmed lane was (Compacted first ∷ entries) count = cut_trimmed lane was entries count

cut_compacted : (lane : ℕ) (was : Bool) (entries : List EntryView) (count : ℕ) → cut_from lane was (entries ++ Compacted count ∷ []) ≡ cut_from lane was entries
cut_compacted lane was [] count = refl
cut_compacted lane was (Accepted first lanes other ∷ entries) count = cut_compacted lane (cut_after lane was first lanes) entries count
cut_compacted lane was (Trimmed first ∷ entries) count = cut_compacted lane was entries count
cut_compacted lane was (Compacted first ∷ entries) count = cut_compacted lane was entries count

-- ---- what a recorded Book and its history have in common

module _ {policy : Policy} {places : ℕ} (book : BookView) (entries : List EntryView) (of : IsRecorded policy places book entries) where
  pub same : GiveTheSame (whole entries) book.journal
  same = trimmed_gives_the_same (whole entries) book.journal (trimmed_by entries) of.few of.journal

  pub same_closed : is_closed (whole entries) ≡ is_closed book.journal
  same_closed = sym same.closed

  pub same_open : (lane : ℕ) → is_open (whole entries) lane ≡ is_open book.journal lane
  same_open lane = sym (same.lanes lane)

  pub may : (call : Call) → MayFollow book.journal call → MayFollow (whole entries) call
  may call it = (same.follow call).0 it

  pub same_places : length (sent_by entries) ≡ length (batches book)
  same_places = sym (ap length of.sent) ∙ length-map (batches book) (λ (b : Batch). Rattle.am_cast.specs.Keys.batch_items b)

  pub same_count : next_place entries ≡ length (batches book)
  same_count = sym (sent_each (first_reports new_journal.store) (calls_of entries)) ∙ same_places

  pub call_number : book.journal.before + length book.journal.calls ≡ length (calls_of entries)
  call_number = omega (arith, of.few, of.journal.before, ap length of.journal.calls, length-drop (trimmed_by entries) (calls_of entries))

  -- a subscription that is open is open in the whole history
  pub open_whole : (lane at : ℕ) → IsOpenSubscription book.journal lane at → IsOpenSubscription (whole entries) lane at
  open_whole lane at opened =
      let h = opened.begun in
      record {
        begun = omega arith;
        entry = ap (λ n. slice_get (calls_of entries) n) (sym (moved (whole entries) book.journal (trimmed_by entries) of.journal at h))
            ∙ (sym (get_drop (trimmed_by entries) (calls_of entries) (at - book.journal.before))
            ∙ (ap (λ (calls : List Call). slice_get calls (at - book.journal.before)) (sym of.journal.calls) ∙ opened.entry));
        kept = subst (IsKept lane) (since_same (whole entries) book.journal (trimmed_by entries) of.journal at h) opened.kept;
      }

  -- what is stored is what the whole history gives
  pub stored_whole : IsFaithful book → book.stored ≡ stored_after entries
  stored_whole kept = kept.journal.stored ∙ same.stored

  -- what a subscription came to is what the whole history owes it
  pub ending_whole : (ended : Ended) → IsEndingOf book.journal ended → IsOwed entries ended
  ending_whole ended it =
      let owed : due book.journal ended.at ≡ due (whole entries) ended.at = same.due ended.at it.low in
      let long = ap length owed in
      let number = call_number in
      let high = it.high in record {
        at = omega (arith, high, number);
        within = omega (arith, it.within, long);
        complete = λ told. it.complete told ∙ long;
        closed = λ told. same_closed ∙ it.closed told;
      }

  pub owed_whole : IsFaithful book → All (IsOwed entries) book.endings
  owed_whole kept k ended inside = ending_whole (get_or book.endings k ended) (kept.endings k ended inside)

-- ---- the log

pub prefix_same : {A : Type 0} (xs ys : List A) → ys ≡ xs → IsPrefix xs ys
prefix_same xs ys is = ([], append-nil xs ∙ sym is)

-- lists of one beginning and one rest
one_list : {A : Type 0} (n : ℕ) (xs ys : List A) → take n xs ≡ take n ys → drop n xs ≡ drop n ys → xs ≡ ys
one_list n xs ys front rest = sym (take-append-drop n xs) ∙ (ap (λ zs. zs ++ drop n xs) front ∙ (ap (λ zs. take n ys ++ zs) rest ∙ take-append-drop n ys))

take_grown : {A : Type 0} (n : ℕ) (xs more ys : List A) → ys ≡ xs ++ more → n ≤ length xs → take n ys ≡ take n xs
take_grown n xs more ys is within = ap (take n) is ∙ take-append-le n xs more within

-- the log of a grown Book is what the grown history sends out
sent_more : (a b : BookView) (entries : List EntryView) (call : Call) (count : ℕ) → sent_in (batches a) ≡ broadcast (whole entries) → IsFaithful a → IsFaithful b
    → b.journal ≡ with_call a.journal call → IsPrefix (batches a) (batches b) → GiveTheSame (with_call (whole entries) call) (with_call a.journal call)
    → sent_in (batches b) ≡ broadcast (with_call (whole entries) call)
sent_more a b entries call count sent old new journal longer grown =
    let n = a.journal.places in
    let low : n ≤ length (sent_in (batches a)) = old.journal.places in
    let log : sent_in (batches b) ≡ sent_in (batches a) ++ sent_in longer.0 =
    ap sent_in (sym longer.1) ∙ map-append (λ (y : Batch). Rattle.am_cast.specs.Keys.batch_items y) (batches a) longer.0 in
    let front : take n (sent_in (batches b)) ≡ take n (broadcast (with_call (whole entries) call)) =
    take_grown n (sent_in (batches a)) (sent_in longer.0) (sent_in (batches b)) log low
    ∙ (ap (take n) sent ∙ sym (take_grown n (broadcast (whole entries)) (batches_of (updates (whole entries)) call) (broadcast (with_call (whole entries) call)) (broadcast_last (whole entries) call)
    (omega (arith, low, ap length sent)))) in
    let none : n - 0 ≡ n = omega arith in
    let rest : drop n (sent_in (batches b)) ≡ drop n (broadcast (with_call (whole entries) call)) =
    ap (λ (j : JournalView). drop j.places (sent_in (batches b))) (sym journal) ∙ (new.journal.log ∙ (ap broadcast journal ∙ (grown.sent ∙ ap (λ k. drop k (broadcast (with_call (whole entries) call))) none))) in
    one_list n (sent_in (batches b)) (broadcast (with_call (whole entries) call)) front rest

-- ---- the lanes

-- what a flag tells of an account
pub record Tells (flag : Bool) (account : Account (KeyView Alert) OpenLane) : Type 0 where
  pub yes : flag ≡ true → account.stand ≡ cut
  pub no : flag ≡ false → account.stand ≢ cut

pub tells_of : {policy : Policy} {places : ℕ} (book : BookView) (entries : List EntryView) → IsRecorded policy places book entries → (lane : ℕ) → lane < 8 → Tells (is_cut entries lane) (account_of book.log lane)
tells_of book entries of lane small = record { yes = of.cuts lane small; no = of.spares lane small }

tells_stand : (flag : Bool) (was is : Account (KeyView Alert) OpenLane) → is.stand ≡ was.stand → Tells flag was → Tells flag is
tells_stand flag was is e it = record { yes = λ y. e ∙ it.yes y; no = λ n c. it.no n (sym e ∙ c) }

-- a lane that stands on is cut if it was
tells_on : (flag : Bool) (was is : Account (KeyView Alert) OpenLane) → StandsOn was is → Tells flag was → Tells flag is
tells_on flag was is on it = record {
  yes = λ y. dite (ℕ_discrete is.stand was.stand) (λ e. e ∙ it.yes y) (λ ne. let moved = on.0 ne in let stood = it.yes y in absurd (omega (arith, moved.0, stood)));
  no = λ n c. dite (ℕ_discrete is.stand was.stand) (λ e. it.no n (sym e ∙ c)) (λ ne. let moved = on.0 ne in absurd (omega (arith, moved.1, c)));
}

-- each account goes on as the call says
abbrev pub CutsAs : BookView → BookView → Call → ℕ → Type 0
CutsAs a b call bits = (lane : ℕ) → lane < 8 → (was : Bool) → Tells was (account_of a.log lane) → Tells (cut_after lane was call bits) (account_of b.log lane)

-- ---- how far the readers of cut lanes are

-- a reader of a cut lane had lagged, and has by the longer history
lagged_more : {places lane at passed : ℕ} (before more : List EntryView) → HasLagged places lane at passed before → HasLagged places lane at passed (before ++ more)
lagged_more before more it = record {
  first = it.first;
  rest = it.rest ++ more;
  now = it.now;
  alerts = it.alerts;
  cut = it.cut;
  entries = ap (λ (entries : List EntryView). entries ++ more) it.entries ∙ append_assoc it.first (Accepted (Posted it.now it.alerts) it.cut None ∷ it.rest) more;
  still_open = it.still_open;
  cuts = it.cuts;
  late = it.late;
}

-- one that has passed as many or fewer had lagged too
pub lagged_within : {places some lane at passed most : ℕ} (before : List EntryView) → HasLagged some lane at most before → passed + places ≤ most + some → HasLagged places lane at passed before
lagged_within before it less = record {
  first = it.first;
  rest = it.rest;
  now = it.now;
  alerts = it.alerts;
  cut = it.cut;
  entries = it.entries;
  still_open = it.still_open;
  cuts = it.cuts;
  late = omega (arith, it.late, less);
}

-- by a Book, the readers of its cut lanes had lagged
abbrev pub LagsAs : ℕ → BookView → List EntryView → Type 0
LagsAs places b entries = (lane : ℕ) → lane < 8 → is_cut entries lane ≡ true → (one : OpenLane) → (account_of b.log lane).note ≡ Some one → HasLagged places lane one.at ((account_of b.log lane).half / 2 + 1) entries

-- one that was cut before still has its note and its word
lags_on : {policy : Policy} {places : ℕ} (a : BookView) (entries more : List EntryView) (lane : ℕ) (is : Account (KeyView Alert) OpenLane) (one : OpenLane) → IsRecorded policy places a entries → lane < 8 → is_cut entries lane ≡ true
    → is.note ≡ (account_of a.log lane).note → is.half ≡ (account_of a.log lane).half → is.note ≡ Some one → HasLagged places lane one.at (is.half / 2 + 1) (entries ++ more)
lags_on {places = places} a entries more lane is one of small severed note half has =
    subst (λ (n : ℕ). HasLagged places lane one.at (n / 2 + 1) (entries ++ more)) (sym half) (lagged_more entries more (of.lags lane small severed one (sym note ∙ has)))

-- ---- the endings

-- the endings are the same, or there is one more
abbrev pub EndsAs : BookView → BookView → Option Ended → Type 0
EndsAs a b None = (b.endings ≡ a.endings) × (b.early ≡ a.early)
EndsAs a b (Some ended) = (b.endings ≡ a.endings ++ ended ∷ []) × (b.early ≡ a.early) × (a.journal.before ≤ ended.at)

endings_more : (entries more : List EntryView) → endings_of (entries ++ more) ≡ endings_of entries ++ endings_of more
endings_more [] more = refl
endings_more (entry ∷ entries) more = ap (λ endings. ending_of entry ++ endings) (endings_more entries more) ∙ sym (append_assoc (ending_of entry) (endings_of entries) (endings_of more))

ends_more : {policy : Policy} {places : ℕ} (a b : BookView) (entries : List EntryView) (call : Call) (bits : ℕ) (ended : Option Ended) → IsRecorded policy places a entries → EndsAs a b ended
    → (b.endings ≡ endings_since (trimmed_by (entries ++ Accepted call bits ended ∷ [])) (entries ++ Accepted call bits ended ∷ [])) × (b.early + length b.endings ≡ length (endings_of (entries ++ Accepted call bits ended ∷ [])))
ends_more a b entries call bits None of ends =
    let all : endings_of (entries ++ Accepted call bits None ∷ []) ≡ endings_of entries = endings_more entries (Accepted call bits None ∷ []) ∙ append-nil (endings_of entries) in
    let same = ap length ends.0 in (
      ends.0 ∙ (of.endings ∙ (ap (λ n. filter (is_since n) (endings_of entries)) (sym (trimmed_more entries call bits None)) ∙ ap (filter (is_since (trimmed_by (entries ++ Accepted call bits None ∷ [])))) (sym all))),
      omega (arith, of.early, ends.1, same, ap length all),
    )
ends_more a b entries call bits (Some ended) of ends =
    let all : endings_of (entries ++ Accepted call bits (Some ended) ∷ []) ≡ endings_of entries ++ ended ∷ [] = endings_more entries (Accepted call bits (Some ended) ∷ []) in
    let same = ap length ends.0 in
    let long = length-append a.endings (ended ∷ []) in
    let more = length-append (endings_of entries) (ended ∷ []) in
    let low : trimmed_by entries ≤ ended.at = omega (arith, of.journal.before, ends.2) in
    let one : filter (is_since (trimmed_by entries)) (ended ∷ []) ≡ ended ∷ [] = ap (λ (b : Bool). cond b (ended ∷ []) []) (le-leb (trimmed_by entries) ended.at low) in
    let kept : filter (is_since (trimmed_by entries)) (endings_of entries ++ ended ∷ []) ≡ a.endings ++ ended ∷ [] =
    filter-append (is_since (trimmed_by entries)) (endings_of entries) (ended ∷ []) ∙ (ap (λ xs. xs ++ filter (is_since (trimmed_by entries)) (ended ∷ [])) (sym of.endings) ∙ ap (λ xs. a.endings ++ xs) one) in (
      ends.0 ∙ (sym kept ∙ (ap (λ n. filter (is_since n) (endings_of entries ++ ended ∷ [])) (sym (trimmed_more entries call bits (Some ended))) ∙ ap (filter (is_since (trimmed_by (entries ++ Accepted call bits (Some ended) ∷ [])))) (sym all))),
      omega (arith, of.early, ends.1, same, long, more, ap length all),
    )

-- ---- a call more

-- a call that was added may follow
pub may_whole : {policy : Policy} {places : ℕ} (a b : BookView) (entries : List EntryView) (call : Call) → IsRecorded policy places a entries → IsFaithful b
    → b.journal ≡ with_call a.journal call → MayFollow (whole entries) call
may_whole a b entries call of new journal =
    let legal : IsLegal (with_call a.journal call) = subst IsLegal journal new.journal.legal in
    may a entries of call (subst (λ j. MayFollow j call) (first_stays a.journal call (length a.journal.calls) (omega arith) ∙ first_all a.journal) (legal (length a.journal.calls) call (get_end a.journal.calls call)))

pub recorded_more : {policy : Policy} {places : ℕ} (a b : BookView) (entries : List EntryView) (call : Call) (bits : ℕ) (ended : Option Ended) → IsRecorded policy places a entries → IsFaithful a → IsFaithful b
    → b.journal ≡ with_call a.journal call → IsPrefix (batches a) (batches b) → HasSameLimits a b → CutsAs a b call bits → LagsAs places b (entries ++ Accepted call bits ended ∷ []) → EndsAs a b ended → b.gone ≡ a.gone → IsRecorded policy places b (entries ++ Accepted call bits ended ∷ [])
recorded_more {policy} {places} a b entries call bits ended of old new journal longer limits cuts lags ends gone =
    let is = whole_more entries call bits ended in
    let count = trimmed_by entries in
    let trimmed : IsTrimmed (with_call (whole entries) call) count (with_call a.journal call) = trimmed_grows (whole entries) a.journal count call of.few of.journal in
    let long : length (calls_of (entries ++ Accepted call bits ended ∷ [])) ≡ length (calls_of entries) + 1 = ap length (calls_more entries (Accepted call bits ended ∷ [])) ∙ length-append (calls_of entries) (call ∷ []) in
    let fits : count ≤ length (calls_of entries ++ call ∷ []) = omega (arith, of.few, length-append (calls_of entries) (call ∷ [])) in
    let grown = trimmed_gives_the_same (with_call (whole entries) call) (with_call a.journal call) count fits trimmed in
    let tells : (lane : ℕ) → lane < 8 → Tells (is_cut (entries ++ Accepted call bits ended ∷ []) lane) (account_of b.log lane) =
    λ lane small. subst (λ flag. Tells flag (account_of b.log lane)) (sym (cut_more lane false entries call bits ended)) (cuts lane small (is_cut entries lane) (tells_of a entries of lane small)) in
    record {
      legal = subst IsLegal (sym is) (legal_last (whole entries) call of.legal (may_whole a b entries call of new journal));
      few = omega (arith, of.few, long, trimmed_more entries call bits ended);
      journal = subst (λ n. IsTrimmed (whole (entries ++ Accepted call bits ended ∷ [])) n b.journal) (sym (trimmed_more entries call bits ended))
          (subst (λ j. IsTrimmed j count b.journal) (sym is) (subst (IsTrimmed (with_call (whole entries) call) count) (sym journal) trimmed));
      gone = gone ∙ (of.gone ∙ sym (gone_called entries call bits ended));
      sent = sent_more a b entries call count of.sent old new journal longer grown ∙ ap broadcast (sym is);
      cuts = λ lane small. (tells lane small).yes;
      spares = λ lane small. (tells lane small).no;
      lags = lags;
      endings = (ends_more a b entries call bits ended of ends).0;
      early = (ends_more a b entries call bits ended of ends).1;
      limits = (limits.0 ∙ of.limits.0, limits.1 ∙ of.limits.1);
    }

-- ---- how each kind of call goes on

pub cuts_posted : (a b : BookView) (now : ℕ) (alerts : List Alert) (bits : ℕ) → IsCutBy a b bits → CutsAs a b (Posted now alerts) bits
cuts_posted a b now alerts bits by lane small was tells = posted was (has_lane bits lane) tells (by.cuts lane small)
  where
    posted : (was bit : Bool) → Tells was (account_of a.log lane) → IsCutAs (length (batches a)) a.log.tail.places (account_of a.log lane) (account_of b.log lane) bit → Tells (was || bit) (account_of b.log lane)
    posted true true it how = record { yes = λ y. how.1; no = λ n. absurd (let no : true ≡ false = n in cc) }
    posted false true it how = record { yes = λ y. how.1; no = λ n. absurd (let no : true ≡ false = n in cc) }
    posted true false it how = tells_on true (account_of a.log lane) (account_of b.log lane) how it
    posted false false it how = tells_on false (account_of a.log lane) (account_of b.log lane) how it

-- one that the post cut lagged then by as many batches as the log has places
pub lags_posted : {policy : Policy} {places : ℕ} (a b : BookView) (entries : List EntryView) (now : ℕ) (alerts : List Alert) (bits : ℕ) → IsRecorded policy places a entries → IsFaithful a → IsCutBy a b bits → LagsAs places b (entries ++ Accepted (Posted now alerts) bits None ∷ [])
lags_posted {places = places} a b entries now alerts bits of kept by lane small severed one has =
    go (is_cut entries lane) (has_lane bits lane) refl refl (sym (cut_more lane false entries (Posted now alerts) bits None) ∙ severed) (by.cuts lane small)
  where
    was : Account (KeyView Alert) OpenLane
    was = account_of a.log lane

    is : Account (KeyView Alert) OpenLane
    is = account_of b.log lane

    opened : (flag : Bool) → is_open a.journal lane ≡ flag → was.stand ≡ live → is_open a.journal lane ≡ true
    opened true e lives = e
    opened false e lives = absurd (let stands = (kept.lanes lane small).shut e in omega (arith, stands, lives))

    go : (before bit : Bool) → is_cut entries lane ≡ before → has_lane bits lane ≡ bit → before || bit ≡ true → IsCutAs (length (batches a)) a.log.tail.places was is bit
        → HasLagged places lane one.at (is.half / 2 + 1) (entries ++ Accepted (Posted now alerts) bits None ∷ [])
    go before true e f some how =
        let begun = (kept.lanes lane small).begun (opened (is_open a.journal lane) refl how.0) in
        let note : Some one ≡ Some (record { at = begun.0; opening = _ }) = sym has ∙ ((by.lanes lane small).1 ∙ (kept.lanes lane small).note begun.0 begun.1) in
        let at : one.at ≡ begun.0 = ap (λ (o : Option OpenLane). (some_or one o).at) note in
        let long = same_places a entries of in
        record {
          first = entries;
          rest = [];
          now = now;
          alerts = alerts;
          cut = bits;
          entries = refl;
          still_open = subst (IsOpenSubscription (whole entries) lane) (sym at) (open_whole a entries of lane begun.0 begun.1);
          cuts = f;
          late = omega (arith, how.2, how.3, long, of.limits.1);
        }
    go true false e f some how = lags_on a entries (Accepted (Posted now alerts) bits None ∷ []) lane is one of small e (by.lanes lane small).1 (how.1 (of.cuts lane small e)) has
    go false false e f some how = absurd (let no : false ≡ true = some in cc)

pub lags_same : {policy : Policy} {places : ℕ} (a b : BookView) (entries : List EntryView) (call : Call) (bits : ℕ) (ended : Option Ended) → IsRecorded policy places a entries → ((lane : ℕ) (was : Bool) → cut_after lane was call bits ≡ was) → b.log.accounts ≡ a.log.accounts
    → LagsAs places b (entries ++ Accepted call bits ended ∷ [])
lags_same a b entries call bits ended of quiet accounts lane small severed one has =
    let same : account_of b.log lane ≡ account_of a.log lane = ap (λ (q : List (Account (KeyView Alert) OpenLane)). Rattle.std.specs.Prelude.slice_index_or q lane Rattle.am_cast.specs.Rule.first_account) accounts in
    lags_on a entries (Accepted call bits ended ∷ []) lane (account_of b.log lane) one of small (sym (quiet lane (is_cut entries lane)) ∙ (sym (cut_more lane false entries call bits ended) ∙ severed))
    (ap (λ (x : Account (KeyView Alert) OpenLane). x.note) same) (ap (λ (x : Account (KeyView Alert) OpenLane). x.half) same) has

pub lags_one : {policy : Policy} {places : ℕ} (a b : BookView) (entries : List EntryView) (call : Call) (bits : ℕ) (ended : Option Ended) (number : ℕ) → IsRecorded policy places a entries → ((lane : ℕ) (was : Bool) → cut_after lane was call bits ≡ cond (nat_eq number lane) false was)
    → ((lane : ℕ) → lane ≢ number → account_of b.log lane ≡ account_of a.log lane) → LagsAs places b (entries ++ Accepted call bits ended ∷ [])
lags_one a b entries call bits ended number of tells_so others lane small severed one has =
    let still : cond (nat_eq number lane) false (is_cut entries lane) ≡ true = sym (tells_so lane (is_cut entries lane)) ∙ (sym (cut_more lane false entries call bits ended) ∙ severed) in
    elim (eqb_tells number lane) [
      | inl e ↦ absurd (let no : false ≡ true = ap (λ (t : Bool). cond t false (is_cut entries lane)) (sym e.0) ∙ still in cc)
      | inr e ↦
          (let same = others lane (λ same. e.1 (sym same)) in
          lags_on a entries (Accepted call bits ended ∷ []) lane (account_of b.log lane) one of small (ap (λ (t : Bool). cond t false (is_cut entries lane)) (sym e.0) ∙ still)
          (ap (λ (x : Account (KeyView Alert) OpenLane). x.note) same) (ap (λ (x : Account (KeyView Alert) OpenLane). x.half) same) has)
    ]

pub cuts_same : (a b : BookView) (call : Call) (bits : ℕ) → ((lane : ℕ) (was : Bool) → cut_after lane was call bits ≡ was) → b.log.accounts ≡ a.log.accounts → CutsAs a b call bits
cuts_same a b call bits quiet accounts lane small was tells =
    subst (λ flag. Tells flag (account_of b.log lane)) (sym (quiet lane was))
    (tells_stand was (account_of a.log lane) (account_of b.log lane) (ap (λ (q : List (Account (KeyView Alert) OpenLane)). (Rattle.std.specs.Prelude.slice_index_or q lane Rattle.am_cast.specs.Rule.first_account).stand) accounts) tells)

-- a lane that is given out or left is not cut, and each other one stands as it did
pub cuts_one : (a b : BookView) (call : Call) (bits number : ℕ) → ((lane : ℕ) (was : Bool) → cut_after lane was call bits ≡ cond (nat_eq number lane) false was)
    → (account_of b.log number).stand ≢ cut → ((lane : ℕ) → lane ≢ number → account_of b.log lane ≡ account_of a.log lane) → CutsAs a b call bits
cuts_one a b call bits number tells_so uncut others lane small was tells =
    subst (λ flag. Tells flag (account_of b.log lane)) (sym (tells_so lane was))
    (elim (eqb_tells number lane) [
      | inl e ↦ subst (λ t. Tells (cond t false was) (account_of b.log lane)) (sym e.0)
          (record { yes = λ y. absurd (let no : false ≡ true = y in cc); no = λ n. subst (λ n. (account_of b.log n).stand ≢ cut) e.1 uncut })
      | inr e ↦ subst (λ t. Tells (cond t false was) (account_of b.log lane)) (sym e.0)
          (tells_stand was (account_of a.log lane) (account_of b.log lane) (ap (λ (x : Account (KeyView Alert) OpenLane). x.stand) (others lane (λ same. e.1 (sym same)))) tells)
    ])

-- ---- a trim

pub recorded_trimmed : {policy : Policy} {places : ℕ} (a b : BookView) (entries : List EntryView) (count : ℕ) → IsRecorded policy places a entries
    → Drops a.journal count → IsTrimmed a.journal count b.journal → b.log ≡ a.log → HasSameLimits a b → b.endings ≡ filter (is_since b.journal.before) a.endings → b.early + length b.endings ≡ a.early + length a.endings
    → b.gone ≡ max a.gone b.journal.before → IsRecorded policy places b (entries ++ Trimmed count ∷ [])
recorded_trimmed {policy} {places} a b entries count of drops trimmed log limits kept early gone =
    let is = whole_trimmed entries count in
    let within : count ≤ length a.journal.calls = at_most (nat_le (a.journal.before + drops.0) _) drops.2 drops.1.within in
    let long = length-drop (trimmed_by entries) (calls_of entries) in
    let all = call_number a entries of in
    let ends : endings_of (entries ++ Trimmed count ∷ []) ≡ endings_of entries = endings_more entries (Trimmed count ∷ []) ∙ append-nil (endings_of entries) in
    let further : trimmed_by entries ≤ b.journal.before = omega (arith, trimmed.before, of.journal.before) in
    let now : b.journal.before ≡ trimmed_by (entries ++ Trimmed count ∷ []) = omega (arith, trimmed.before, of.journal.before, trimmed_again entries count) in
    record {
      legal = subst IsLegal (sym is) of.legal;
      few = omega (arith, trimmed_again entries count, ap (λ (j : JournalView). length j.calls) is, within, of.few, ap length of.journal.calls, long);
      journal = subst (λ n. IsTrimmed (whole (entries ++ Trimmed count ∷ [])) n b.journal) (sym (trimmed_again entries count))
          (subst (λ j. IsTrimmed j (trimmed_by entries + count) b.journal) (sym is)
          (trimmed_twice (whole entries) a.journal b.journal (trimmed_by entries) count of.few within of.journal trimmed));
      gone = gone ∙ (ap (λ n. max n b.journal.before) of.gone
          ∙ (ap (max (gone_by entries)) (let all : b.journal.before ≡ 0 + trimmed_by entries + count = omega (arith, trimmed.before, of.journal.before) in all) ∙ sym (gone_trimmed entries count)));
      sent = ap (λ (q : LogView). sent_in q.tail.log) log ∙ (of.sent ∙ ap broadcast (sym is));
      cuts = λ lane small yes. ap (λ (q : LogView). (account_of q lane).stand) log ∙ of.cuts lane small (sym (cut_trimmed lane false entries count) ∙ yes);
      spares = λ lane small no c. of.spares lane small (sym (cut_trimmed lane false entries count) ∙ no) (ap (λ (q : LogView). (account_of q lane).stand) (sym log) ∙ c);
      lags = λ lane small severed one has.
          let same : account_of b.log lane ≡ account_of a.log lane = ap (λ (q : LogView). account_of q lane) log in
          lags_on a entries (Trimmed count ∷ []) lane (account_of b.log lane) one of small (sym (cut_trimmed lane false entries count) ∙ severed)
          (ap (λ (x : Account (KeyView Alert) OpenLane). x.note) same) (ap (λ (x : Account (KeyView Alert) OpenLane). x.half) same) has;
      endings = kept ∙ (ap (filter (is_since b.journal.before)) of.endings ∙ (kept_twice (trimmed_by entries) b.journal.before further (endings_of entries)
          ∙ (ap (λ n. filter (is_since n) (endings_of entries)) now ∙ ap (filter (is_since (trimmed_by (entries ++ Trimmed count ∷ [])))) (sym ends))));
      early = omega (arith, early, of.early, ap length ends);
      limits = (limits.0 ∙ of.limits.0, limits.1 ∙ of.limits.1);
    }
  where
    at_most : (fits : Bool) {count given most : ℕ} → given ≡ cond fits count 0 → count ≤ most → given ≤ most
    at_most true is low = omega (arith, is, low)
    at_most false is low = omega (arith, is)

-- ---- a compaction

pub recorded_compacted : {policy : Policy} {places : ℕ} (a b : BookView) (entries : List EntryView) (count : ℕ) → IsRecorded policy places a entries → b ≡ record a { gone = b.gone } → a.gone + count ≡ b.gone
    → IsRecorded policy places b (entries ++ Compacted count ∷ [])
recorded_compacted {policy} {places} a b entries count of same gone =
    let is = whole_compacted entries count in
    let trims = trimmed_compacted entries count in
    let ends : endings_of (entries ++ Compacted count ∷ []) ≡ endings_of entries = endings_more entries (Compacted count ∷ []) ∙ append-nil (endings_of entries) in
    let now : b.gone ≡ gone_by entries + count = omega (arith, of.gone, gone) in
    subst (λ (x : BookView). IsRecorded policy places x (entries ++ Compacted count ∷ [])) (sym same) (record {
      legal = subst IsLegal (sym is) of.legal;
      few = omega (arith, trims, ap (λ (j : JournalView). length j.calls) is, of.few);
      journal = subst (λ n. IsTrimmed (whole (entries ++ Compacted count ∷ [])) n a.journal) (sym trims)
          (subst (λ j. IsTrimmed j (trimmed_by entries) a.journal) (sym is) of.journal);
      gone = now ∙ sym (gone_compacted entries count);
      sent = of.sent ∙ ap broadcast (sym is);
      cuts = λ lane small yes. of.cuts lane small (sym (cut_compacted lane false entries count) ∙ yes);
      spares = λ lane small no. of.spares lane small (sym (cut_compacted lane false entries count) ∙ no);
      lags = λ lane small severed one has. lagged_more entries (Compacted count ∷ []) (of.lags lane small (sym (cut_compacted lane false entries count) ∙ severed) one has);
      endings = of.endings ∙ (ap (λ n. filter (is_since n) (endings_of entries)) (sym trims) ∙ ap (filter (is_since (trimmed_by (entries ++ Compacted count ∷ [])))) (sym ends));
      early = omega (arith, of.early, ap length ends);
      limits = of.limits;
    })
