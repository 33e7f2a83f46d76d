-- A book stays sound as a call comes.
use Rattle.std.proofs.Common.{◌≡◌, ℕ, zero, suc, ◌+◌, ◌<◌, ◌≤◌, Bool, true, false, not, cond, ◌||◌, nat_eq, List, [], ◌∷◌, ◌++◌, length, get_or, Option, None, Some, refl, sym, ap, subst, ◌∙◌, arith, filter, length-append, rules}
use Rattle.std.specs.Option.{is_some, IfSome}
use Rattle.am_store.specs.declared.lanes.OpenLane.{OpenLane}
use Rattle.am_store.specs.Lanes.{lane_at, open_count, IsItsOpening}
use Rattle.std.proofs.lemmas.List.{append-nil}
use Rattle.std.proofs.lemmas.List.Elements.{All-append}
use Rattle.std.specs.List.{count_by}
use Rattle.am_alert.specs.declared.alert.Alert.{Alert}
use Rattle.am_alert.specs.Merging.{is_resolved_at}
use Rattle.am_store.specs.declared.call.Call.{Call}
use Rattle.am_store.specs.declared.call.Call.TheVariants.{Posted, Collected, Closed}
use Rattle.am_alert.specs.declared.post.TheConstants.{MAX_ALERTS}
use Rattle.am_store.specs.Stored.{Update, updates_of, updates, stored}
use Rattle.am_store.specs.Broadcast.{batch_of, batches_of}
use Rattle.am_store.specs.Journal.{JournalView, with_call, closes, is_post, open_after, MayFollow}
use Rattle.am_store.specs.AlertList.{with_alerts, batch_by_list}
use Rattle.am_store.specs.LogLimits.{most_batches, IsWithinLogLimits}
use Rattle.am_store.specs.PlainBook.{FollowsJournal}
use Rattle.am_store.specs.Pages.{Pages, AgreesWithJournal}
use Rattle.am_store.proofs.Stored.{stored_post, batch_of_post, stored_collect}
use Rattle.am_store.proofs.Journals.{drop_front, updates_last, broadcast_last, posts_last, closed_last, open_last, legal_last}
use Rattle.am_store.proofs.Opens.{until_stays, open_stays}

pub record Grows (a b : Pages) (c : Call) : Type 0 where
  pub journal : b.journal.journal ≡ with_call a.journal.journal c
  pub gone : b.journal.gone ≡ a.journal.gone
  pub stored : b.stored ≡ stored (updates a.journal.journal ++ updates_of c)
  pub log : b.sent ≡ a.sent ++ batches_of (updates a.journal.journal) c
  pub closed : b.closed ≡ (a.closed || closes c)
  pub eight : length b.lanes ≡ length a.lanes
  pub lanes : (lane : ℕ) → lane < 8 → is_some (lane_at b.lanes lane) ≡ open_after lane (is_some (lane_at a.lanes lane)) c
  pub openings : (lane : ℕ) → IfSome (lane_at b.lanes lane) (IsItsOpening a.journal.gone (with_call a.journal.journal c) lane)
  pub posts : b.posts ≡ a.posts + count_by is_post (c ∷ [])
  pub limits : IsWithinLogLimits b.sent
  pub room : open_count b.lanes + cond b.closed 0 1 ≤ b.journal.room

follows_grown : (a b : Pages) (c : Call) → AgreesWithJournal a → MayFollow a.journal.journal c → Grows a b c
    → FollowsJournal (record { stored = b.stored; journal = with_call a.journal.journal c; log = b.sent })
follows_grown a b c sound may grows = grind (arith, updates_last, drop_front, broadcast_last, length-append, legal_last)

pub sound_grown : (a b : Pages) (c : Call) → AgreesWithJournal a → MayFollow a.journal.journal c → Grows a b c → AgreesWithJournal b
sound_grown a b c sound may grows = search (rules, follows_grown, closed_last, open_last, posts_last)

-- ---- what each lane has stays its subscription's

pub if_some : {A : Type 0} {P Q : A → Type 0} (o : Option A) → ((x : A) → o ≡ Some x → P x → Q x) → IfSome o P → IfSome o Q
if_some None f p = tt
if_some (Some x) f p = f x refl p

pub opening_stays : (gone : ℕ) (journal : JournalView) (c : Call) (lane : ℕ) (one : OpenLane) → open_after lane true c ≡ true → IsItsOpening gone journal lane one → IsItsOpening gone (with_call journal c) lane one
opening_stays gone journal c lane one goes its = record {
  given = open_stays journal c lane one.at its.given goes;
  opening = λ late. its.opening late ∙ ap (λ j. stored (updates j)) (sym (until_stays journal c lane one.at its.given));
}

pub openings_stay : (a b : Pages) (c : Call) → AgreesWithJournal a → ((lane : ℕ) → open_after lane true c ≡ true) → b.lanes ≡ a.lanes
    → (lane : ℕ) → IfSome (lane_at b.lanes lane) (IsItsOpening a.journal.gone (with_call a.journal.journal c) lane)
openings_stay a b c sound goes lanes lane =
    subst (λ lanes. IfSome (lane_at lanes lane) (IsItsOpening a.journal.gone (with_call a.journal.journal c) lane)) (sym lanes)
    (if_some (lane_at a.lanes lane) (λ one e its. opening_stays a.journal.gone a.journal.journal c lane one (goes lane) its) (sound.openings lane))

pub or_false : (b : Bool) → (b || false) ≡ b
or_false true = refl
or_false false = refl

batches_posted : (before : List Update) (now : ℕ) (news : List Alert) → batches_of before (Posted now news) ≡ cond (nat_eq (length news) 0) [] (batch_of before now news ∷ [])
batches_posted before now [] = refl
batches_posted before now (new ∷ news) = sym (ap (λ b. cond b [] (batch_of before now (new ∷ news) ∷ [])) (Rattle.std.proofs.Math.Dec.eqb-suc-zero (length news)))

cond_append : (b : Bool) (xs : List (List Alert)) (y : List Alert) → cond b xs (xs ++ y ∷ []) ≡ xs ++ cond b [] (y ∷ [])
cond_append true xs y = sym (append-nil xs)
cond_append false xs y = refl

pub few : (lanes : List (Option OpenLane)) → open_count lanes ≤ length lanes
few [] = omega arith
few (None ∷ lanes) = let h = few lanes in omega arith
few (Some one ∷ lanes) = let h = few lanes in omega arith

at_most_one : (b : Bool) → cond b 0 1 ≤ 1
at_most_one true = omega arith
at_most_one false = omega arith

pub enough : (b : Pages) → length b.lanes ≡ 8 → 9 ≤ b.journal.room
    → open_count b.lanes + cond b.closed 0 1 ≤ b.journal.room
enough b eight room = grind (arith, few, at_most_one)

-- ---- limits

at_most : (k : ℕ) (d batch : List Alert) → length batch ≤ MAX_ALERTS → k < 1 → length (get_or (batch ∷ []) k d) ≤ MAX_ALERTS
at_most zero d batch h l = h
at_most (suc k) d batch h l = absurd (omega arith)

limits_grown : (log : List (List Alert)) (batch : List Alert) → IsWithinLogLimits log → length batch ≤ MAX_ALERTS → (0 < length batch → length log < most_batches)
    → IsWithinLogLimits (cond (nat_eq (length batch) 0) log (log ++ batch ∷ []))
limits_grown log [] limits few fits = limits
limits_grown log (x ∷ xs) limits few fits =
    let below : length log < most_batches = fits (omega arith) in
    let grown : IsWithinLogLimits (log ++ (x ∷ xs) ∷ []) = record {
      batches = All-append (λ batch. length batch ≤ MAX_ALERTS) log ((x ∷ xs) ∷ []) limits.batches (λ k d h. at_most k d (x ∷ xs) few h);
      places = omega (arith, length-append log ((x ∷ xs) ∷ []), below);
    } in
    subst (λ b. IsWithinLogLimits (cond b log (log ++ (x ∷ xs) ∷ []))) (sym (Rattle.std.proofs.Math.Dec.eqb-suc-zero (length xs))) grown

pub limits_same : (a b : Pages) → AgreesWithJournal a → b.sent ≡ a.sent → IsWithinLogLimits b.sent
limits_same a b sound log = subst IsWithinLogLimits (sym log) sound.limits

-- ---- a post

pub sound_posted : (a b : Pages) (now : ℕ) (news batch : List Alert) → AgreesWithJournal a → a.closed ≡ false
    → b.journal.journal ≡ with_call a.journal.journal (Posted now news)
    → b.stored ≡ with_alerts batch a.stored
    → b.sent ≡ cond (nat_eq (length batch) 0) a.sent (a.sent ++ batch ∷ [])
    → batch ≡ batch_by_list now news a.stored
    → length batch ≡ length news → length news ≤ MAX_ALERTS → (0 < length news → length a.sent < most_batches)
    → b.closed ≡ a.closed → b.lanes ≡ a.lanes → b.posts ≡ a.posts + 1 → b.journal.gone ≡ a.journal.gone → 9 ≤ b.journal.room → AgreesWithJournal b
sound_posted a b now news batch sound still journal store log sent long few fits closed lanes posts gone room =
    let same = batch_of_post (updates a.journal.journal) now news ∙ ap (batch_by_list now news) (sym sound.kept.stored) in
    let short : length batch ≤ MAX_ALERTS = omega arith in
    let below : 0 < length batch → length a.sent < most_batches = λ h. fits (omega arith) in
    sound_grown a b (Posted now news) sound (sym sound.closed ∙ still) (record {
      journal = journal;
      gone = gone;
      stored = store ∙ (ap (λ batch. with_alerts batch a.stored) sent ∙ sym (stored_post (updates a.journal.journal) now news ∙ ap (λ olds. with_alerts (batch_by_list now news olds) olds) (sym sound.kept.stored)));
      log = log ∙ (ap (λ n. cond (nat_eq n 0) a.sent (a.sent ++ batch ∷ [])) long
          ∙ (cond_append (nat_eq (length news) 0) a.sent batch
          ∙ ap (λ sent. a.sent ++ sent) (ap (λ x. cond (nat_eq (length news) 0) [] (x ∷ [])) (sent ∙ sym same) ∙ sym (batches_posted (updates a.journal.journal) now news))));
      closed = closed ∙ sym (or_false a.closed);
      eight = ap length lanes;
      lanes = λ lane h. ap (λ lanes. is_some (lane_at lanes lane)) lanes;
      openings = openings_stay a b (Posted now news) sound (λ lane. refl) lanes;
      posts = posts;
      limits = subst IsWithinLogLimits (sym log) (limits_grown a.sent batch sound.limits short below);
      room = enough b (ap length lanes ∙ sound.eight) room;
    })

-- ---- a collection

pub sound_collected : (a b : Pages) (now : ℕ) → AgreesWithJournal a
    → b.journal.journal ≡ with_call a.journal.journal (Collected now)
    → b.stored ≡ filter (λ alert. not (is_resolved_at now alert)) a.stored
    → b.sent ≡ a.sent → b.closed ≡ a.closed → b.lanes ≡ a.lanes → b.posts ≡ a.posts → b.journal.gone ≡ a.journal.gone → 9 ≤ b.journal.room → AgreesWithJournal b
sound_collected a b now sound journal store log closed lanes posts gone room =
    sound_grown a b (Collected now) sound tt (record {
      journal = journal;
      gone = gone;
      stored = store ∙ sym (stored_collect (updates a.journal.journal) now ∙ ap (filter (λ alert. not (is_resolved_at now alert))) (sym sound.kept.stored));
      log = log ∙ sym (append-nil a.sent);
      closed = closed ∙ sym (or_false a.closed);
      eight = ap length lanes;
      lanes = λ lane h. ap (λ lanes. is_some (lane_at lanes lane)) lanes;
      openings = openings_stay a b (Collected now) sound (λ lane. refl) lanes;
      posts = omega (arith, posts);
      limits = limits_same a b sound log;
      room = enough b (ap length lanes ∙ sound.eight) room;
    })

-- ---- the end of the log

or_true : (b : Bool) → (b || true) ≡ true
or_true true = refl
or_true false = refl

closed_room : (a b : Pages) → open_count a.lanes + cond a.closed 0 1 ≤ a.journal.room → a.closed ≡ false → b.closed ≡ true → b.lanes ≡ a.lanes
    → a.journal.room ≤ b.journal.room + 1 → open_count b.lanes + cond b.closed 0 1 ≤ b.journal.room
closed_room a b old still closed lanes room = grind arith

pub sound_closed : (a b : Pages) → AgreesWithJournal a → a.closed ≡ false
    → b.journal.journal ≡ with_call a.journal.journal Closed
    → b.stored ≡ a.stored → b.sent ≡ a.sent → b.lanes ≡ a.lanes → b.posts ≡ a.posts → b.closed ≡ true
    → b.journal.gone ≡ a.journal.gone → a.journal.room ≤ b.journal.room + 1 → AgreesWithJournal b
sound_closed a b sound still journal store log lanes posts closed gone room =
    sound_grown a b Closed sound (sym sound.closed ∙ still) (record {
      journal = journal;
      gone = gone;
      stored = store ∙ (sound.kept.stored ∙ ap stored (sym (append-nil (updates a.journal.journal))));
      log = log ∙ sym (append-nil a.sent);
      closed = closed ∙ sym (or_true a.closed);
      eight = ap length lanes;
      lanes = λ lane h. ap (λ lanes. is_some (lane_at lanes lane)) lanes;
      openings = openings_stay a b Closed sound (λ lane. refl) lanes;
      posts = omega (arith, posts);
      limits = limits_same a b sound log;
      room = closed_room a b sound.room still closed lanes room;
    })
