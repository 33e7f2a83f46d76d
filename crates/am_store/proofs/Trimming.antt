-- A Book's fields as its journal is trimmed.
use Rattle.std.proofs.Common.{◌≡◌, ℕ, zero, suc, ◌+◌, ◌-◌, ◌<◌, ◌≤◌, Bool, true, cond, List, [], ◌∷◌, length, slice_index_or, Option, None, Some, Result, Ok, Err, IfOk, refl, sym, ap, subst, ◌∙◌, arith, inl, inr}
use Rattle.std.specs.Option.{is_some, option_map, IfSome}
use Rattle.std.proofs.lemmas.List.{length-map}
use Rattle.am_store.specs.declared.lanes.OpenLane.{OpenLane}
use Rattle.am_store.specs.Journal.{JournalView, call_count, first_calls, IsOpenSubscription}
use Rattle.am_store.specs.Stored.{updates, stored}
use Rattle.am_store.specs.Trims.{AreBeforeOpen, IsTrimmed}
use Rattle.am_store.specs.LogLimits.{IsWithinLogLimits}
use Rattle.am_store.specs.Lanes.{lane_at, open_count, all_subscribed_at, subscribed_at, IsEarliest, IsItsOpening}
use Rattle.am_store.specs.Pages.{Pages, book_of, AgreesWithJournal}
use Rattle.am_store.proofs.Journals.{first_all}
use Rattle.am_store.proofs.Opens.{is_still_open, lane_low, one_open, open_within}
use Rattle.am_store.proofs.Kept.{if_some}
use Rattle.am_store.proofs.Trims.{trimmed_open, trimmed_closed, trimmed_posts, until_stored, open_trimmed, follows_trimmed, one_trim}

-- what a lane has, where its flag says so
found : {P : OpenLane → Type 0} (o : Option OpenLane) → is_some o ≡ true → IfSome o P → (one : OpenLane) × ((o ≡ Some one) × P one)
found None e p = (cc)
found (Some one) e p = (one, (refl, p))

-- what the Book keeps for an open subscription
pub kept_for : (a : Pages) (lane at : ℕ) → AgreesWithJournal a → IsOpenSubscription a.journal.journal lane at → (one : OpenLane) × ((lane_at a.lanes lane ≡ Some one) × (one.at ≡ at))
kept_for a lane at sound of =
    let journal = a.journal.journal in
    let low = lane_low journal lane at sound.kept.legal of in
    let one = found (lane_at a.lanes lane) (sound.lanes lane low ∙ is_still_open journal lane at of) (sound.openings lane) in
    (one.0, (one.1.0, one_open journal lane one.0.at at sound.kept.legal one.1.1.given of))

opening_of : (a : Pages) (lane : ℕ) (one : OpenLane) → AgreesWithJournal a → lane_at a.lanes lane ≡ Some one → IsItsOpening a.journal.gone a.journal.journal lane one
opening_of a lane one sound here = subst (λ o. IfSome o (IsItsOpening a.journal.gone a.journal.journal lane)) here (sound.openings lane)

if_here : (P : OpenLane → Type 0) (o : Option OpenLane) (one : OpenLane) → o ≡ Some one → IfSome o P → P one
if_here P o one e p = subst (λ o. IfSome o P) e p

-- the calls before the earliest open lane
pub before_earliest : (a : Pages) (one : OpenLane) → AgreesWithJournal a → IsEarliest a.lanes one → AreBeforeOpen a.journal.journal (one.at - a.journal.journal.before)
before_earliest a one sound first =
    let its = opening_of a first.there.0 one sound first.there.1 in
    let within = open_within a.journal.journal first.there.0 one.at its.given in
    let back : one.at ≡ a.journal.journal.before + (one.at - a.journal.journal.before) = omega (arith, its.given.begun) in
    record {
      within = omega arith;
      kept = λ lane at of.
          let other = kept_for a lane at sound of in
          let earlier : one.at ≤ other.0.at = if_here (λ (x : OpenLane). one.at ≤ x.at) (lane_at a.lanes lane) other.0 other.1.0 (first.earliest lane) in
          omega (arith, other.1.1, earlier, its.given.begun);
      most = inr (first.there.0, subst (IsOpenSubscription a.journal.journal first.there.0) back its.given);
    }

-- all calls, where no lane is open
pub before_none : (a : Pages) → AgreesWithJournal a → ((lane : ℕ) → lane_at a.lanes lane ≡ None) → AreBeforeOpen a.journal.journal (length a.journal.journal.calls)
before_none a sound none = record {
  within = omega arith;
  kept = λ lane at of.
      let one = kept_for a lane at sound of in
      absurd (let no : None ≡ Some one.0 = sym (none lane) ∙ one.1.0 in (cc));
  most = inl refl;
}

-- what was stored when the earliest open lane was subscribed
pub store_then : (a : Pages) (one : OpenLane) → AgreesWithJournal a → IsEarliest a.lanes one
    → (count : ℕ) → AreBeforeOpen a.journal.journal count → a.journal.gone < a.journal.journal.before + count → one.opening ≡ stored (updates (first_calls count a.journal.journal))
store_then a one sound first count before late = grind (arith, opening_of, one_trim, before_earliest)

-- what is stored now, where no lane is open
pub store_now : (a : Pages) → AgreesWithJournal a → ((lane : ℕ) → lane_at a.lanes lane ≡ None)
    → (count : ℕ) → AreBeforeOpen a.journal.journal count → a.stored ≡ stored (updates (first_calls count a.journal.journal))
store_now a sound none count before = grind (arith, first_all, one_trim, before_none)

pub if_ok : {A E : Type 0} (P Q : A → Type 0) (r : Result A E) → ((x : A) → P x → Q x) → IfOk r P → IfOk r Q
if_ok P Q (Ok x) f p = f x p
if_ok P Q (Err e) f p = tt

-- a trim keeps the Book sound
pub sound_trimmed : (a b : Pages) (count : ℕ) → AgreesWithJournal a → AreBeforeOpen a.journal.journal count → IsTrimmed a.journal.journal count b.journal.journal → a.journal.gone ≤ b.journal.gone
    → b.stored ≡ a.stored → b.sent ≡ a.sent → b.lanes ≡ a.lanes → b.closed ≡ a.closed → b.posts ≡ a.posts → a.journal.room ≤ b.journal.room → AgreesWithJournal b
sound_trimmed a b count sound fits of gone store log lanes closed posts room =
    let old = a.journal.journal in
    let new = b.journal.journal in
    let count_same : open_count b.lanes ≡ open_count a.lanes = ap open_count lanes in
    let flag_same : cond {A = ℕ} b.closed 0 1 ≡ cond {A = ℕ} a.closed 0 1 = ap (λ (b : Bool). cond {A = ℕ} b 0 1) closed in
    record {
      kept = follows_trimmed (book_of a) (book_of b) count of log store sound.kept;
      eight = ap length lanes ∙ sound.eight;
      closed = closed ∙ (sound.closed ∙ sym (trimmed_closed old new count of));
      lanes = λ lane h. ap (λ lanes. is_some (lane_at lanes lane)) lanes ∙ (sound.lanes lane h ∙ sym (trimmed_open old new count of lane));
      openings = λ lane.
          subst (λ lanes. IfSome (lane_at lanes lane) (IsItsOpening b.journal.gone new lane)) (sym lanes)
          (if_some (lane_at a.lanes lane) (λ one here its.
          let h : new.before ≤ one.at = omega (arith, of.before, fits.kept lane one.at its.given) in
          record {
            given = open_trimmed old new count lane one.at of h its.given;
            opening = λ late. its.opening (omega (arith, late, gone)) ∙ sym (until_stored old new count of one.at h);
          }) (sound.openings lane));
      posts = posts ∙ (sound.posts ∙ sym (trimmed_posts old new count of));
      limits = subst IsWithinLogLimits (sym log) sound.limits;
      room = omega (arith, sound.room, count_same, flag_same, room);
    }

-- ---- a compaction

or_zero : Option ℕ → ℕ
or_zero None = 0
or_zero (Some n) = n

pub at_same : (one other : OpenLane) → option_map subscribed_at (Some other) ≡ option_map subscribed_at (Some one) → other.at ≡ one.at
unfolding or_zero
at_same one other e = ap or_zero e

same_flag : (was is : Option OpenLane) → option_map subscribed_at is ≡ option_map subscribed_at was → is_some is ≡ is_some was
same_flag None None e = refl
same_flag None (Some one) e = (cc)
same_flag (Some one) None e = (cc)
same_flag (Some one) (Some other) e = refl

-- a lane stays its subscription's, whose opening lies before all that memory has
still_its : (gone now : ℕ) (journal : JournalView) (lane : ℕ) (was is : Option OpenLane) → option_map subscribed_at is ≡ option_map subscribed_at was → now ≡ call_count journal
    → IfSome was (IsItsOpening gone journal lane) → IfSome is (IsItsOpening now journal lane)
unfolding or_zero
still_its gone now journal lane None None e all its = tt
still_its gone now journal lane None (Some one) e all its = (cc)
still_its gone now journal lane (Some one) None e all its = (cc)
still_its gone now journal lane (Some one) (Some other) e all its =
    let same : other.at ≡ one.at = ap or_zero e in
    record {
      given = subst (IsOpenSubscription journal lane) (sym same) its.given;
      opening = λ late. absurd (let within = open_within journal lane one.at its.given in omega (arith, late, all, same, within));
    }

-- how many of some numbers there are
some_count : List (Option ℕ) → ℕ
some_count [] = 0
some_count (None ∷ numbers) = some_count numbers
some_count (Some n ∷ numbers) = 1 + some_count numbers

open_some : (lanes : List (Option OpenLane)) → open_count lanes ≡ some_count (all_subscribed_at lanes)
unfolding some_count
open_some [] = refl
open_some (None ∷ lanes) = open_some lanes
open_some (Some one ∷ lanes) = ap (λ n. 1 + n) (open_some lanes)

at_each : (lanes : List (Option OpenLane)) (lane : ℕ) → option_map subscribed_at (lane_at lanes lane) ≡ slice_index_or (all_subscribed_at lanes) lane None
at_each [] zero = refl
at_each [] (suc lane) = refl
at_each (one ∷ lanes) zero = refl
at_each (one ∷ lanes) (suc lane) = at_each lanes lane

-- lanes that were subscribed when others were
module _ (was is : List (Option OpenLane)) (same : all_subscribed_at is ≡ all_subscribed_at was) where
  pub lanes_as_many : length is ≡ length was
  lanes_as_many = sym (length-map is (option_map subscribed_at)) ∙ (ap length same ∙ length-map was (option_map subscribed_at))

  pub as_many_open : open_count is ≡ open_count was
  as_many_open = open_some is ∙ (ap some_count same ∙ sym (open_some was))

  pub subscribed_same : (lane : ℕ) → option_map subscribed_at (lane_at is lane) ≡ option_map subscribed_at (lane_at was lane)
  subscribed_same lane = at_each is lane ∙ (ap (λ numbers. slice_index_or numbers lane None) same ∙ sym (at_each was lane))

-- a compaction keeps the Book sound: nobody needs the openings of the lanes any more
pub sound_compacted : (a b : Pages) → AgreesWithJournal a → b.journal.journal ≡ a.journal.journal → b.journal.gone ≡ call_count a.journal.journal → a.journal.room ≤ b.journal.room
    → b.stored ≡ a.stored → b.sent ≡ a.sent → b.closed ≡ a.closed → b.posts ≡ a.posts → all_subscribed_at b.lanes ≡ all_subscribed_at a.lanes → AgreesWithJournal b
sound_compacted a b sound journal gone room stored sent closed posts all =
    let eight = lanes_as_many a.lanes b.lanes all in
    let count = as_many_open a.lanes b.lanes all in
    let lanes = subscribed_same a.lanes b.lanes all in
    let flag_same : cond {A = ℕ} b.closed 0 1 ≡ cond {A = ℕ} a.closed 0 1 = ap (λ (b : Bool). cond {A = ℕ} b 0 1) closed in
    grind (arith, same_flag, still_its)
