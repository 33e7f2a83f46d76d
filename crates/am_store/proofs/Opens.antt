-- Open subscriptions of a journal: there is one at most on a lane, and it stays as calls come.
use Rattle.std.proofs.Common.{◌≡◌, ℕ, zero, suc, ◌-◌, ◌<◌, ◌≤◌, Bool, true, false, ◌||◌, nat_eq, List, [], ◌∷◌, length, take, drop, Some, refl, sym, ap, subst, ◌∙◌, arith, ◌⊎◌, inl, inr, eq-eqb}
use Rattle.std.specs.List.{slice_get}
use Rattle.std.proofs.lemmas.List.{take_all}
use Rattle.std.proofs.lemmas.List.Elements.{All-push, All-nil}
use Rattle.std.proofs.Math.Seq.{drop-append_seam}
use Rattle.am_store.specs.declared.call.Call.{Call}
use Rattle.am_store.specs.declared.call.Call.TheVariants.{Subscribed}
use Rattle.am_store.specs.LaneSets.{has_lane}
use Rattle.am_store.specs.Journal.{JournalView, with_call, call_count, first_calls, until, open_after, open_from, is_open, IsKept, IsOpenSubscription, IsLegal}
use Rattle.am_store.proofs.Journals.{get_within, get_end, get_front, drop_front, first_stays, first_all}

pub nat_eq_refl : (n : ℕ) → nat_eq n n ≡ true
nat_eq_refl n = eq-eqb n n refl

or_true : (b : Bool) → (b || true) ≡ true
or_true true = refl
or_true false = refl

first_kept : (lane : ℕ) (x : Call) (calls : List Call) → IsKept lane (x ∷ calls) → open_after lane true x ≡ true
first_kept lane x calls kept = kept 0 x (omega arith)

rest_kept : (lane : ℕ) (x : Call) (calls : List Call) → IsKept lane (x ∷ calls) → IsKept lane calls
rest_kept lane x calls kept = λ k d short. kept (suc k) d (omega arith)

-- a lane that is open stays open where it is kept
kept_open : (lane : ℕ) (calls : List Call) (m : ℕ) → IsKept lane calls → open_from lane true (take m calls) ≡ true
kept_open lane calls zero kept = refl
kept_open lane [] (suc m) kept = refl
kept_open lane (x ∷ calls) (suc m) kept =
    ap (λ was. open_from lane was (take m calls)) (first_kept lane x calls kept) ∙ kept_open lane calls m (rest_kept lane x calls kept)

subscribed_open : (lane : ℕ) (was : Bool) (x : Call) → x ≡ Subscribed lane → open_after lane was x ≡ true
subscribed_open lane was x e = ap (open_after lane was) e ∙ (ap (λ b. was || b) (nat_eq_refl lane) ∙ or_true was)

-- a lane that is subscribed and kept is open from then on
open_since : (lane : ℕ) (was : Bool) (calls : List Call) (k m : ℕ) → slice_get calls k ≡ Some (Subscribed lane) → IsKept lane (drop k calls) → k < m → open_from lane was (take m calls) ≡ true
open_since lane was [] k m e kept l = (cc)
open_since lane was calls k zero e kept l = absurd (omega arith)
open_since lane was (x ∷ calls) zero (suc m) e kept l =
    let same : x ≡ Subscribed lane = (cc) in
    ap (λ was. open_from lane was (take m calls)) (subscribed_open lane was x same) ∙ kept_open lane calls m (rest_kept lane x calls kept)
open_since lane was (x ∷ calls) (suc k) (suc m) e kept l = open_since lane (open_after lane was x) calls k m e kept (omega arith)

pub is_still_open : (journal : JournalView) (lane at : ℕ) → IsOpenSubscription journal lane at → is_open journal lane ≡ true
is_still_open journal lane at of =
    let within = get_within journal.calls (Subscribed lane) (at - journal.before) of.entry in
    ap (open_from lane (has_lane journal.lanes lane)) (sym (take_all (length journal.calls) journal.calls (omega arith)))
    ∙ open_since lane (has_lane journal.lanes lane) journal.calls (at - journal.before) (length journal.calls) of.entry of.kept within

pub lane_low : (journal : JournalView) (lane at : ℕ) → IsLegal journal → IsOpenSubscription journal lane at → lane < 8
lane_low journal lane at legal of = (legal (at - journal.before) (Subscribed lane) of.entry).1.within

none_later : (journal : JournalView) (lane at later : ℕ) → IsLegal journal → IsOpenSubscription journal lane at → IsOpenSubscription journal lane later → at < later → ⊥
none_later journal lane at later legal of other l =
    let before : at - journal.before < (later - journal.before) = omega (arith, of.begun) in
    let idle : is_open (first_calls (later - journal.before) journal) lane ≡ false = (legal (later - journal.before) (Subscribed lane) other.entry).1.idle in
    let open' : is_open (first_calls (later - journal.before) journal) lane ≡ true = open_since lane (has_lane journal.lanes lane) journal.calls (at - journal.before) (later - journal.before) of.entry of.kept before in
    grind (arith)

compared : (a b : ℕ) → (a < b) ⊎ ((b < a) ⊎ (a ≡ b))
compared zero zero = inr (inr refl)
compared zero (suc b) = inl (omega arith)
compared (suc a) zero = inr (inl (omega arith))
compared (suc a) (suc b) = let rest = compared a b in grind arith

-- a lane has one open subscription at most
pub one_open : (journal : JournalView) (lane at other : ℕ) → IsLegal journal → IsOpenSubscription journal lane at → IsOpenSubscription journal lane other → at ≡ other
one_open journal lane at other legal a b =
    elim (compared at other) [
      | inl l ↦ absurd (none_later journal lane at other legal a b l)
      | inr r ↦ elim r [ inl l ↦ absurd (none_later journal lane other at legal b a l) | inr e ↦ e ]
    ]

-- ---- one call more

pub open_within : (journal : JournalView) (lane at : ℕ) → IsOpenSubscription journal lane at → at - journal.before < length journal.calls
open_within journal lane at of = get_within journal.calls (Subscribed lane) (at - journal.before) of.entry

pub until_stays : (journal : JournalView) (c : Call) (lane at : ℕ) → IsOpenSubscription journal lane at → until (with_call journal c) at ≡ until journal at
until_stays journal c lane at of = grind (arith, open_within, first_stays)

pub open_stays : (journal : JournalView) (c : Call) (lane at : ℕ) → IsOpenSubscription journal lane at → open_after lane true c ≡ true → IsOpenSubscription (with_call journal c) lane at
open_stays journal c lane at of goes =
    let within = open_within journal lane at of in
    let le : at - journal.before ≤ length journal.calls = omega arith in
    record {
      begun = of.begun;
      entry = get_front journal.calls (c ∷ []) (at - journal.before) within ∙ of.entry;
      kept = subst (IsKept lane) (sym (drop_front journal.calls (c ∷ []) (at - journal.before) le))
          (All-push (λ one. open_after lane true one ≡ true) (drop (at - journal.before) journal.calls) c of.kept goes);
    }

pub end_of : (journal : JournalView) → call_count journal - journal.before ≡ length journal.calls
end_of journal = omega arith

pub until_end : (journal : JournalView) (c : Call) → until (with_call journal c) (call_count journal) ≡ journal
until_end journal c = grind (arith, end_of, first_stays, first_all)

pub open_begins : (journal : JournalView) (lane : ℕ) → IsOpenSubscription (with_call journal (Subscribed lane)) lane (call_count journal)
open_begins journal lane = grind (arith, end_of, get_end, drop-append_seam, All-push, All-nil)
