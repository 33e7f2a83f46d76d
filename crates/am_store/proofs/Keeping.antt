-- A trim between two others, and the trim to any call.
use Rattle.std.proofs.Common.{◌≡◌, ℕ, zero, suc, ◌+◌, ◌-◌, ◌*◌, ◌^◌, ◌%◌, ◌<◌, true, List, [], ◌∷◌, ◌++◌, length, take, drop, Option, None, Some, refl, sym, ap, subst, ◌∙◌, arith, length-append}
use Rattle.std.specs.List.{slice_get}
use Rattle.std.proofs.lemmas.Bool.{cases_lt}
use Rattle.std.proofs.lemmas.Nat.{or_of_8, and_le_l}
use Rattle.am_store.specs.declared.call.Call.{Call}
use Rattle.am_store.specs.declared.call.Call.TheVariants.{Posted, Collected, Subscribed, Left, Closed}
use Rattle.am_store.specs.inside.Journals.{IsOnALane}
use Rattle.am_store.specs.LaneSets.{has_lane}
use Rattle.am_store.specs.Journal.{first_calls, open_after, open_from, MayFollow, IsLegal}
use Rattle.am_store.specs.Broadcast.{broadcast}
use Rattle.am_store.proofs.Journals.{drop_twice, open_append, take_more}
use Rattle.am_store.proofs.LaneBits.{lane_set, lane_cleared, high_lane}
use Rattle.am_store.proofs.Trims.{first_stored, first_sent, first_closed, first_open, first_posts, first_lefts}
use Rattle.am_store.specs.KeptJournals.{journal_with, lanes_after, lanes_from}
use Rattle.am_store.specs.KeepingLaws.{TrimmedBetween, TrimmedToSo}

pub trimmed_between : TrimmedBetween
trimmed_between whole once twice first more a b = record {
  before = omega (arith, a.before, b.before);
  places = omega (arith, a.places, b.places, ap length (first_sent whole once first a more), length-append (broadcast (first_calls first whole)) (broadcast (first_calls more once)));
  posts = b.posts ∙ sym (first_posts whole once first a more);
  lefts = b.lefts ∙ sym (first_lefts whole once first a more);
  store = b.store ∙ sym (first_stored whole once first a more);
  lanes = λ lane. b.lanes lane ∙ sym (first_open whole once first a more lane);
  closed = b.closed ∙ sym (first_closed whole once first a more);
  calls = b.calls ∙ sym (ap (drop more) a.calls ∙ drop_twice first more whole.calls);
}

-- ---- the lanes after some calls

lanes_append : (lanes : ℕ) (xs ys : List Call) → lanes_from lanes (xs ++ ys) ≡ lanes_from (lanes_from lanes xs) ys
lanes_append lanes [] ys = refl
lanes_append lanes (x ∷ xs) ys = lanes_append (lanes_after lanes x) xs ys

-- a lane that is open is one of the eight
open_low : (lanes lane : ℕ) → lanes < 2 ^ 8 → has_lane lanes lane ≡ true → lane < 8
open_low lanes lane small e = grind (arith, cases_lt, high_lane)

-- a set of the eight lanes, which has those that are open after some calls
record AreLanesOf (calls : List Call) (lanes : ℕ) : Type 0 where
  pub eight : lanes < 2 ^ 8
  pub each : (lane : ℕ) → has_lane lanes lane ≡ open_from lane (has_lane 0 lane) calls

after_one : (lanes : ℕ) (call : Call) → lanes < 2 ^ 8 → IsOnALane call
    → (lanes_after lanes call < 2 ^ 8) × ((lane : ℕ) → has_lane (lanes_after lanes call) lane ≡ open_after lane (has_lane lanes lane) call)
after_one lanes (Posted now alerts) small on = (small, λ lane. refl)
after_one lanes (Collected now) small on = (small, λ lane. refl)
after_one lanes (Subscribed lane) small on = (or_of_8 lanes (1 * 2 ^ lane % 256) small (omega arith), lane_set lanes lane on)
after_one lanes (Left lane) small on = (omega (arith, and_le_l lanes (255 - 1 * 2 ^ lane % 256)), lane_cleared lanes lane small on)
after_one lanes Closed small on = (small, λ lane. refl)

on_a_lane : (calls : List Call) (lanes : ℕ) (call : Call) → AreLanesOf calls lanes → MayFollow (journal_with calls) call → IsOnALane call
on_a_lane calls lanes (Posted now alerts) are may = tt
on_a_lane calls lanes (Collected now) are may = tt
on_a_lane calls lanes (Subscribed lane) are may = may.1.within
on_a_lane calls lanes (Left lane) are may = open_low lanes lane are.eight (are.each lane ∙ may)
on_a_lane calls lanes Closed are may = tt

one_more : (calls : List Call) (call : Call) → AreLanesOf calls (lanes_from 0 calls) → MayFollow (journal_with calls) call
    → AreLanesOf (calls ++ call ∷ []) (lanes_from 0 (calls ++ call ∷ []))
one_more calls call are may =
    let after = after_one (lanes_from 0 calls) call are.eight (on_a_lane calls (lanes_from 0 calls) call are may) in
    grind (arith, lanes_append, open_append)

take_end : {A : Type 0} (xs : List A) (k : ℕ) → slice_get xs k ≡ None → take (k + 1) xs ≡ take k xs
take_end {A} [] zero e = refl
take_end {A} [] (suc k) e = let m : suc (k + 1) ≡ suc k + 1 = omega arith in subst (λ m. take {A = A} m [] ≡ []) m refl
take_end (y ∷ xs) zero e = (cc)
take_end (y ∷ xs) (suc k) e = let rest = take_end xs k in grind arith

step : (calls : List Call) (k : ℕ) (next : Option Call) → slice_get calls k ≡ next → IsLegal (journal_with calls)
    → AreLanesOf (take k calls) (lanes_from 0 (take k calls)) → AreLanesOf (take (k + 1) calls) (lanes_from 0 (take (k + 1) calls))
step calls k None e legal are = subst (λ front. AreLanesOf front (lanes_from 0 front)) (sym (take_end calls k e)) are
step calls k (Some call) e legal are =
    subst (λ front. AreLanesOf front (lanes_from 0 front)) (sym (take_more calls k call e)) (one_more (take k calls) call are (legal k call e))

lanes_are : (calls : List Call) (k : ℕ) → IsLegal (journal_with calls) → AreLanesOf (take k calls) (lanes_from 0 (take k calls))
lanes_are calls zero legal = record { eight = omega arith; each = λ lane. refl }
lanes_are calls (suc k) legal =
    let m : k + 1 ≡ suc k = omega arith in
    subst (λ n. AreLanesOf (take n calls) (lanes_from 0 (take n calls))) m (step calls k (slice_get calls k) refl legal (lanes_are calls k legal))

pub trimmed_to_so : TrimmedToSo
trimmed_to_so calls count legal = record {
  before = omega arith;
  places = omega arith;
  posts = refl;
  lefts = refl;
  store = refl;
  lanes = (lanes_are calls count legal).each;
  closed = refl;
  calls = refl;
}
