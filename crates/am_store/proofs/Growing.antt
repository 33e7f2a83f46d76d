-- What stays as the journal grows.
use Rattle.std.proofs.Common.{◌≡◌, ℕ, suc, ◌-◌, List, [], ◌∷◌, ◌++◌, true, false, cond, All, refl, sym, ap, subst, ◌∙◌, arith}
use Rattle.std.proofs.lemmas.List.{append_assoc, append-nil}
use Rattle.am_store.specs.declared.call.Call.{Call}
use Rattle.am_store.specs.declared.call.Call.TheVariants.{Posted, Collected, Subscribed, Left, Closed}
use Rattle.am_store.specs.Stored.{Update, updates}
use Rattle.am_store.specs.Broadcast.{items_of, batches_of, due}
use Rattle.am_store.specs.Journal.{JournalView, since, is_closed, open_after, IsKept, MayFollow}
use Rattle.am_store.specs.Laws.{StaysOpen, LeavingEnds, StaysFront, EndedOwesNoMore}
use Rattle.am_store.proofs.Journals.{drop_front, due_last}
use Rattle.am_store.proofs.Opens.{nat_eq_refl, open_within, until_stays, open_stays}

All-at : {A : Type 0} (P : A → Type 0) (xs : List A) (y : A) (ys : List A) → All P (xs ++ y ∷ ys) → P y
All-at P [] y ys h = h 0 y (omega arith)
All-at P (x ∷ xs) y ys h = All-at P xs y ys (λ k d short. h (suc k) d (omega arith))

-- once the log is closed nothing is sent out
pub silent : (before : List Update) (journal : JournalView) (call : Call) → is_closed journal ≡ true → MayFollow journal call → batches_of before call ≡ []
silent before journal (Posted now news) ended may = absurd (let no : false ≡ true = sym may ∙ ended in (cc))
silent before journal (Collected now) ended may = refl
silent before journal (Subscribed lane) ended may = refl
silent before journal (Left lane) ended may = refl
silent before journal Closed ended may = refl

pub ended_owes_no_more : EndedOwesNoMore
ended_owes_no_more journal call at within ended may =
    due_last journal call at within
    ∙ (ap (λ batches. due journal at ++ items_of batches) (silent (updates journal) journal call ended may) ∙ append-nil (due journal at))

pub stays_open : StaysOpen
stays_open journal lane at call of goes = (open_stays journal call lane at of goes, until_stays journal call lane at of)

-- a lane that is left isn't kept by the calls
not_kept : (lane : ℕ) (before later : List Call) → IsKept lane (before ++ Left lane ∷ later) → ⊥
not_kept lane before later kept =
    let here = All-at (λ call. open_after lane true call ≡ true) before (Left lane) later kept in
    let left : open_after lane true (Left lane) ≡ false = ap (λ b. cond b false true) (nat_eq_refl lane) in
    let no : true ≡ false = sym here ∙ left in cc

pub leaving_ends : LeavingEnds
leaving_ends journal lane at later of again =
    let within = open_within journal lane at of in
    let after = drop_front journal.calls (Left lane ∷ later) (at - journal.before) (omega arith) in
    not_kept lane (since journal at) later (subst (IsKept lane) after again.kept)

pub stays_front : StaysFront
stays_front journal c at xs h front = (
  front.0 ++ items_of (batches_of (updates journal) c),
  sym (append_assoc xs front.0 (items_of (batches_of (updates journal) c))) ∙ (ap (λ ys. ys ++ items_of (batches_of (updates journal) c)) front.1 ∙ sym (due_last journal c at h)),
)
