-- One more call in a journal, and a journal cut in two.
use Rattle.std.proofs.Common.{◌≡◌, ℕ, zero, suc, ◌+◌, ◌<◌, ◌≤◌, Bool, true, false, cond, ◌||◌, List, [], ◌∷◌, ◌++◌, length, take, drop, Some, refl, sym, ap, subst, ◌∙◌, arith, ◌⊎◌, inl, inr}
use Rattle.std.specs.List.{slice_get, list_any, count_by}
use Rattle.std.proofs.lemmas.List.{append_assoc, append-nil, take_all, take-append-le, take-append-drop}
use Rattle.std.proofs.lemmas.List.Sums.{sum_by-append}
use Rattle.std.proofs.lemmas.Grind.{flat_map-append}
use Rattle.std.proofs.Math.Seq.{drop-nil}
use Rattle.am_store.specs.declared.call.Call.{Call}
use Rattle.am_store.specs.Stored.{Update, updates_of, call_updates, first_reports, updates}
use Rattle.am_store.specs.Broadcast.{batches_of, broadcast_from, broadcast, items_of, due}
use Rattle.am_store.specs.LaneSets.{has_lane}
use Rattle.am_store.specs.Journal.{JournalView, with_call, call_count, first_calls, closes, is_closed, is_post, posts_of, is_left, lefts_of, open_after, open_from, is_open, MayFollow, IsLegal}

-- ---- lists

pub get_within : {A : Type 0} (xs : List A) (x : A) (k : ℕ) → slice_get xs k ≡ Some x → k < length xs
get_within [] x k e = (cc)
get_within (y ∷ xs) x zero e = omega arith
get_within (y ∷ xs) x (suc k) e = let h = get_within xs x k e in omega arith

pub get_end : {A : Type 0} (xs : List A) (x : A) → slice_get (xs ++ x ∷ []) (length xs) ≡ Some x
get_end [] x = refl
get_end (y ∷ xs) x = get_end xs x

pub get_front : {A : Type 0} (xs ys : List A) (i : ℕ) → i < length xs → slice_get (xs ++ ys) i ≡ slice_get xs i
get_front [] ys i h = absurd (omega arith)
get_front (x ∷ xs) ys zero h = refl
get_front (x ∷ xs) ys (suc i) h = get_front xs ys i (omega arith)

get_last : {A : Type 0} (xs : List A) (x y : A) (k : ℕ) → slice_get (xs ++ x ∷ []) k ≡ Some y → (slice_get xs k ≡ Some y) ⊎ ((k ≡ length xs) × (y ≡ x))
get_last [] x y zero e = inr (refl, (cc))
get_last [] x y (suc k) e = inl e
get_last (z ∷ xs) x y zero e = inl e
get_last (z ∷ xs) x y (suc k) e = elim (get_last xs x y k e) [ inl g ↦ inl g | inr p ↦ inr (ap suc p.0, p.1) ]

pub take_more : {A : Type 0} (xs : List A) (k : ℕ) (x : A) → slice_get xs k ≡ Some x → take (k + 1) xs ≡ take k xs ++ x ∷ []
take_more [] k x e = (cc)
take_more (y ∷ xs) zero x e = let same : y ≡ x = (cc) in ap (λ x. x ∷ []) same
take_more (y ∷ xs) (suc k) x e = let rest = take_more xs k x in grind arith

pub drop_front : {A : Type 0} (xs ys : List A) (n : ℕ) → n ≤ length xs → drop n (xs ++ ys) ≡ drop n xs ++ ys
drop_front xs ys zero h = refl
drop_front [] ys (suc n) h = absurd (omega arith)
drop_front (x ∷ xs) ys (suc n) h = drop_front xs ys n (omega arith)

pub drop_twice : {A : Type 0} (m n : ℕ) (xs : List A) → drop n (drop m xs) ≡ drop (m + n) xs
drop_twice zero n xs = let e : n ≡ zero + n = omega arith in ap (λ k. drop k xs) e
drop_twice (suc m) zero [] = sym (drop-nil (suc m + 0))
drop_twice (suc m) (suc n) [] = sym (drop-nil (suc m + suc n))
drop_twice (suc m) n (x ∷ xs) = let e : suc (m + n) ≡ suc m + n = omega arith in subst (λ k. drop n (drop m xs) ≡ drop k (x ∷ xs)) e (drop_twice m n xs)

pub take_parts : {A : Type 0} (m n : ℕ) (xs : List A) → take m xs ++ take n (drop m xs) ≡ take (m + n) xs
take_parts zero n xs = let e : n ≡ zero + n = omega arith in ap (λ k. take k xs) e
take_parts {A} (suc m) zero [] = let e : suc m ≡ suc m + zero = omega arith in ap (λ k. take {A = A} k []) e
take_parts {A} (suc m) (suc n) [] = let e : suc (m + suc n) ≡ suc m + suc n = omega arith in ap (λ k. take {A = A} k []) e
take_parts (suc m) n (x ∷ xs) = let e : suc (m + n) ≡ suc m + n = omega arith in subst (λ k. x ∷ take m xs ++ take n (drop m xs) ≡ take k (x ∷ xs)) e (ap (λ rest. x ∷ rest) (take_parts m n xs))

pub get_drop : {A : Type 0} (m : ℕ) (xs : List A) (k : ℕ) → slice_get (drop m xs) k ≡ slice_get xs (m + k)
get_drop zero xs k = let e : k ≡ zero + k = omega arith in ap (slice_get xs) e
get_drop (suc m) [] k = refl
get_drop (suc m) (x ∷ xs) k = let e : suc (m + k) ≡ suc m + k = omega arith in subst (λ i. slice_get (drop m xs) k ≡ slice_get (x ∷ xs) i) e (get_drop m xs k)

-- ---- calls one after others

pub or_assoc : (a b c : Bool) → (a || (b || c)) ≡ ((a || b) || c)
or_assoc true b c = refl
or_assoc false b c = refl

pub closes_append : (xs ys : List Call) → list_any closes (xs ++ ys) ≡ (list_any closes xs || list_any closes ys)
closes_append [] ys = refl
closes_append (x ∷ xs) ys = ap (λ b. closes x || b) (closes_append xs ys) ∙ or_assoc (closes x) (list_any closes xs) (list_any closes ys)

pub open_append : (lane : ℕ) (was : Bool) (xs ys : List Call) → open_from lane was (xs ++ ys) ≡ open_from lane (open_from lane was xs) ys
open_append lane was [] ys = refl
open_append lane was (x ∷ xs) ys = open_append lane (open_after lane was x) xs ys

pub posts_append : (xs ys : List Call) → count_by is_post (xs ++ ys) ≡ count_by is_post xs + count_by is_post ys
posts_append xs ys = sum_by-append (λ (call : Call). cond (is_post call) 1 0) xs ys

pub lefts_append : (xs ys : List Call) → count_by is_left (xs ++ ys) ≡ count_by is_left xs + count_by is_left ys
lefts_append xs ys = sum_by-append (λ (call : Call). cond (is_left call) 1 0) xs ys

pub updates_append : (before : List Update) (xs ys : List Call) → before ++ call_updates (xs ++ ys) ≡ (before ++ call_updates xs) ++ call_updates ys
updates_append before xs ys = ap (λ ss. before ++ ss) (flat_map-append updates_of xs ys) ∙ sym (append_assoc before (call_updates xs) (call_updates ys))

-- the batches of calls one after others
pub cast_append : (before : List Update) (xs ys : List Call) → broadcast_from before (xs ++ ys) ≡ broadcast_from before xs ++ broadcast_from (before ++ call_updates xs) ys
cast_append before [] ys = ap (λ ss. broadcast_from ss ys) (sym (append-nil before))
cast_append before (x ∷ xs) ys = let rest = cast_append (before ++ updates_of x) xs ys in grind (arith, append_assoc)

-- ---- one call more

pub updates_last : (journal : JournalView) (c : Call) → updates (with_call journal c) ≡ updates journal ++ updates_of c
updates_last journal c = updates_append (first_reports journal.store) journal.calls (c ∷ []) ∙ ap (λ ss. updates journal ++ ss) (append-nil (updates_of c))

cast_last : (before : List Update) (calls : List Call) (c : Call) → broadcast_from before (calls ++ c ∷ []) ≡ broadcast_from before calls ++ batches_of (before ++ call_updates calls) c
cast_last before calls c = cast_append before calls (c ∷ []) ∙ ap (λ rest. broadcast_from before calls ++ rest) (append-nil (batches_of (before ++ call_updates calls) c))

pub broadcast_last : (journal : JournalView) (c : Call) → broadcast (with_call journal c) ≡ broadcast journal ++ batches_of (updates journal) c
broadcast_last journal c = cast_last (first_reports journal.store) journal.calls c

or_false : (b : Bool) → (b || false) ≡ b
or_false true = refl
or_false false = refl

pub closed_last : (journal : JournalView) (c : Call) → is_closed (with_call journal c) ≡ (is_closed journal || closes c)
closed_last journal c = grind (arith, closes_append, or_false, or_assoc)

pub posts_last : (journal : JournalView) (c : Call) → posts_of (with_call journal c) ≡ posts_of journal + count_by is_post (c ∷ [])
posts_last journal c = omega (arith, posts_append journal.calls (c ∷ []))

pub lefts_last : (journal : JournalView) (c : Call) → lefts_of (with_call journal c) ≡ lefts_of journal + count_by is_left (c ∷ [])
lefts_last journal c = omega (arith, lefts_append journal.calls (c ∷ []))

pub open_last : (journal : JournalView) (c : Call) (lane : ℕ) → is_open (with_call journal c) lane ≡ open_after lane (is_open journal lane) c
open_last journal c lane = open_append lane (has_lane journal.lanes lane) journal.calls (c ∷ [])

-- the first calls and one more
pub first_more : (journal : JournalView) (k : ℕ) (c : Call) → slice_get journal.calls k ≡ Some c → first_calls (k + 1) journal ≡ with_call (first_calls k journal) c
first_more journal k c e = ap (λ (calls : List Call). record journal { calls = calls }) (take_more journal.calls k c e)

pub first_all : (journal : JournalView) → first_calls (length journal.calls) journal ≡ journal
first_all journal = ap (λ (calls : List Call). record journal { calls = calls }) (take_all (length journal.calls) journal.calls (omega arith))

-- the first calls stay as one comes
pub first_stays : (journal : JournalView) (c : Call) (k : ℕ) → k ≤ length journal.calls → first_calls k (with_call journal c) ≡ first_calls k journal
first_stays journal c k h = ap (λ (calls : List Call). record journal { calls = calls }) (take-append-le k journal.calls (c ∷ []) h)

-- ---- a legal journal stays legal

pub legal_last : (journal : JournalView) (c : Call) → IsLegal journal → MayFollow journal c → IsLegal (with_call journal c)
legal_last journal c legal may k d e = grind (arith, get_last, get_within, first_stays, first_all)

-- ---- what is due only grows at its end

pub updates_parts : (journal : JournalView) (k : ℕ) → updates (first_calls k journal) ++ call_updates (drop k journal.calls) ≡ updates journal
updates_parts journal k =
    sym (updates_append (first_reports journal.store) (take k journal.calls) (drop k journal.calls))
    ∙ ap (λ calls. first_reports journal.store ++ call_updates calls) (take-append-drop k journal.calls)

pub due_last : (journal : JournalView) (c : Call) (at : ℕ) → at ≤ call_count journal → due (with_call journal c) at ≡ due journal at ++ items_of (batches_of (updates journal) c)
due_last journal c at h = grind (arith, first_stays, drop_front, cast_last, updates_parts, flat_map-append, append_assoc)

-- the batches before and from a call on
pub broadcast_parts : (journal : JournalView) (k : ℕ) → broadcast journal ≡ broadcast (first_calls k journal) ++ broadcast_from (updates (first_calls k journal)) (drop k journal.calls)
broadcast_parts journal k =
    ap (broadcast_from (first_reports journal.store)) (sym (take-append-drop k journal.calls))
    ∙ cast_append (first_reports journal.store) (take k journal.calls) (drop k journal.calls)
