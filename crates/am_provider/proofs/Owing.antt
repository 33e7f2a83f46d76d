-- What is due as a history goes on.
use Rattle.std.proofs.Common.{◌≡◌, ◌∙◌, ℕ, ◌+◌, ◌≤◌, true, ◌||◌, List, [], ◌∷◌, ◌++◌, length, take, Option, Some, refl, sym, ap, subst, arith, length-append}
use Rattle.std.specs.List.{slice_get}
use Rattle.std.proofs.Math.Seq.{take-append_seam}
use Rattle.std.proofs.lemmas.List.{append_assoc, append-nil}
use Rattle.am_alert.specs.declared.alert.Alert.{Alert}
use Rattle.am_store.specs.declared.call.Call.{Call}
use Rattle.am_store.specs.Journal.{JournalView, first_calls, closes, is_closed, MayFollow, IsLegal, new_journal}
use Rattle.am_store.specs.Broadcast.{due, IsFront}
use Rattle.am_store.proofs.Growing.{stays_front, ended_owes_no_more}
use Rattle.am_store.proofs.Journals.{closed_last}
use Rattle.am_provider.specs.declared.answers.Ended.{Ended}
use Rattle.am_provider.specs.Histories.{EntryView, Accepted, Trimmed, Compacted, calls_of, whole}
use Rattle.am_provider.specs.Owing.{BeginningIsKnown, ClosedOwesNoMore, StaysFrontOfDue}
use Rattle.am_provider.proofs.Recording.{calls_more, whole_more, whole_trimmed, whole_compacted}

one_longer : (first : List EntryView) (call : Call) (cut : ℕ) (ended : Option Ended) → length (calls_of (first ++ Accepted call cut ended ∷ [])) ≡ length (calls_of first) + 1
one_longer first call cut ended = ap length (calls_more first (Accepted call cut ended ∷ [])) ∙ length-append (calls_of first) (call ∷ [])

grows : (rest first : List EntryView) (at : ℕ) (front : List Alert) → at ≤ length (calls_of first) → IsFront front (due (whole first) at) → IsFront front (due (whole (first ++ rest)) at)
grows [] first at front low owed = subst (λ (l : List EntryView). IsFront front (due (whole l) at)) (sym (append-nil first)) owed
grows (Accepted call cut ended ∷ rest) first at front low owed =
    subst (λ (l : List EntryView). IsFront front (due (whole l) at)) (append_assoc first (Accepted call cut ended ∷ []) rest)
    (grows rest (first ++ Accepted call cut ended ∷ []) at front (omega (arith, low, one_longer first call cut ended))
    (subst (λ (j : JournalView). IsFront front (due j at)) (sym (whole_more first call cut ended)) (stays_front (whole first) call at front (omega (arith, low)) owed)))
grows (Trimmed count ∷ rest) first at front low owed =
    subst (λ (l : List EntryView). IsFront front (due (whole l) at)) (append_assoc first (Trimmed count ∷ []) rest)
    (grows rest (first ++ Trimmed count ∷ []) at front (omega (arith, low, ap (λ (j : JournalView). length j.calls) (whole_trimmed first count)))
    (subst (λ (j : JournalView). IsFront front (due j at)) (sym (whole_trimmed first count)) owed))
grows (Compacted count ∷ rest) first at front low owed =
    subst (λ (l : List EntryView). IsFront front (due (whole l) at)) (append_assoc first (Compacted count ∷ []) rest)
    (grows rest (first ++ Compacted count ∷ []) at front (omega (arith, low, ap (λ (j : JournalView). length j.calls) (whole_compacted first count)))
    (subst (λ (j : JournalView). IsFront front (due j at)) (sym (whole_compacted first count)) owed))

pub stays_front_of_due : StaysFrontOfDue
stays_front_of_due first later at front longer low owed = subst (λ (l : List EntryView). IsFront front (due (whole l) at)) longer.1 (grows longer.0 first at front low owed)

pub beginning_is_known : BeginningIsKnown
beginning_is_known first later at front longer low owed =
    let still = stays_front_of_due first later at front longer low owed in
    sym (ap (take (length front)) (sym still.1) ∙ take-append_seam front still.0)

get_middle : (xs ys : List Call) (x : Call) → slice_get (xs ++ x ∷ ys) (length xs) ≡ Some x
get_middle [] ys x = refl
get_middle (first ∷ xs) ys x = get_middle xs ys x

owes : (rest first : List EntryView) (at : ℕ) → IsLegal (whole (first ++ rest)) → at ≤ length (calls_of first) → is_closed (whole first) ≡ true → due (whole (first ++ rest)) at ≡ due (whole first) at
owes [] first at legal low ended = ap (λ (l : List EntryView). due (whole l) at) (append-nil first)
owes (Accepted call cut other ∷ rest) first at legal low ended =
    let next = first ++ Accepted call cut other ∷ [] in
    let assoc : next ++ rest ≡ first ++ Accepted call cut other ∷ rest = append_assoc first (Accepted call cut other ∷ []) rest in
    let n = length (calls_of first) in
    let calls : calls_of (first ++ Accepted call cut other ∷ rest) ≡ calls_of first ++ call ∷ calls_of rest = calls_more first (Accepted call cut other ∷ rest) in
    let here : slice_get (calls_of (first ++ Accepted call cut other ∷ rest)) n ≡ Some call = ap (λ (cs : List Call). slice_get cs n) calls ∙ get_middle (calls_of first) (calls_of rest) call in
    let front : first_calls n (whole (first ++ Accepted call cut other ∷ rest)) ≡ whole first =
    ap (λ (cs : List Call). record new_journal { calls = cs }) (ap (take n) calls ∙ take-append_seam (calls_of first) (call ∷ calls_of rest)) in
    let may : MayFollow (whole first) call = subst (λ (j : JournalView). MayFollow j call) front (legal n call here) in
    let step : due (whole next) at ≡ due (whole first) at = ap (λ (j : JournalView). due j at) (whole_more first call cut other) ∙ ended_owes_no_more (whole first) call at (omega (arith, low)) ended may in
    let ended_still : is_closed (whole next) ≡ true = ap is_closed (whole_more first call cut other) ∙ (closed_last (whole first) call ∙ ap (λ b. b || closes call) ended) in
    ap (λ (l : List EntryView). due (whole l) at) (sym assoc)
    ∙ (owes rest next at (subst (λ (l : List EntryView). IsLegal (whole l)) (sym assoc) legal) (omega (arith, low, one_longer first call cut other)) ended_still ∙ step)
owes (Trimmed count ∷ rest) first at legal low ended =
    let next = first ++ Trimmed count ∷ [] in
    let assoc : next ++ rest ≡ first ++ Trimmed count ∷ rest = append_assoc first (Trimmed count ∷ []) rest in
    let same = whole_trimmed first count in
    ap (λ (l : List EntryView). due (whole l) at) (sym assoc)
    ∙ (owes rest next at (subst (λ (l : List EntryView). IsLegal (whole l)) (sym assoc) legal) (omega (arith, low, ap (λ (j : JournalView). length j.calls) same)) (ap is_closed same ∙ ended)
    ∙ ap (λ (j : JournalView). due j at) same)
owes (Compacted count ∷ rest) first at legal low ended =
    let next = first ++ Compacted count ∷ [] in
    let assoc : next ++ rest ≡ first ++ Compacted count ∷ rest = append_assoc first (Compacted count ∷ []) rest in
    let same = whole_compacted first count in
    ap (λ (l : List EntryView). due (whole l) at) (sym assoc)
    ∙ (owes rest next at (subst (λ (l : List EntryView). IsLegal (whole l)) (sym assoc) legal) (omega (arith, low, ap (λ (j : JournalView). length j.calls) same)) (ap is_closed same ∙ ended)
    ∙ ap (λ (j : JournalView). due j at) same)

pub closed_owes_no_more : ClosedOwesNoMore
closed_owes_no_more first later at longer legal low ended =
    ap (λ (l : List EntryView). due (whole l) at) (sym longer.1) ∙ owes longer.0 first at (subst (λ (l : List EntryView). IsLegal (whole l)) (sym longer.1) legal) low ended
