-- Own posts that are as many as the places of the log are all of them.
use Rattle.std.proofs.Common.{◌≡◌, ℕ, zero, suc, ◌+◌, ◌<◌, ◌≤◌, ◌⊎◌, inl, inr, ⊎_elim, List, [], ◌∷◌, ◌++◌, length, All, refl, sym, ap, subst, ◌∙◌, arith}
use mathlib.Core.Option.{some}
use mathlib.Core.Logic.{dite}
use native.Mathlib.Decide.{ℕ_discrete}
use lib.ListN.{get_elem?}
use Rattle.std.proofs.lemmas.List.{append_assoc, append-nil}
use Rattle.std.proofs.lemmas.List.Elements.{All-append}
use Rattle.am_alert.specs.declared.alert.Alert.{Alert}
use Rattle.am_store.specs.declared.call.Call.{Call}
use Rattle.am_cast.specs.declared.views.Own.{Own}
use Rattle.am_cast.specs.Rule.{IsApart, Once}
use Rattle.am_cast.specs.Changes.{AreInLog}
use Rattle.am_cast.specs.Posters.{PassView}
use Rattle.am_provider.specs.Batches.{Batch}
use Rattle.am_provider.specs.Rising.{AreBelow, IsRising}
use Rattle.am_provider.specs.Settling.{own_of, IsOwn}

pub own_of_last : (passes : List (PassView Alert Call)) (p : PassView Alert Call) → own_of (passes ++ p ∷ []) ≡ p.own ++ own_of passes
own_of_last [] p = sym (append-nil p.own)
own_of_last (q ∷ passes) p = ap (λ own. own ++ q.own) (own_of_last passes p) ∙ append_assoc p.own (own_of passes) q.own

-- each pass's posts rise
abbrev pub AreRising : List (PassView Alert Call) → Type 0
AreRising passes = All (λ (p : PassView Alert Call). IsRising p.own) passes

pub rising_last : (passes : List (PassView Alert Call)) (p : PassView Alert Call) → IsRising p.own → AreRising passes → AreRising (passes ++ p ∷ [])
rising_last passes p own all = All-append (λ (q : PassView Alert Call). IsRising q.own) passes (p ∷ []) all only
  where
    only : AreRising (p ∷ [])
    only zero d h = own
    only (suc k) d h = absurd (omega arith)

-- whether a place is among these
find : (p : ℕ) (os : List (Own Batch)) → IsOwn os p ⊎ IsApart p os
find p [] = inr tt
find p (o ∷ os) = dite (ℕ_discrete o.place p) (λ e. inl (0, o, refl, e)) (λ ne. ⊎_elim (λ (t : IsOwn os p). inl (suc t.0, t.1, t.2, t.3)) (λ h. inr (ne, h)) (find p os))

pub under : (n : ℕ) (os : List (Own Batch)) → AreBelow (suc n) os → IsApart n os → AreBelow n os
under n [] b h = tt
under n (o ∷ os) b h = let x = b.0 in let y = h.0 in (omega arith, under n os b.1 h.1)

-- the list without the place n, which stands there once at most
drop_place : (n : ℕ) (os : List (Own Batch)) → Once os → AreBelow (suc n) os → (xs : List (Own Batch)) × (Once xs × (AreBelow n xs × ((length os ≤ length xs + 1) × ((p : ℕ) → IsApart p os → IsApart p xs))))
drop_place n [] a b = ([], (tt, (tt, (omega arith, λ p h. tt))))
drop_place n (o ∷ os) a b = dite (ℕ_discrete o.place n)
    (λ e. (os, (a.1, (under n os b.1 (subst (λ (k : ℕ). IsApart k os) e a.0), (omega arith, λ p h. h.1)))))
    (λ ne. let r = drop_place n os a.1 b.1 in let l = r.1.1.1.0 in let small = b.0 in
    (o ∷ r.0, ((r.1.1.1.1 o.place a.0, r.1.0), ((omega arith, r.1.1.0), (omega arith, λ p h. (h.0, r.1.1.1.1 p h.1))))))

bounded : (n : ℕ) (os : List (Own Batch)) → Once os → AreBelow n os → length os ≤ n
bounded zero [] a b = omega arith
bounded zero (o ∷ os) a b = let x = b.0 in absurd (omega arith)
bounded (suc n) os a b = let r = drop_place n os a b in let l = r.1.1.1.0 in let m = bounded n r.0 r.1.0 r.1.1.0 in omega arith

at_length : (log : List Batch) (i : ℕ) (x : Batch) → get_elem? log i ≡ some x → i < length log
at_length [] i x e = (cc)
at_length (y ∷ log) zero x e = omega arith
at_length (y ∷ log) (suc i) x e = let h = at_length log i x e in omega arith

pub all_under : (log : List Batch) (os : List (Own Batch)) → AreInLog os log → AreBelow (length log) os
all_under log [] h = tt
all_under log (o ∷ os) h = (at_length log o.place o.batch (h 0 o refl), all_under log os (λ k x e. h (suc k) x e))

-- as many places as the log has, each once, are all of them
pub all_places : (log : List Batch) (os : List (Own Batch)) → AreInLog os log → Once os → length os ≡ length log → (p : ℕ) → p < length log → IsOwn os p
all_places [] os stand once same p inside = absurd (omega arith)
all_places (b ∷ log) os stand once same p inside = ⊎_elim (λ t. t)
    (λ (none : IsApart p os). let x : Own Batch = record { place = p; batch = b } in let most = bounded (length (b ∷ log)) (x ∷ os) (none, once) (inside, all_under (b ∷ log) os stand) in absurd (omega arith))
    (find p os)
