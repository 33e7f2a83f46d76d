-- A post more of a pass.
use Rattle.std.proofs.Common.{◌≡◌, ℕ, suc, ◌+◌, ◌<◌, List, [], ◌∷◌, ◌++◌, length, sym, ap, subst, ◌∙◌, arith}
use Rattle.std.proofs.lemmas.List.{length-append}
use Rattle.am_cast.specs.declared.views.Own.{Own}
use Rattle.am_cast.specs.Rule.{IsApart, Once}
use Rattle.am_cast.specs.Changes.{AreInLog, own_at}
use Rattle.am_provider.specs.Batches.{Batch}
use Rattle.am_provider.specs.Rising.{AreAbove, AreBelow, IsRising}
use Rattle.am_provider.proofs.Settling.{all_under, under}

above_more : (place : ℕ) (own : List (Own Batch)) (o : Own Batch) → AreAbove place own → place < o.place → AreAbove place (own ++ o ∷ [])
above_more place [] o above here = (here, tt)
above_more place (x ∷ own) o above here = (above.0, above_more place own o above.1 here)

rising_more : (own : List (Own Batch)) (o : Own Batch) → IsRising own → AreBelow o.place own → IsRising (own ++ o ∷ [])
rising_more [] o rising below = (tt, tt)
rising_more (x ∷ own) o rising below = (above_more x.place own o rising.0 below.0, rising_more own o rising.1 below.1)

below_front : (n : ℕ) (own : List (Own Batch)) (o : Own Batch) → AreBelow n (own ++ o ∷ []) → AreBelow n own
below_front n [] o below = tt
below_front n (x ∷ own) o below = (below.0, below_front n own o below.1)

apart_last : (place : ℕ) (own : List (Own Batch)) (o : Own Batch) → IsApart place (own ++ o ∷ []) → o.place ≡ place → ⊥
apart_last place [] o apart = apart.0
apart_last place (x ∷ own) o apart = apart_last place own o apart.1

once_last : (own : List (Own Batch)) (o : Own Batch) → Once (own ++ o ∷ []) → IsApart o.place own
once_last [] o once = tt
once_last (x ∷ own) o once = (λ same. apart_last x.place own o once.0 (sym same), once_last own o once.1)

-- a place that is the log's next one is above those that stand there
pub all_below : (own then : List (Own Batch)) (log longer : List Batch) (x : Batch) (place : ℕ) → then ≡ own ++ own_at place x ∷ [] → longer ≡ log ++ x ∷ [] → place ≡ length log
    → AreInLog then longer → Once then → AreBelow place own
all_below own then log longer x place grown more next stand once =
    let long : length longer ≡ suc place = ap length more ∙ (length-append log (x ∷ []) ∙ (let one : length log + 1 ≡ suc (length log) = omega arith in one ∙ ap suc (sym next))) in
    let all : AreBelow (suc place) (own ++ own_at place x ∷ []) = subst (AreBelow (suc place)) grown (subst (λ (n : ℕ). AreBelow n then) long (all_under longer then stand)) in
    under place own (below_front (suc place) own (own_at place x) all) (once_last own (own_at place x) (subst (λ (os : List (Own Batch)). Once os) grown once))

pub one_more : (own then : List (Own Batch)) (x : Batch) (place : ℕ) → then ≡ own ++ own_at place x ∷ [] → IsRising own → AreBelow place own → IsRising then
one_more own then x place grown rising below = subst IsRising (sym grown) (rising_more own (own_at place x) rising below)
