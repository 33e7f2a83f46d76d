-- Facts about the words of specs/WholeRuns.antt.
use Rattle.std.proofs.Common.{◌≡◌, ℕ, zero, suc, ◌∙◌, List, [], ◌∷◌, ◌++◌, length, map, get_or, Result, Ok, IfOk, ap, sym, subst, refl}
use Rattle.std.proofs.lemmas.List.{length-map, map-append}
use Rattle.am_alert.specs.declared.alert.Alert.{Alert}
use Rattle.am_store.specs.declared.call.Call.{Call}
use Rattle.am_cast.specs.Posters.{PassView}
use Rattle.am_history.specs.Fronts.{FrontView}
use Rattle.am_provider.specs.Histories.{EntryView}
use Rattle.am_provider.specs.declared.settled.Settled.{Settled}
use Rattle.sinnoraku.specs.Runs.{IsCrewRun}

-- one thread's answers more
pub one_more_kept : {A E : Type 0} (outcomes : List (Result A E)) (kept more : List A) (given : Result A E) (answers : A)
    → outcomes ≡ map Ok kept → given ≡ Ok answers → more ≡ kept ++ answers ∷ [] → outcomes ++ given ∷ [] ≡ map Ok more
one_more_kept {A} {E} outcomes kept more given answers so_far is grown =
    ap (λ (l : List (Result A E)). l ++ given ∷ []) so_far ∙ (ap (λ (r : Result A E). map Ok kept ++ r ∷ []) is
    ∙ (sym (map-append Ok kept (answers ∷ [])) ∙ ap (λ (l : List A). map Ok l) (sym grown)))

ok_at : {A E : Type 0} (all : List A) (i : ℕ) (d : A) → (let oks : List (Result A E) = map Ok all in get_or oks i (Ok d)) ≡ Ok (get_or all i d)
ok_at [] i d = refl
ok_at (x ∷ xs) zero d = refl
ok_at {A} {E} (x ∷ xs) (suc i) d = ok_at {A = A} {E = E} xs i d

-- each thread had the memory for its outcome
pub with_memory : {A E : Type 0} (ComesTo : List (FrontView EntryView) → ℕ → PassView Alert Call → FrontView EntryView → A → Type 0) (count : ℕ) (outcomes : List (Result A E)) (all : List A) (end : Settled)
    → IsCrewRun (λ turns thread pass front given. IfOk given (ComesTo turns thread pass front)) count outcomes end → outcomes ≡ map Ok all → IsCrewRun ComesTo count all end
with_memory {A} {E} ComesTo count outcomes all end run is = record {
  turns = run.turns;
  callers = run.callers;
  number = run.number;
  comes_to = record {
    count = sym (length-map all Ok) ∙ (ap length (sym is) ∙ run.comes_to.count);
    each = λ i caller given h. subst (λ (r : Result A E). IfOk r (ComesTo run.turns i (get_or run.callers i caller).0 (get_or run.callers i caller).1)) (ap (λ (l : List (Result A E)). get_or l i (Ok given)) is ∙ ok_at {A = A} {E = E} all i given)
        (run.comes_to.each i caller (Ok given) h);
  };
  settled = run.settled;
  rising = run.rising;
  complete = run.complete;
}
