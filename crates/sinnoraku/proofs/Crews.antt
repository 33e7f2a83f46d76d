-- The outcomes of threads that end one after another, and what the turns of all say of each.
use Rattle.std.proofs.Common.{◌≡◌, ◌∙◌, ℕ, zero, suc, ◌<◌, ◌+◌, ◌++◌, List, [], ◌∷◌, true, length, map, get_or, refl, sym, ap, subst, arith, length-append}
use Rattle.std.specs.List.{All}
use Rattle.std.specs.Prelude.{Err, IfOk, IfSome, Ok, Option, Result, Some}
use Rattle.std.proofs.lemmas.List.{get_or_append_left, length-map}
use Rattle.std.proofs.lemmas.List.Elements.{All-map}
use Rattle.am_alert.specs.declared.alert.Alert.{Alert}
use Rattle.am_cast.specs.Posters.{PassView}
use Rattle.am_history.specs.Fronts.{FrontView}
use Rattle.am_provider.specs.Ending.{IsSettledFrom}
use Rattle.am_provider.specs.Histories.{EntryView}
use Rattle.am_provider.specs.Rising.{IsRising}
use Rattle.am_provider.specs.declared.settled.Settled.{Settled}
use Rattle.am_store.specs.declared.call.Call.{Call}
use Rattle.sinnoraku.specs.Runs.{AreCrewOutcomes, AreOutcomes, IsCrewRun}
use Rattle.sinnoraku.proofs.Outcomes.{fronts_of}

at_end : {A : Type 0} (xs : List A) (x d : A) → get_or (xs ++ x ∷ []) (length xs) d ≡ x
at_end [] x d = refl
at_end (y ∷ xs) x d = at_end xs x d

-- what holds of all of a list holds of all without the last
pub all_init : {A : Type 0} (P : A → Type 0) (xs : List A) (x : A) (ys : List A) → ys ≡ xs ++ x ∷ [] → All P ys → All P xs
all_init P xs x ys is all k d h =
    subst P (ap (λ l. get_or l k d) is ∙ get_or_append_left xs (x ∷ []) d k h) (all k d (omega (arith, h, ap length is, length-append xs (x ∷ []))))

-- and of the last
pub all_end : {A : Type 0} (P : A → Type 0) (xs : List A) (x : A) (ys : List A) → ys ≡ xs ++ x ∷ [] → All P ys → P x
all_end P xs x ys is all =
    subst P (ap (λ l. get_or l (length xs) x) is ∙ at_end xs x x) (all (length xs) x (omega (arith, ap length is, length-append xs (x ∷ []))))

pub of_some : {O : Type 0} (P : O → Type 0) (o : Option O) (x : O) → o ≡ Some x → IfSome o P → P x
of_some P o x is holds = subst (λ o. IfSome o P) is holds

-- what three promises of one result give together
pub if_ok_all : {A E : Type 0} (result : Result A E) (P Q R S : A → Type 0) → ((a : A) → P a → Q a → R a → S a)
    → IfOk result P → IfOk result Q → IfOk result R → IfOk result S
if_ok_all (Ok a) P Q R S all p q r = all a p q r
if_ok_all (Err e) P Q R S all p q r = p

pub no_outcomes : {C O : Type 0} (Done : ℕ → C → O → Type 0) (callers : List C) (outcomes : List O) → callers ≡ [] → outcomes ≡ [] → AreOutcomes Done callers outcomes
no_outcomes Done callers outcomes none empty = record {
  count = ap length empty ∙ sym (ap length none);
  each = λ i c o h. absurd (omega (arith, h, ap length none));
}

-- one thread's outcome more
pub one_more_outcome : {C O : Type 0} (Done : ℕ → C → O → Type 0) (callers : List C) (caller : C) (outcomes : List O) (outcome : O) (all : List C) (everything : List O)
    → all ≡ callers ++ caller ∷ [] → everything ≡ outcomes ++ outcome ∷ []
    → AreOutcomes Done callers outcomes → Done (length callers) caller outcome → AreOutcomes Done all everything
one_more_outcome {C} {O} Done callers caller outcomes outcome all everything longer more are here =
    subst (λ (l : List C). AreOutcomes Done l everything) (sym longer) (subst (λ (l : List O). AreOutcomes Done (callers ++ caller ∷ []) l) (sym more) record {
      count = length-append outcomes (outcome ∷ []) ∙ (ap (λ (n : ℕ). n + 1) are.count ∙ sym (length-append callers (caller ∷ [])));
      each = at Done callers outcomes are.count are.each here;
    })
  where
    at : (Done : ℕ → C → O → Type 0) (cs : List C) (os : List O) → length os ≡ length cs
        → ((i : ℕ) (c : C) (o : O) → i < length cs → Done i (get_or cs i c) (get_or os i o)) → Done (length cs) caller outcome
        → (i : ℕ) (c : C) (o : O) → i < length (cs ++ caller ∷ []) → Done i (get_or (cs ++ caller ∷ []) i c) (get_or (os ++ outcome ∷ []) i o)
    at Done [] [] same each here zero c o h = here
    at Done [] [] same each here (suc i) c o h = absurd (omega (arith, h))
    at Done [] (y ∷ os) same each here i c o h = absurd (omega (arith, same))
    at Done (x ∷ cs) [] same each here i c o h = absurd (omega (arith, same))
    at Done (x ∷ cs) (y ∷ os) same each here zero c o h = each zero x y (omega arith)
    at Done (x ∷ cs) (y ∷ os) same each here (suc i) c o h =
        at (λ j. Done (suc j)) cs os (omega (arith, same)) (λ j a b inside. each (suc j) a b (omega (arith, inside))) here i c o (omega (arith, h))

-- a crew that worked, and the provider that its callers settled
pub settled_crew : {C O : Type 0} (ComesTo : List (FrontView EntryView) → ℕ → PassView Alert Call → FrontView EntryView → O → Type 0) (count : ℕ) (pass : C → PassView Alert Call) (front : C → FrontView EntryView) (callers : List C) (outcomes : List O) (end : Settled)
    → ((turns : List (FrontView EntryView)) × AreCrewOutcomes (ComesTo turns) (map (λ caller. (pass caller, front caller)) callers) outcomes)
    → length callers ≡ count → IsSettledFrom (map pass callers) (map front callers) end → All (λ caller. IsRising (pass caller).own) callers
    → (length callers ≡ count → end.complete ≡ true) → IsCrewRun ComesTo count outcomes end
settled_crew {C} ComesTo count pass front callers outcomes end (turns, worked) many settled rising complete = record {
  turns = turns;
  callers = map both callers;
  number = length-map callers both ∙ many;
  comes_to = worked;
  settled = subst (λ (passes : List (PassView Alert Call)). IsSettledFrom passes (map (λ (one : PassView Alert Call × FrontView EntryView). one.1) (map both callers)) end) (fronts_of both (λ (one : PassView Alert Call × FrontView EntryView). one.0) callers)
      (subst (λ (fronts : List (FrontView EntryView)). IsSettledFrom (map pass callers) fronts end) (fronts_of both (λ (one : PassView Alert Call × FrontView EntryView). one.1) callers) settled);
  rising = All-map (λ (one : PassView Alert Call × FrontView EntryView). IsRising one.0.own) both callers rising;
  complete = complete many;
}
  where
    both : C → PassView Alert Call × FrontView EntryView
    both caller = (pass caller, front caller)
