-- The outcomes of seats.
use Rattle.std.proofs.Common.{◌≡◌, ◌∙◌, ℕ, zero, suc, ◌<◌, ◌++◌, Bool, true, false, List, [], ◌∷◌, length, map, get_or, refl, sym, ap, subst, arith}
use Rattle.std.specs.Prelude.{Option, None, Some}
use Rattle.std.proofs.lemmas.List.{length-map, get_or-map, append-nil}
use Rattle.std.specs.List.{All}
use Rattle.std.specs.Option.{IsSome, IsSomeAnd, is_some}
use Rattle.am_history.specs.Fronts.{FrontView}
use Rattle.am_provider.specs.Histories.{EntryView}
use Rattle.sinnoraku.specs.Runs.{AreOutcomes}
use Rattle.sinnoraku.proofs.Lists.{map_last, list_last}

-- what each seat has, as two lists
pub of_seats : {S O : Type 0} (Done : ℕ → FrontView EntryView → O → Type 0) (front : S → FrontView EntryView) (outcome : S → O) (seats : List S) → ((i : ℕ) (d : S) → i < length seats → Done i (front (get_or seats i d)) (outcome (get_or seats i d))) → AreOutcomes Done (map front seats) (map outcome seats)
of_seats {S} {O} Done front outcome seats done = record {
  count = length-map seats outcome ∙ sym (length-map seats front);
  each = λ i f o h. at seats i f o (subst (λ n. i < n) (length-map seats front) h) (done i);
}
  where
    at : (xs : List S) (i : ℕ) (f : FrontView EntryView) (o : O) → i < length xs → ((d : S) → i < length xs → Done i (front (get_or xs i d)) (outcome (get_or xs i d))) → Done i (get_or (map front xs) i f) (get_or (map outcome xs) i o)
    at [] i f o h is = absurd (omega (arith, h))
    at (x ∷ xs) i f o h is = subst (λ p. Done i p (get_or (map outcome (x ∷ xs)) i o)) (sym (get_or-map front (x ∷ xs) i x f h)) (subst (λ q. Done i (front (get_or (x ∷ xs) i x)) q) (sym (get_or-map outcome (x ∷ xs) i x o h)) (is x h))

-- what holds of all callers holds of the callers of their seats
pub of_callers : {S C : Type 0} (P : C → Type 0) (f : S → C) (seats : List S) (callers : List C) → map f seats ≡ callers → All P callers → All (λ seat. P (f seat)) seats
of_callers P f seats callers is all = λ k d h. subst P (get_or-map f seats k d (f d) h) (subst (All P) (sym is) all k (f d) (subst (λ n. k < n) (sym (length-map seats f)) h))

is_some_of : {O : Type 0} (o : Option O) (P : O → Type 0) → IsSomeAnd o P → IsSome o
is_some_of None P h = absurd h
is_some_of (Some x) P h = refl

-- each seat has an outcome
pub all_some : {S O : Type 0} (Done : ℕ → FrontView EntryView → O → Type 0) (front : S → FrontView EntryView) (outcome : S → Option O) (seats : List S) → AreOutcomes (λ i f o. IsSomeAnd o (Done i f)) (map front seats) (map outcome seats) → All (λ seat. IsSome (outcome seat)) seats
all_some Done front outcome seats are = λ k d h. subst IsSome (get_or-map outcome seats k d (outcome d) h) (is_some_of _ (Done k (get_or (map front seats) k (front d))) (are.each k (front d) (outcome d) (subst (λ n. k < n) (sym (length-map seats front)) h)))

pub fronts_of : {S C F : Type 0} (caller : S → C) (front : C → F) (seats : List S) → map (λ seat. front (caller seat)) seats ≡ map front (map caller seats)
fronts_of caller front [] = refl
fronts_of caller front (x ∷ xs) = ap (λ l. front (caller x) ∷ l) (fronts_of caller front xs)

some_at : {O : Type 0} (os : List O) (i : ℕ) (o : O) → get_or (map (λ x. Some x) os) i (Some o) ≡ Some (get_or os i o)
some_at [] i o = refl
some_at (x ∷ xs) zero o = refl
some_at (x ∷ xs) (suc i) o = some_at xs i o

-- the outcomes and the callers that seats had
pub outcomes_of : {S C O : Type 0} (Done : ℕ → FrontView EntryView → O → Type 0) (caller : S → C) (front : C → FrontView EntryView) (outcome : S → Option O) (seats : List S) (callers : List C) (outcomes : List O) → callers ≡ map caller seats → map (λ o. Some o) outcomes ≡ map outcome seats → AreOutcomes (λ i f o. IsSomeAnd o (Done i f)) (map (λ seat. front (caller seat)) seats) (map outcome seats) → AreOutcomes Done (map front callers) outcomes
outcomes_of {S} {C} {O} Done caller front outcome seats callers outcomes is somes are =
    let fronts : map (λ seat. front (caller seat)) seats ≡ map front callers = fronts_of caller front seats ∙ ap (map front) (sym is) in
    let here = subst (λ fs. AreOutcomes (λ i f o. IsSomeAnd o (Done i f)) fs (map outcome seats)) fronts are in
    let now = subst (λ os. AreOutcomes (λ i f o. IsSomeAnd o (Done i f)) (map front callers) os) (sym somes) here in
    record {
      count = sym (length-map outcomes (λ o. Some o)) ∙ now.count;
      each = λ i f o h. subst (λ x. IsSomeAnd x (Done i (get_or (map front callers) i f))) (some_at outcomes i o) (now.each i f (Some o) h);
    }

abbrev NotTrue : Bool → Type 0
NotTrue false = ℕ
NotTrue true = ⊥

pub none_of : {O : Type 0} (o : Option O) → o ≡ None → IsSome o → ⊥
none_of o is h = subst NotTrue (ap is_some (sym is) ∙ h) 0

-- a seat is taken apart
pub outcomes_step : {S O : Type 0} (outcome : S → Option O) (old : List O) (x : O) (new : List O) (seat : S) (rest iter : List S) (all : List (Option O)) → new ≡ old ++ x ∷ [] → outcome seat ≡ Some x → iter ≡ seat ∷ rest → map (λ o. Some o) old ++ map outcome iter ≡ all → map (λ o. Some o) new ++ map outcome rest ≡ all
outcomes_step outcome old x new seat rest iter all items is step known = map_last (λ o. Some o) old x new (map outcome rest) items ∙ (ap (λ o. map (λ o. Some o) old ++ o ∷ map outcome rest) (sym is) ∙ (ap (λ l. map (λ o. Some o) old ++ map outcome l) (sym step) ∙ known))

pub callers_step : {S C : Type 0} (caller : S → C) (old new : List C) (seat : S) (rest iter : List S) (all : List C) → new ≡ old ++ caller seat ∷ [] → iter ≡ seat ∷ rest → old ++ map caller iter ≡ all → new ++ map caller rest ≡ all
callers_step caller old new seat rest iter all items step known = list_last old (caller seat) new (map caller rest) items ∙ (ap (λ l. old ++ map caller l) (sym step) ∙ known)

-- a seat is made of the next caller
pub made_step : {S X : Type 0} (f : S → X) (old : List S) (seat : S) (new : List S) (x : X) (rest iter all : List X) → new ≡ old ++ seat ∷ [] → f seat ≡ x → iter ≡ x ∷ rest → map f old ++ iter ≡ all → map f new ++ rest ≡ all
made_step f old seat new x rest iter all items is step known = map_last f old seat new rest items ∙ (ap (λ y. map f old ++ y ∷ rest) is ∙ (ap (λ l. map f old ++ l) (sym step) ∙ known))

-- no seat is left
pub ended : {S X : Type 0} (f : S → X) (done : List X) (iter : List S) (all : List X) → iter ≡ [] → done ++ map f iter ≡ all → done ≡ all
ended f done iter all none known = sym (append-nil done) ∙ (ap (λ l. done ++ map f l) (sym none) ∙ known)

pub ended_plain : {X : Type 0} (done iter all : List X) → iter ≡ [] → done ++ iter ≡ all → done ≡ all
ended_plain done iter all none known = sym (append-nil done) ∙ (ap (λ l. done ++ l) (sym none) ∙ known)
