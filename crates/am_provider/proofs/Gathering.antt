-- Callers as they are gathered, the last first.
use Rattle.std.proofs.Common.{◌≡◌, ◌∙◌, zero, suc, List, [], ◌∷◌, ◌++◌, map, refl, sym, ap, arith}
use Rattle.std.specs.List.{All}
use Rattle.std.proofs.lemmas.List.{append_assoc, append-nil, map-append}
use Rattle.am_alert.specs.declared.alert.Alert.{Alert}
use Rattle.am_history.specs.Fronts.{FrontView}
use Rattle.am_store.specs.declared.call.Call.{Call}
use Rattle.am_cast.specs.Posters.{PassView}
use Rattle.am_provider.specs.Histories.{EntryView}
use Rattle.am_provider.specs.Settling.{own_of, made_of}
use Rattle.am_provider.proofs.Lists.{all_tail}
use Rattle.am_provider.proofs.Settling.{own_of_last}

made_of_last : (fronts : List (FrontView EntryView)) (front : FrontView EntryView) → made_of (fronts ++ front ∷ []) ≡ front.made ++ made_of fronts
made_of_last [] front = sym (append-nil front.made)
made_of_last (first ∷ fronts) front = ap (λ made. made ++ first.made) (made_of_last fronts front) ∙ append_assoc front.made (made_of fronts) first.made

pub made_last : {A : Type 0} (front : A → FrontView EntryView) (xs : List A) (x : A) (ys : List A) → ys ≡ xs ++ x ∷ [] → made_of (map front ys) ≡ (front x).made ++ made_of (map front xs)
made_last front xs x ys is = ap (λ l. made_of (map front l)) is ∙ (ap made_of (map-append front xs (x ∷ [])) ∙ made_of_last (map front xs) (front x))

pub own_last : {A : Type 0} (pass : A → PassView Alert Call) (xs : List A) (x : A) (ys : List A) → ys ≡ xs ++ x ∷ [] → own_of (map pass ys) ≡ (pass x).own ++ own_of (map pass xs)
own_last pass xs x ys is = ap (λ l. own_of (map pass l)) is ∙ (ap own_of (map-append pass xs (x ∷ [])) ∙ own_of_last (map pass xs) (pass x))

pub all_map : {A B : Type 0} (P : B → Type 0) (f : A → B) (xs : List A) → All (λ x. P (f x)) xs → All P (map f xs)
all_map P f [] all k d h = absurd (omega arith)
all_map P f (x ∷ xs) all zero d h = all 0 x (omega arith)
all_map P f (x ∷ xs) all (suc k) d h = all_map P f xs (all_tail (λ y. P (f y)) x xs (x ∷ xs) refl all) k d (omega arith)
