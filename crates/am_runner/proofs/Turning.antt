-- A turn that began and ended stands in the order of the turns.
use Rattle.std.proofs.Common.{◌≡◌, ℕ, zero, suc, ◌<◌, Bool, true, false, List, [], ◌∷◌, ◌++◌, Some, length, slice_get, refl, sym, ap, subst, ◌∙◌, arith}
use mathlib.Core.List.{IsPrefix}
use Rattle.std.proofs.lemmas.List.{append_assoc}
use Rattle.std.proofs.lemmas.Option.{get_or_from_slice_get}
use Rattle.am_history.specs.Fronts.{FrontView}
use Rattle.am_provider.specs.Histories.{EntryView}
use Rattle.am_provider.specs.Turns.{SeesMore, IsBegun, IsEnded}
use Rattle.am_provider.proofs.Recording.{prefix_same}
use Rattle.am_provider.proofs.Turns.{prefix_self, prefix_then}
use Rattle.am_runner.specs.Turning.{IsTurn, Begins, Ends, order_of}

get_in_front : {A : Type 0} (xs more : List A) (k : ℕ) → k < length xs → slice_get (xs ++ more) k ≡ slice_get xs k
get_in_front [] more k less = absurd (omega (arith, less))
get_in_front (x ∷ xs) more zero less = refl
get_in_front (x ∷ xs) more (suc k) less = get_in_front xs more k (omega (arith, less))

get_behind : {A : Type 0} (xs more : List A) (x : A) → slice_get (xs ++ x ∷ more) (length xs) ≡ Some x
get_behind [] more x = refl
get_behind (y ∷ xs) more x = get_behind xs more x

get_of_longer : {A : Type 0} (xs ys : List A) (k : ℕ) → IsPrefix xs ys → k < length xs → slice_get ys k ≡ slice_get xs k
get_of_longer xs ys k (more, is) less = sym (ap (λ l. slice_get l k) is) ∙ get_in_front xs more k less

-- the turn that began and ended stands among all turns at its number
turn_among : (at : ℕ) (s0 s1 s2 turns : List (FrontView EntryView)) (f0 f1 g0 g1 : FrontView EntryView)
    → IsBegun at s0 s1 f0 f1 → IsEnded at s1 s2 g0 g1 → IsPrefix s2 turns → IsTurn (Some turns) at f1 g1
turn_among at s0 s1 s2 turns f0 f1 g0 g1 begun ended longer = (here, before)
  where
    all : IsPrefix (ended.before ++ g1 ∷ []) turns
    all = subst (λ (l : List (FrontView EntryView)). IsPrefix l turns) ended.added longer

    here : slice_get turns at ≡ Some g1
    here = sym (ap (λ l. slice_get l at) all.1) ∙ (ap (λ l. slice_get l at) (append_assoc ended.before (g1 ∷ []) all.0)
        ∙ subst (λ (n : ℕ). slice_get (ended.before ++ g1 ∷ all.0) n ≡ Some g1) ended.count (get_behind ended.before all.0 g1))

    started : IsPrefix s1 turns
    started = prefix_then s1 ended.before turns ended.kept (prefix_then ended.before (ended.before ++ g1 ∷ []) turns (g1 ∷ [], refl) all)

    before : (earlier : ℕ) (turn : FrontView EntryView) → earlier < at → slice_get turns earlier ≡ Some turn → IsPrefix turn.seen f1.seen
    before earlier turn less found =
        let inside : earlier < length s1 = omega (arith, less, begun.count) in
        let there : slice_get s1 earlier ≡ Some turn = sym (get_of_longer s1 turns earlier started inside) ∙ found in
        subst (λ (one : FrontView EntryView). IsPrefix one.seen f1.seen) (get_or_from_slice_get s1 earlier turn turn there) (begun.shown earlier turn inside)

pub turn_of : (ordered : Bool) (at : ℕ) (s0 s1 s2 turns : List (FrontView EntryView)) (f0 f1 g0 g1 : FrontView EntryView)
    → Begins ordered at s0 s1 f0 f1 → Ends ordered at s1 s2 g0 g1 → IsPrefix s2 turns → IsTurn (order_of ordered turns) at f1 g1
turn_of false at s0 s1 s2 turns f0 f1 g0 g1 begun ended longer = tt
turn_of true at s0 s1 s2 turns f0 f1 g0 g1 begun ended longer = turn_among at s0 s1 s2 turns f0 f1 g0 g1 begun ended longer

-- what a thread knows of the turns grows, and a caller sees more
pub begins_more : (ordered : Bool) (at : ℕ) (saw sees : List (FrontView EntryView)) (was is : FrontView EntryView) → Begins ordered at saw sees was is → IsPrefix saw sees × SeesMore was is
begins_more false at saw sees was is (same, front) = (prefix_same saw sees same, subst (SeesMore was) (sym front) (prefix_self was.seen, refl))
begins_more true at saw sees was is begun = (begun.kept, begun.more)

pub ends_more : (ordered : Bool) (at : ℕ) (saw sees : List (FrontView EntryView)) (was is : FrontView EntryView) → Ends ordered at saw sees was is → IsPrefix saw sees × SeesMore was is
ends_more false at saw sees was is (same, front) = (prefix_same saw sees same, subst (SeesMore was) (sym front) (prefix_self was.seen, refl))
ends_more true at saw sees was is ended =
    (prefix_then saw ended.before sees ended.kept (is ∷ [], sym ended.added), ended.more)
