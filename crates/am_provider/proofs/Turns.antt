-- Facts about the words of specs/Turns.antt.
use Rattle.std.proofs.Common.{◌≡◌, ℕ, zero, suc, List, [], ◌∷◌, ◌++◌, length, take, drop, get_or, refl, sym, ap, subst, ◌∙◌, arith}
use mathlib.Core.List.{IsPrefix}
use Rattle.std.specs.List.{All}
use Rattle.std.proofs.lemmas.List.{append_assoc, append-nil, take-append-drop}
use Rattle.am_history.specs.Fronts.{FrontView}
use Rattle.am_provider.specs.Callers.{SeesWhole}
use Rattle.am_provider.specs.Histories.{EntryView}
use Rattle.am_provider.specs.Turns.{SeesMore, IsBegun, IsEnded}

pub prefix_self : {A : Type 0} (xs : List A) → IsPrefix xs xs
prefix_self xs = ([], append-nil xs)

pub prefix_then : {A : Type 0} (xs ys zs : List A) → IsPrefix xs ys → IsPrefix ys zs → IsPrefix xs zs
prefix_then xs ys zs (more, is) (rest, all) = (more ++ rest, sym (append_assoc xs more rest) ∙ (ap (λ l. l ++ rest) is ∙ all))

-- what holds of all and of one more holds of all with that
pub all_more : {A : Type 0} (P : A → Type 0) (xs : List A) (x : A) → All P xs → P x → All P (xs ++ x ∷ [])
all_more P [] x none last zero d less = last
all_more P [] x none last (suc k) d less = absurd (omega (arith, less))
all_more P (y ∷ xs) x all last zero d less = all zero d (omega arith)
all_more P (y ∷ xs) x all last (suc k) d less = all_more P xs x (λ j e inside. all (suc j) e (omega (arith, inside))) last k d (omega (arith, less))

pub looked : (was is saw sees : FrontView EntryView) → SeesWhole was is saw sees → SeesMore was is
looked was is saw sees whole = (
  subst (λ (f : FrontView EntryView). IsPrefix was.seen f.seen) (sym whole.caller) whole.known.0,
  whole.caller ∙ (λ i. record was {
    seen = sym (ap (λ (f : FrontView EntryView). f.seen) whole.caller) i;
    looks = sym (ap (λ (f : FrontView EntryView). f.looks) whole.caller) i;
  }),
)

front_of_take : {A : Type 0} (xs ys : List A) → take (length xs) ys ≡ xs → IsPrefix xs ys
front_of_take xs ys same = (drop (length xs) ys, ap (λ l. l ++ drop (length xs) ys) (sym same) ∙ take-append-drop (length xs) ys)

take_of_front : {A : Type 0} (xs more : List A) → take (length xs) (xs ++ more) ≡ xs
take_of_front [] more = refl
take_of_front (x ∷ xs) more = ap (λ l. x ∷ l) (take_of_front xs more)

take_of_longer : {A : Type 0} (xs ys : List A) → IsPrefix xs ys → take (length xs) ys ≡ xs
take_of_longer xs ys (more, is) = ap (take (length xs)) (sym is) ∙ take_of_front xs more

-- the onlooker has seen what a turn's caller had
abbrev pub Knows : FrontView EntryView → FrontView EntryView → Type 0
Knows onlooker turn = take (length turn.seen) onlooker.seen ≡ turn.seen

pub begun_of : (next : ℕ) (saw sees turns : List (FrontView EntryView)) (was is knew knows : FrontView EntryView)
    → length turns ≡ next → All (Knows knew) turns → IsPrefix saw turns → sees ≡ turns → SeesWhole was is knew knows
    → IsBegun next saw sees was is
begun_of next saw sees turns was is knew knows counted known kept all whole = record {
  kept = subst (IsPrefix saw) (sym all) kept;
  count = ap length all ∙ counted;
  shown = subst (All (λ (turn : FrontView EntryView). IsPrefix turn.seen is.seen)) (sym all) (λ k d less.
      subst (λ (f : FrontView EntryView). IsPrefix (get_or turns k d).seen f.seen) (sym whole.caller)
      (prefix_then (get_or turns k d).seen knew.seen whole.entries (front_of_take _ knew.seen (known k d less)) whole.known.1));
  more = looked was is knew knows whole;
}

pub ended_of : (next : ℕ) (saw sees turns turns_then : List (FrontView EntryView)) (was is knew knows : FrontView EntryView)
    → length turns ≡ next → IsPrefix saw turns → turns_then ≡ turns ++ is ∷ [] → sees ≡ turns_then → SeesWhole was is knew knows
    → IsEnded next saw sees was is
ended_of next saw sees turns turns_then was is knew knows counted kept longer all whole = record {
  before = turns;
  kept = kept;
  count = counted;
  added = all ∙ longer;
  more = looked was is knew knows whole;
}

-- after it has looked, it knows the turn that ends too
pub knows_more : (turns turns_then : List (FrontView EntryView)) (was is knew knows : FrontView EntryView) → All (Knows knew) turns
    → turns_then ≡ turns ++ is ∷ [] → SeesWhole was is knew knows → All (Knows knows) turns_then
knows_more turns turns_then was is knew knows known longer whole = subst (All (Knows knows)) (sym longer) (all_more (Knows knows) turns is before itself)
  where
    before : All (Knows knows) turns
    before k d less =
        subst (λ (f : FrontView EntryView). Knows f (get_or turns k d)) (sym whole.onlooker)
        (take_of_longer (get_or turns k d).seen whole.entries
        (prefix_then (get_or turns k d).seen knew.seen whole.entries (front_of_take _ knew.seen (known k d less)) whole.known.1))

    itself : Knows knows is
    itself = subst (λ (f : FrontView EntryView). Knows f is) (sym whole.onlooker)
        (subst (λ (f : FrontView EntryView). take (length f.seen) whole.entries ≡ f.seen) (sym whole.caller)
        (take_of_longer whole.entries whole.entries (prefix_self whole.entries)))
