-- The first element of a list that passes a test, and how many there are up to it.
use Rattle.std.proofs.Common.{◌≡◌, ◌+◌, Bool, true, false, cond, List, [], ◌∷◌, ◌++◌, Some, None, ap, arith}
use Rattle.std.specs.List.{find}
use Rattle.am_inhibit.specs.Muting.{count_to}

pub count_to-yes : {X : Type 0} (test : X → Bool) (x : X) (xs : List X) → test x ≡ true → count_to test (x ∷ xs) ≡ 1
count_to-yes test x xs passes = grind arith

pub count_to-no : {X : Type 0} (test : X → Bool) (x : X) (xs : List X) → test x ≡ false → count_to test (x ∷ xs) ≡ 1 + count_to test xs
count_to-no test x xs fails = grind arith

pub find-yes : {X : Type 0} (test : X → Bool) (x : X) (xs : List X) → test x ≡ true → find test (x ∷ xs) ≡ Some x
find-yes test x xs passes = ap (λ b. cond b (Some x) (find test xs)) passes

pub find-no : {X : Type 0} (test : X → Bool) (x : X) (xs : List X) → test x ≡ false → find test (x ∷ xs) ≡ find test xs
find-no test x xs fails = ap (λ b. cond b (Some x) (find test xs)) fails

-- where the first list has one that passes, the second doesn't count
pub count_to-found : {X : Type 0} (test : X → Bool) (xs ys : List X) (x : X) → find test xs ≡ Some x → count_to test (xs ++ ys) ≡ count_to test xs
count_to-found test [] ys x found = absurd (cc)
count_to-found test (y ∷ xs) ys x found = let rest = count_to-found test xs ys x in grind arith

-- where it has none, all of it count
pub count_to-past : {X : Type 0} (test : X → Bool) (xs ys : List X) → find test xs ≡ None → count_to test (xs ++ ys) ≡ count_to test xs + count_to test ys
count_to-past test [] ys none = omega arith
count_to-past test (y ∷ xs) ys none = let rest = count_to-past test xs ys in grind arith
