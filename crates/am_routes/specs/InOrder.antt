-- What keys hold after updates, listed in the order in which they began to hold it.
use Rattle.std.specs.Prelude.{ℕ, zero, suc, ◌+◌, Bool, if◌then◌else◌, nat_eq, List, [], ◌∷◌, take, length}
use Rattle.std.specs.Prelude.{Option, None, is_none}
use Rattle.std.specs.Option.{option_map, option_and_then}
use Rattle.std.specs.List.{cons_option}

-- the last number up to a bound that passes a test, or 0
abbrev pub last_passing : (ℕ → Bool) → ℕ → ℕ
last_passing test zero = zero
last_passing test (suc n) = if test (suc n) then suc n else last_passing test n

-- how many updates there were when a key last held nothing, by what it holds after each number of them
abbrev pub last_without : {U V : Type 0} → (List U → Option V) → List U → ℕ
last_without held all = last_passing (λ n. is_none (held (take n all))) (length all)

-- what a key holds, if it began to hold something with the update at an index
abbrev pub held_since : {U V : Type 0} → ℕ → (List U → Option V) → List U → Option V
held_since at held all = if nat_eq (last_without held all) at then held all else None

-- the update at an index with what its key holds, if it was this update that began it
abbrev pub begun_by : {U K V : Type 0} → (U → Option K) → (K → List U → Option V)
    → List U → ℕ → U → Option (U × V)
begun_by key_of held all at update =
    option_map (λ value. (update, value))
    (option_and_then (λ key. held_since at (held key) all) (key_of update))

-- what a function finds at each update, from an index on
abbrev pub gathered_from : {U X : Type 0} → (ℕ → U → Option X) → ℕ → List U → List X
gathered_from found at [] = []
gathered_from found at (update ∷ rest) =
    cons_option (found at update) (gathered_from found (at + 1) rest)

-- what each key holds, with the update that began it, in the order in which they began
abbrev pub in_order : {U K V : Type 0} → (U → Option K) → (K → List U → Option V) → List U → List (U × V)
in_order key_of held all = gathered_from (begun_by key_of held all) 0 all
