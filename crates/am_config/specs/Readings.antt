-- Readings that may allow more than one result: whether `regex` reads a very large pattern is left open.
use Rattle.std.specs.Prelude.{◌≡◌, ℕ, ◌+◌, List, [], ◌∷◌, Result, Ok, Err, ⊤}
use Rattle.am_config.specs.declared.fault.ConfigFault.{ConfigFault}
use Rattle.am_config.specs.declared.fault.ConfigFault.TheVariants.{NoMemory, NotJson}

-- a reading: which results it allows
abbrev pub Reading : Type 0 → Type 1
Reading A = Result A ConfigFault → Type 0

-- the reading that allows this result alone
abbrev pub Is : {A : Type 0} → Result A ConfigFault → Reading A
Is only result = only ≡ result

-- one reading after another: the first fault decides
pub data Then {A B : Type 0} (first : Reading A) (next : A → Reading B) : Result B ConfigFault → Type 0 where
  refused : {fault : ConfigFault} → first (Err fault) → Then first next (Err fault)
  goes_on : {x : A} {result : Result B ConfigFault}
      → first (Ok x) → next x result → Then first next result

-- `Then` as an operator, for `do`
infixl 10 ◌>>=◌
abbrev pub ◌>>=◌ : {A B : Type 0} → Reading A → (A → Reading B) → Reading B
first >>= next = Then first next

-- the elements of a list from an index on, each read in its order
abbrev pub each : {X A : Type 0} → (ℕ → X → Reading A) → ℕ → List X → Reading (List A)
each reads i [] = Is (Ok [])
each reads i (x ∷ xs) = do
  first ← reads i x
  others ← each reads (i + 1) xs
  Is (Ok (first ∷ others))

-- the reading allows the result, unless memory ran out; what is read here is JSON
abbrev pub AllowsResult : {A : Type 0} → Reading A → Result A ConfigFault → Type 0
AllowsResult reading (Ok x) = reading (Ok x)
AllowsResult reading (Err NoMemory) = ⊤
AllowsResult reading (Err NotJson) = ⊥
AllowsResult reading (Err fault) = reading (Err fault)
