-- Which stored alerts the changes of a post leave as they are.
use Rattle.std.specs.Prelude.{◌≢◌, ℕ, List, [], ◌∷◌, ⊤}
use Rattle.am_store.specs.declared.store.absorb.Change.{Change}
use Rattle.am_store.specs.declared.store.absorb.Change.TheVariants.{Added, Replaced}

-- no change replaced the alert at the index
abbrev pub IsUntouched : ℕ → List Change → Type 0
IsUntouched at [] = ⊤
IsUntouched at (Added ∷ changes) = IsUntouched at changes
IsUntouched at (Replaced replaced before ∷ changes) = (replaced ≢ at) × IsUntouched at changes
