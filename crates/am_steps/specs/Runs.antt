-- Lists of events, each of which was possible when it came. They are this project's own.
use Rattle.std.specs.Prelude.{ℕ, zero, suc, List, [], ◌∷◌, ◌++◌, ⊤}
use Rattle.am_steps.specs.declared.event.Event as event
use Rattle.am_steps.specs.declared.event.Event.TheVariants as does
use Rattle.am_steps.specs.States.{Core}
use Rattle.am_steps.specs.Steps.{Step}

-- the events lead from the first state to the last
pub data LeadsTo {X : Type 0} : Core X → List (event.Event X) → Core X → Type 0 where
  none : (c : Core X) → LeadsTo c [] c
  then : (c d f : Core X) (e : event.Event X) (es : List (event.Event X)) → Step c e d
      → LeadsTo d es f → LeadsTo c (e ∷ es) f

-- no event of the list cuts a lane
abbrev pub HasNoCut : {X : Type 0} → List (event.Event X) → Type 0
HasNoCut [] = ⊤
HasNoCut (does.Cut l ∷ es) = ⊥
HasNoCut (_ ∷ es) = HasNoCut es

-- an Admit and an Open of each lane below a number
abbrev pub open_each : {X : Type 0} → ℕ → List (event.Event X)
open_each zero = []
open_each (suc lane) = open_each lane ++ (does.Admit lane ∷ does.Open lane ∷ [])
