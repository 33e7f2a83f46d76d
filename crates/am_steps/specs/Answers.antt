-- What `State::apply` answers: this project's own.
use Rattle.std.specs.Prelude.{◌≡◌, Bool, true, false, Some, ⊤}
use Rattle.am_steps.specs.declared.event.Event as event
use Rattle.am_steps.specs.declared.event.Event.TheVariants as does
use Rattle.am_steps.specs.States.{Core, StateView, core_of}
use Rattle.am_steps.specs.Steps.{Step}

-- true: the event was possible, and this is its next state. False: there is no next state, and the
-- state stays
abbrev pub Applies : {X : Type 0} → StateView X → event.Event X → StateView X → Bool → Type 0
Applies old event new true = Step (core_of old) event (core_of new)
Applies {X} old event new false =
    (new ≡ old) × ((next : Core X) → Step (core_of old) event next → ⊥)

-- the event has a next state
abbrev pub IsPossible : {X : Type 0} → Core X → event.Event X → Type 0
IsPossible {X} c event = (next : Core X) × Step c event next

-- the event makes a list longer, and so asks for memory
abbrev pub AsksMemory : {X : Type 0} → event.Event X → Type 0
AsksMemory (does.Publish name) = ⊤
AsksMemory (does.Pass lane) = ⊤
AsksMemory (does.Note poster (Some post)) = ⊤
AsksMemory _ = ⊥
