-- Whether the subscriptions of lines are the right ones, each after the lines before it.
use Rattle.std.specs.Prelude.{◌≡◌, true, List, [], ◌∷◌, ◌++◌, Result, Ok, Err, ⊤}
use Rattle.am_script.specs.Script.{Misfits, has_its_moment, is_well_named}
use Rattle.am_script.specs.declared.command.Line.{Line}
use Rattle.am_script.specs.declared.script.ScriptFault.{ScriptFault}
use Rattle.am_script.specs.declared.script.ScriptFault.TheVariants.{Refused, NoMemory}

-- what following one line answers after earlier ones: it fits, or it is refused by its number
abbrev pub FollowsLine : List Line → Line → Result (Unit {0}) ScriptFault → Type 0
FollowsLine earlier line (Ok _) =
    (has_its_moment earlier line ≡ true) × (is_well_named earlier line ≡ true)
FollowsLine earlier line (Err (Refused refusal)) =
    (refusal.number ≡ line.number) × Misfits earlier line refusal.fault
FollowsLine earlier line (Err NoMemory) = ⊤

-- what following lines answers: each fits, or the first that doesn't is refused
pub data FollowsEach : List Line → List Line → Result (Unit {0}) ScriptFault → Type 0 where
  ended : {earlier : List Line} → FollowsEach earlier [] (Ok tt)
  misfits : {earlier lines : List Line} {line : Line} {fault : ScriptFault}
      → FollowsLine earlier line (Err fault) → FollowsEach earlier (line ∷ lines) (Err fault)
  fits : {earlier lines : List Line} {line : Line} {end : Result (Unit {0}) ScriptFault}
      → FollowsLine earlier line (Ok tt) → FollowsEach (earlier ++ line ∷ []) lines end
      → FollowsEach earlier (line ∷ lines) end
