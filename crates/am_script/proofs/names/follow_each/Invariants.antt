use Rattle.std.proofs.Common.{Result, [], take, drop}
use Rattle.am_script.specs.Names.{HoldsNames}
use Rattle.am_script.specs.declared.script.ScriptFault.{ScriptFault}
use Rattle.am_script.specs.inside.Following.{FollowsEach}
use Rattle.am_script.proofs.names.follow_each.Given as goal

abbrev pub invariant-loop-line : goal.invariant-loop-line
invariant-loop-line l =
    HoldsNames l.names (take l.line-index l.lines)
    × ((end : Result (Unit {0}) ScriptFault) → FollowsEach (take l.line-index l.lines) (drop l.line-index l.lines) end → FollowsEach [] l.lines end)
