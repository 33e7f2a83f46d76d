use Rattle.std.proofs.Common.{◌≡◌, ◌++◌, map, take}
use Rattle.json.specs.Token as token
use Rattle.am_script.proofs.json_line.JsonLine.elements.Given as goal

-- the texts so far are written
abbrev pub invariant-loop-text : goal.invariant-loop-text
invariant-loop-text l = l.self ≡ l.initial.self ++ map token.string (take l.text-index l.texts)
