use Rattle.std.proofs.Common.{◌≡◌, ◌++◌, flat_map, string_bytes, take}
use Rattle.am_script.specs.JsonLines.{about_line, object_line}
use Rattle.am_answers.specs.PrintingJson.{answer_members}
use Rattle.am_answers.proofs.answer_json.write_objects.Given as goal

-- the objects of the answers so far are written
abbrev pub invariant-loop-answer : goal.invariant-loop-answer
invariant-loop-answer l = string_bytes l.text ≡ string_bytes l.initial.text ++ flat_map (λ one. object_line (about_line l.number (answer_members one))) (take l.answer-index l.given)
