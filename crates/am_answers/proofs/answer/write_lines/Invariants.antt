use Rattle.std.proofs.Common.{◌≡◌, ◌++◌, take, string_bytes}
use Rattle.am_answers.specs.Printing.{answers_text}
use Rattle.am_answers.proofs.answer.write_lines.Given as goal

-- the answers so far are written
abbrev pub invariant-loop-answer : goal.invariant-loop-answer
invariant-loop-answer l = string_bytes l.text ≡ string_bytes l.initial.text ++ answers_text l.number (take l.answer-index l.given)
