use Rattle.std.proofs.Common.{◌≡◌, ◌++◌, flat_map, string_bytes, take}
use Rattle.am_answers.specs.Showing.{came_words}
use Rattle.am_answers.proofs.showing.write_all_words.Given as goal

-- what was printed of those so far
abbrev pub invariant-loop-answer : goal.invariant-loop-answer
invariant-loop-answer l =
    string_bytes l.text ≡ string_bytes l.fn.text ++ flat_map (came_words l.fn.number l.fn.name) (take l.answer-index l.fn.given)
