use Rattle.std.proofs.Common.{◌≡◌, ◌++◌, drop, string_bytes}
use Rattle.am_answers.specs.Showing.{kept_text}
use Rattle.am_answers.proofs.showing.write_runs.Given as goal

-- what was printed so far, and then what is left
abbrev pub invariant-loop-index : goal.invariant-loop-index
invariant-loop-index l =
    string_bytes l.text ++ kept_text l.fn.number l.index l.before (drop l.index l.fn.places)
    ≡ string_bytes l.fn.text ++ kept_text l.fn.number 0 0 l.fn.places
