use Rattle.std.proofs.Common.{◌≡◌, ◌+◌, drop}
use Rattle.am_answers.specs.Showing.{run_from}
use Rattle.am_answers.proofs.showing.count_run.Given as goal

-- all so far follow one another, and then those that are left
abbrev pub invariant-loop-index : goal.invariant-loop-index
invariant-loop-index l =
    run_from (l.fn.from + 1) l.fn.places ≡ l.index + run_from (l.fn.from + 1 + l.index) (drop l.index l.fn.places)
