use Rattle.std.proofs.Common.{◌≡◌, Ok, map}
use Rattle.am_threads.proofs.whole_run.all_answers.Given as goal

-- what the threads so far answered
abbrev pub invariant-loop-given : goal.invariant-loop-given
invariant-loop-given l = l.yielded ≡ map Ok l.all.items
