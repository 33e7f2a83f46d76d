use Rattle.std.proofs.Common.{◌≡◌, ◌-◌, ◌++◌, length, vec_capacity, MatchOption}
use Rattle.am_segment.specs.Segments.{rest_of}
use Rattle.am_segment.proofs.key_run.KeyRun.push_all.Given as goal

abbrev pub invariant-loop-rest : goal.invariant-loop-rest
invariant-loop-rest g l = let all = l.fn.keys.items ++ rest_of l.fn.self in record {
  keys : MatchOption l.rest (l.keys.items ≡ all) (λ next. l.keys.items ++ rest_of next ≡ all);
  capacity : vec_capacity l.keys ≡ vec_capacity l.fn.keys;
}

abbrev pub decreases-loop-rest : goal.decreases-loop-rest
decreases-loop-rest g l = vec_capacity l.keys - length l.keys.items
