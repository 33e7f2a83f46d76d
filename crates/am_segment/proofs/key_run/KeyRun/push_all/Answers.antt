use Rattle.std.proofs.Common.{◌≡◌, ◌<◌, ◌++◌, ◌∷◌, [], length, length-append, MatchOption, subst, arith}
use Rattle.am_segment.specs.Segments.{rest_of}
use Rattle.am_segment.proofs.Shares.{rest-step}
use Rattle.am_segment.proofs.key_run.KeyRun.push_all.Given as given
use Rattle.am_segment.proofs.key_run.KeyRun.push_all.Goals as goal
use Rattle.am_segment.proofs.key_run.KeyRun.push_all.Goals.{After-next-key}

-- the list has one key more, and is not yet full before
step : (g : given.Over) (c : After-next-key g) → let run = c.in-Some.run' in let out = c.loop-rest.keys.items in let all = c.args.keys.items ++ rest_of c.args.self in
    (length out < length all) × MatchOption c.next-key.result.1 (out ++ run ∷ [] ≡ all) (λ rest. (out ++ run ∷ []) ++ rest_of rest ≡ all)
step g c = let out = c.loop-rest.keys.items in let all = c.args.keys.items ++ rest_of c.args.self in
    rest-step c.in-Some.run' c.next-key.result.1 out all c.next-key.ensures.rest
    (subst (λ rest. MatchOption rest (out ≡ all) (λ next. out ++ rest_of next ≡ all)) c.in-Some.is c.loop-rest.invariant.keys)

pub push_reserved-requires : goal.push_reserved-requires
push_reserved-requires g c = grind (arith, step, length-append)

pub loop-rest-preserved : goal.loop-rest-preserved
loop-rest-preserved g c = grind (arith, step)
