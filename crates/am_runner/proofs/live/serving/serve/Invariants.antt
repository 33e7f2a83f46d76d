use Rattle.std.proofs.Common.{◌≡◌}
use Rattle.am_runner.specs.Sessions.{setting_of}
use Rattle.am_runner.proofs.live.OneByOne.{SoFar}
use Rattle.am_runner.proofs.live.serving.serve.Given as goal

-- the context is as it was, and the lines before the number were served
abbrev pub invariant-loop-number : goal.invariant-loop-number
invariant-loop-number g l =
    (l.context ≡ l.initial.context)
    × SoFar l.initial.context.config (setting_of g.N.Recorded.places g.N.Recorded.policy l.initial.context.provider.now.resolve_timeout) l.form l.first l.initial.run (g.I.Read.remaining l.initial.input) (g.O.Write.contents l.initial.out)
    l.number l.run (g.I.Read.remaining l.input) (g.O.Write.contents l.out)
