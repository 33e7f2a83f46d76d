use Rattle.std.proofs.Common.{subst}
use Rattle.am_runner.specs.Sessions.{setting_of}
use Rattle.am_runner.specs.Turning.{order_of}
use Rattle.sinnoraku.specs.Runs.{IsCrewRun}
use Rattle.am_threads.specs.Working.{IsWork}
use Rattle.am_threads.proofs.WholeRuns.{with_memory}
use Rattle.am_threads.proofs.whole_run.run_configured.Goals as goal

pub returns : goal.returns
returns g c =
    let answers = c.in_ok-answers.answers.items in
    let settled = c.in_ok-outcomes.settled in
    subst (λ count. IsCrewRun (λ turns thread pass front given. IsWork (g.C.Configured.shown c.args.config.now) (setting_of c.args.limits.places c.args.limits.policy c.args.limits.resolve_timeout) (order_of g.T.Turns.ordered turns) c.args.lines.now thread given.items pass front) count answers settled) c.requires.callers
    (with_memory (λ turns thread pass front given. IsWork (g.C.Configured.shown c.args.config.now) (setting_of c.args.limits.places c.args.limits.policy c.args.limits.resolve_timeout) (order_of g.T.Turns.ordered turns) c.args.lines.now thread given.items pass front)
    c.args.limits.callers c.in_ok-outcomes.outcomes.items answers settled c.in_ok-outcomes.ensures c.in_ok-answers.ensures)
