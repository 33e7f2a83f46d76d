use Rattle.std.proofs.Common.{◌≡◌, List, false, take}
use mathlib.Core.List.{IsPrefix}
use Rattle.am_history.specs.Fronts.{FrontView}
use Rattle.am_provider.specs.Histories.{EntryView}
use Rattle.am_runner.specs.Sessions.{setting_of}
use Rattle.am_runner.specs.Turning.{order_of}
use Rattle.am_threads.specs.Working.{Works}
use Rattle.am_threads.proofs.work.run_lines.Given as goal

-- the context is as it was, and unless memory ran out, the lines so far were run
abbrev pub invariant-loop-at : goal.invariant-loop-at
invariant-loop-at g l = (l.context ≡ l.initial.context) × (l.failed ≡ false → (turns : List (FrontView EntryView)) → IsPrefix l.seen.seen turns
    → Works l.initial.context.config (setting_of g.N.Recorded.places g.N.Recorded.policy l.initial.context.provider.now.resolve_timeout) (order_of g.T.Turns.ordered turns) l.thread 0 l.initial.session (take l.at l.lines) l.answers.items l.session)
