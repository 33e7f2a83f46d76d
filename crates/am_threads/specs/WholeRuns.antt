-- A script's run on a new provider, from the provider's beginning to its end.
use Rattle.std.specs.Prelude.{Bool, List}
use Rattle.std.specs.Global.{Vec}
use Rattle.am_provider.specs.declared.settled.Settled.{Settled}
use Rattle.am_config.specs.declared.config.Config.{Config}
use Rattle.am_script.specs.declared.command.Line.{Line}
use Rattle.am_answers.specs.declared.answer.Answer.{Answer}
use Rattle.am_runner.specs.Sessions.{Setting}
use Rattle.am_runner.specs.Turning.{order_of}
use Rattle.am_threads.specs.Working.{IsWork}
use Rattle.sinnoraku.specs.Runs.{IsCrewRun}

-- A crew of eight ran the lines under one configuration, each thread its own, and these are their
-- answers. Their callers settled the provider. Its one history has one entry for each accepted call of a
-- line and for each subscription that was left at the end, and no other entry. Each line's answer is the
-- one that the history gives at its place. If the lines are run in order, their turns are one list in the
-- order of the script. Then, when a line's turn began, its thread had seen all that was done in the turns
-- before it.
abbrev pub IsWholeRun : Bool → Config → Setting → List Line → List (Vec (Vec Answer)) → Settled → Type 0
IsWholeRun ordered config setting lines answers settled = IsCrewRun (λ turns thread pass front given.
    IsWork config setting (order_of ordered turns) lines thread given.items pass front) 8 answers settled
