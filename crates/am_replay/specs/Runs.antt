-- A script's run on a new provider.
use Rattle.std.specs.Prelude.{◌≡◌, Bool, List, length}
use Rattle.am_store.specs.Journal.{posts_of}
use Rattle.am_store.specs.Journal.{journal_of}
use Rattle.am_provider.specs.BookView.{places_of}
use Rattle.am_provider.specs.declared.answers.Counts.{Counts}
use Rattle.am_provider.specs.declared.settled.Settled.{Settled}
use Rattle.am_runner.specs.Sessions.{Setting}
use Rattle.am_threads.specs.WholeRuns.{IsWholeRun}
use Rattle.am_config.specs.declared.config.Config.{Config}
use Rattle.am_script.specs.declared.command.Line.{Line}
use Rattle.am_replay.specs.declared.transcript.Transcript.{Transcript}

-- the places, the posts and the stored alerts of a settled provider's journal and store
pub record AreCountsOf (settled : Settled) (counts : Counts) : Type 0 where
  pub places : counts.places ≡ places_of (journal_of settled.journal)
  pub posts : counts.posts ≡ posts_of (journal_of settled.journal)
  pub stored : counts.stored ≡ length settled.store.entries

-- The eight threads ran the lines on a provider of their own, and settled it. The transcript has the lines
-- with their answers, and the counts are those of the journal that is left.
pub record IsRun (ordered : Bool) (config : Config) (setting : Setting) (lines : List Line)
    (transcript : Transcript) (settled : Settled) : Type 0 where
  pub script : transcript.lines.items ≡ lines
  pub ran : IsWholeRun ordered config setting lines transcript.answers.items settled
  pub counts : AreCountsOf settled transcript.counts
