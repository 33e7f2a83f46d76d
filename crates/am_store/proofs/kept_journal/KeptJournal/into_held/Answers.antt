use Rattle.std.proofs.Common.{◌-◌, subst}
use Rattle.am_store.specs.Journal.{journal_of}
use Rattle.am_store.specs.Trims.{IsTrimmed}
use Rattle.am_store.specs.KeptJournals.{KeptView}
use Rattle.am_store.proofs.KeptJournals.{held_trimmed}
use Rattle.am_store.proofs.kept_journal.KeptJournal.into_held.Goals as goal

pub returns-clause-held : goal.returns-clause-held
returns-clause-held c =
    subst (λ (v : KeptView). IsTrimmed v.journal (v.gone - v.journal.before) (journal_of c.self.inside.held)) c.self.view_is
    (held_trimmed _ _ c.self.inside.held c.self.invariant)
