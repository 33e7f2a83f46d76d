use Rattle.am_store.specs.inside.Journals.{AreDropped}
use Rattle.am_store.proofs.journal.Journal.drop_first.Given as goal

abbrev pub invariant-loop : goal.invariant-loop
invariant-loop l = AreDropped l.fn.self l.counter l.self
