use Rattle.am_threads.proofs.Owed.{read_is_due, reads_continue}
use Rattle.am_threads.proofs.laws.reading_laws.Goals as goal

pub returns : goal.returns
returns c = record { items = reads_continue; due = read_is_due c.history_laws.ensures.front }
