use Rattle.sinnoraku.proofs.crew_threads.run_threads.Given as goal

abbrev pub ghosts-run_registered : goal.ghosts-run_registered
ghosts-run_registered g a = record {
  timeline = a.taken.board.shared.table_id;
  entries = a.taken.ledger.name;
  holders = a.taken.ledger.parts;
}
