use Rattle.sinnoraku.proofs.crew.run_crew.Given as goal

abbrev pub ghosts-run_over-N-Feed : goal.ghosts-run_over-N-Feed
ghosts-run_over-N-Feed g a = record { table = a.parts.log.board.shared.table_id }

abbrev pub ghosts-run_over-N-Ledger : goal.ghosts-run_over-N-Ledger
ghosts-run_over-N-Ledger g a = record { name = a.parts.ledger.name; parts = a.parts.ledger.parts }

abbrev pub ghosts-run_over-N-Timeline : goal.ghosts-run_over-N-Timeline
ghosts-run_over-N-Timeline g a = record {
  timeline = a.parts.history.board.shared.table_id;
  entries = a.parts.history.ledger.name;
  holders = a.parts.history.ledger.parts;
}

abbrev pub ghosts-run_over-N-Recorded : goal.ghosts-run_over-N-Recorded
ghosts-run_over-N-Recorded g a = record { places = a.parts.log.places; policy = a.limits.policy }
