use Rattle.am_bench.proofs.provider.run.Given as goal

abbrev pub ghosts-run_ready-N-Feed : goal.ghosts-run_ready-N-Feed
ghosts-run_ready-N-Feed g a = record { table = a.parts.log.board.shared.table_id }

abbrev pub ghosts-run_ready-N-Ledger : goal.ghosts-run_ready-N-Ledger
ghosts-run_ready-N-Ledger g a = record { name = a.parts.ledger.name; parts = a.parts.ledger.parts }
