use Rattle.am_bench.proofs.log.time.Given as goal

abbrev pub ghosts-run : goal.ghosts-run
ghosts-run g a = record { table = a.parts.board.shared.table_id }
