use Rattle.am_cast_tests.proofs.longest.run_of.Given as goal

abbrev pub ghosts-run : goal.ghosts-run
ghosts-run a = record { table = a.parts.board.shared.table_id }
