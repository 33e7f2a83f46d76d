use Rattle.am_cast_tests.proofs.sleepers.run_of.Given as goal

abbrev pub ghosts-run : goal.ghosts-run
ghosts-run g a = record { table = a.parts.board.shared.table_id }
