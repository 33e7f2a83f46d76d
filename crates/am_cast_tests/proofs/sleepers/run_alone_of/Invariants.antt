use Rattle.am_cast_tests.proofs.sleepers.run_alone_of.Given as goal

abbrev pub ghosts-run_alone : goal.ghosts-run_alone
ghosts-run_alone g a = record { table = a.parts.board.shared.table_id }
