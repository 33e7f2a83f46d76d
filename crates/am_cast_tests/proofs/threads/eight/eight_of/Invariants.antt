use Rattle.am_cast_tests.proofs.threads.eight.eight_of.Given as goal

abbrev pub ghosts-eight_in : goal.ghosts-eight_in
ghosts-eight_in g a = record { table = a.parts.board.shared.table_id }
