use Rattle.am_cast_tests.proofs.threads.beside_of.Given as goal

abbrev pub ghosts-beside : goal.ghosts-beside
ghosts-beside g a = record { table = a.parts.board.shared.table_id }
