use Rattle.am_cast_tests.proofs.threads.races.race_of.Given as goal

abbrev pub ghosts-race : goal.ghosts-race
ghosts-race g a = record { table = a.parts.board.shared.table_id }
