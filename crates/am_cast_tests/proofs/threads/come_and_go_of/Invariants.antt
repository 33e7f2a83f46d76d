use Rattle.am_cast_tests.proofs.threads.come_and_go_of.Given as goal

abbrev pub ghosts-come_and_go : goal.ghosts-come_and_go
ghosts-come_and_go a = record { table = a.parts.board.shared.table_id }
