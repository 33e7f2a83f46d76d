use Rattle.am_cast_tests.proofs.ends.let_go_of.Given as goal

abbrev pub ghosts-let_go : goal.ghosts-let_go
ghosts-let_go a = record { table = a.parts.board.shared.table_id }
