use Rattle.am_cast_tests.proofs.owned.drop_of.Given as goal

abbrev pub ghosts-drop_in : goal.ghosts-drop_in
ghosts-drop_in a = record { table = a.parts.board.shared.table_id }
