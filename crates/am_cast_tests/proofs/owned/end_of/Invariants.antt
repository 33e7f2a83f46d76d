use Rattle.am_cast_tests.proofs.owned.end_of.Given as goal

abbrev pub ghosts-end_in : goal.ghosts-end_in
ghosts-end_in a = record { table = a.parts.board.shared.table_id }
