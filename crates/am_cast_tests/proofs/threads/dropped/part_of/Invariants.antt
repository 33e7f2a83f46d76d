use Rattle.am_cast_tests.proofs.threads.dropped.part_of.Given as goal

abbrev pub ghosts-part_in : goal.ghosts-part_in
ghosts-part_in g a = record { table = a.parts.board.shared.table_id }
