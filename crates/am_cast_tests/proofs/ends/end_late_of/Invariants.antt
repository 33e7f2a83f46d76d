use Rattle.am_cast_tests.proofs.ends.end_late_of.Given as goal

abbrev pub ghosts-end_late : goal.ghosts-end_late
ghosts-end_late a = record { table = a.parts.board.shared.table_id }
