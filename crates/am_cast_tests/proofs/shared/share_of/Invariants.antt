use Rattle.am_cast_tests.proofs.shared.share_of.Given as goal

abbrev pub ghosts-share : goal.ghosts-share
ghosts-share g a = record { table = a.parts.board.shared.table_id }
