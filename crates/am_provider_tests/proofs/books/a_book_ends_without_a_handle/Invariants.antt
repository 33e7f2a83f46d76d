use Rattle.am_provider_tests.proofs.books.a_book_ends_without_a_handle.Given as goal

abbrev pub ghosts-spend_over-N-Feed : goal.ghosts-spend_over-N-Feed
ghosts-spend_over-N-Feed g a = record { table = a.parts.log.board.shared.table_id }

abbrev pub ghosts-spend_over-N-Ledger : goal.ghosts-spend_over-N-Ledger
ghosts-spend_over-N-Ledger g a = record { name = a.parts.ledger.name; parts = a.parts.ledger.parts }
