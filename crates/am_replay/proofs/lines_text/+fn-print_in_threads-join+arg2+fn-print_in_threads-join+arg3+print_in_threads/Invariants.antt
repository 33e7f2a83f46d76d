use Rattle.am_replay.proofs.lines_text.+fn-print_in_threads-join+arg2+fn-print_in_threads-join+arg3+print_in_threads.Given as goal

abbrev pub decreases-print_in_threads : goal.decreases-print_in_threads
decreases-print_in_threads g l = l.threads

abbrev pub decreases-join+arg2 : goal.decreases-join+arg2
decreases-join+arg2 g l = l.others

abbrev pub decreases-join+arg3 : goal.decreases-join+arg3
decreases-join+arg3 g l = l.own
