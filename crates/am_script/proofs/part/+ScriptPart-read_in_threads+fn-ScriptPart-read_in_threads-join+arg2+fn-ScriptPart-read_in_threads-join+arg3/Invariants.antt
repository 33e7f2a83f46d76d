use Rattle.am_script.proofs.part.+ScriptPart-read_in_threads+fn-ScriptPart-read_in_threads-join+arg2+fn-ScriptPart-read_in_threads-join+arg3.Given as goal

abbrev pub decreases-ScriptPart::read_in_threads : goal.decreases-ScriptPart::read_in_threads
decreases-ScriptPart::read_in_threads g l = l.threads

abbrev pub decreases-join+arg2 : goal.decreases-join+arg2
decreases-join+arg2 g l = l.others

abbrev pub decreases-join+arg3 : goal.decreases-join+arg3
decreases-join+arg3 g l = l.own
