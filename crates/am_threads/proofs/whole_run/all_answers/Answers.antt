use Rattle.am_threads.proofs.WholeRuns.{one_more_kept}
use Rattle.am_threads.proofs.whole_run.all_answers.Goals as goal

pub loop-given-preserved : goal.loop-given-preserved
loop-given-preserved c =
    one_more_kept c.loop-given.yielded c.loop-given.all.items c.push.new.self.items c.in-Some.given c.in_ok-given.field-0 c.loop-given.invariant c.in_ok-given.was c.in_ok-push.ensures.items
