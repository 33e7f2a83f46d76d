use Rattle.am_cast.proofs.Runs.{runs_as}
use Rattle.am_cast.proofs.laws.a_run_of_steps_is_a_run_of_the_core.Goals as goal

pub returns : goal.returns
returns g c = runs_as g.row.B.Denot g.row.K.Denot g.row.A.Denot g.R.Keyed.key
