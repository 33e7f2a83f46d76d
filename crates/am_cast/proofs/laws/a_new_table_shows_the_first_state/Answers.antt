use Rattle.am_cast.proofs.Begins.{begins_as}
use Rattle.am_cast.proofs.laws.a_new_table_shows_the_first_state.Goals as goal

pub returns : goal.returns
returns g c = begins_as g.R.Keyed.key
