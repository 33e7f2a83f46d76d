use Rattle.am_cast.proofs.Splits.{weighs_as}
use Rattle.am_cast.proofs.laws.a_weigh_is_silent.Goals as goal

pub returns : goal.returns
returns g c = weighs_as g.R.Keyed.key
