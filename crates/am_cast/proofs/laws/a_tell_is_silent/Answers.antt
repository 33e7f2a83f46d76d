use Rattle.am_cast.proofs.Splits.{tells_as}
use Rattle.am_cast.proofs.laws.a_tell_is_silent.Goals as goal

pub returns : goal.returns
returns g c = tells_as g.R.Keyed.key
