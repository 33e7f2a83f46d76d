use Rattle.am_cast.proofs.KindLaws.{reaches_law}
use Rattle.am_cast.proofs.laws.a_reach_is_silent.Goals as goal

pub returns : goal.returns
returns g c = reaches_law _ _ _ g.R.Keyed.key
