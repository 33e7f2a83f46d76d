use Rattle.am_cast.proofs.KindLaws.{lays_law}
use Rattle.am_cast.proofs.laws.a_lay_is_silent.Goals as goal

pub returns : goal.returns
returns g c = lays_law _ _ _ g.R.Keyed.key
