use Rattle.am_cast.proofs.KindLaws.{clears_law}
use Rattle.am_cast.proofs.laws.a_clear_is_silent.Goals as goal

pub returns : goal.returns
returns g c = clears_law _ _ _ g.R.Keyed.key
