use Rattle.am_cast.proofs.KindLaws.{gathers_law}
use Rattle.am_cast.proofs.laws.a_gather_is_silent.Goals as goal

pub returns : goal.returns
returns g c = gathers_law _ _ _ g.R.Keyed.key
