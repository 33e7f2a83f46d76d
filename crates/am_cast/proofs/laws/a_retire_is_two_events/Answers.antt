use Rattle.am_cast.proofs.KindLaws.{retires_law}
use Rattle.am_cast.proofs.laws.a_retire_is_two_events.Goals as goal

pub returns : goal.returns
returns g c = retires_law _ _ _ g.R.Keyed.key
