use Rattle.am_cast.proofs.KindLaws.{takes_law}
use Rattle.am_cast.proofs.laws.a_take_is_an_event.Goals as goal

pub returns : goal.returns
returns g c = takes_law _ _ _ g.R.Keyed.key
