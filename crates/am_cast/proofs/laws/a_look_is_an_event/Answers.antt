use Rattle.am_cast.proofs.KindLaws.{looks_law}
use Rattle.am_cast.proofs.laws.a_look_is_an_event.Goals as goal

pub returns : goal.returns
returns g c = looks_law _ _ _ g.R.Keyed.key
