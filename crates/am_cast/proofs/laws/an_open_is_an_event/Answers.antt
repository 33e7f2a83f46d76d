use Rattle.am_cast.proofs.KindLaws.{opens_law}
use Rattle.am_cast.proofs.laws.an_open_is_an_event.Goals as goal

pub returns : goal.returns
returns g c = opens_law _ _ _ g.R.Keyed.key
