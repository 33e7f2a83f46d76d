use Rattle.am_cast.proofs.KindLaws.{closes_law}
use Rattle.am_cast.proofs.laws.a_close_is_an_event.Goals as goal

pub returns : goal.returns
returns g c = closes_law _ _ _ g.R.Keyed.key
