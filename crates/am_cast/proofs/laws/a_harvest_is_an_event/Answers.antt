use Rattle.am_cast.proofs.KindLaws.{harvests_law}
use Rattle.am_cast.proofs.laws.a_harvest_is_an_event.Goals as goal

pub returns : goal.returns
returns g c = harvests_law _ _ _ g.R.Keyed.key
