use Rattle.am_cast.proofs.KindLaws.{reclaims_law}
use Rattle.am_cast.proofs.laws.a_reclaim_is_an_event.Goals as goal

pub returns : goal.returns
returns g c = reclaims_law _ _ _ g.R.Keyed.key
