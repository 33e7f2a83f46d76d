use Rattle.am_cast.proofs.KindLaws.{admits_law}
use Rattle.am_cast.proofs.laws.an_admit_is_an_event.Goals as goal

pub returns : goal.returns
returns g c = admits_law _ _ _ g.R.Keyed.key
