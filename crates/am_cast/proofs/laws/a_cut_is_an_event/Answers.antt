use Rattle.am_cast.proofs.KindLaws.{cuts_law}
use Rattle.am_cast.proofs.laws.a_cut_is_an_event.Goals as goal

pub returns : goal.returns
returns g c = cuts_law _ _ _ g.R.Keyed.key
