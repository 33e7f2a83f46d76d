use Rattle.am_cast.proofs.KindLaws.{recovers_law}
use Rattle.am_cast.proofs.laws.a_recovery_is_an_event.Goals as goal

pub returns : goal.returns
returns g c = recovers_law _ _ _ g.R.Keyed.key
