use Rattle.am_cast.proofs.KindLaws.{leaves_full_law}
use Rattle.am_cast.proofs.laws.a_leave_with_a_key_is_an_event.Goals as goal

pub returns : goal.returns
returns g c = leaves_full_law _ _ _ g.R.Keyed.key
