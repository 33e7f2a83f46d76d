use Rattle.am_cast.proofs.Shown.{freed_is_home}
use Rattle.am_cast.proofs.laws.a_freed_place_has_no_key_out.Goals as goal

pub returns : goal.returns
returns g c = freed_is_home g.R.Keyed.key
