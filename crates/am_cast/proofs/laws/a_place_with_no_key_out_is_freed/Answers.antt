use Rattle.am_cast.proofs.Shown.{home_is_freed}
use Rattle.am_cast.proofs.laws.a_place_with_no_key_out_is_freed.Goals as goal

pub returns : goal.returns
returns g c = home_is_freed g.R.Keyed.key
