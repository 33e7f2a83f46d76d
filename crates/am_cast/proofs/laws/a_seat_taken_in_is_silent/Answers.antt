use Rattle.am_cast.proofs.Splits.{hears_as}
use Rattle.am_cast.proofs.laws.a_seat_taken_in_is_silent.Goals as goal

pub returns : goal.returns
returns g c = hears_as g.R.Keyed.key
