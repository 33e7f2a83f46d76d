use Rattle.am_cast.proofs.Splits.{hands_as}
use Rattle.am_cast.proofs.laws.a_hand_is_silent.Goals as goal

pub returns : goal.returns
returns g c = hands_as g.R.Keyed.key
