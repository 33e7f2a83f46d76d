use Rattle.am_cast.proofs.Splits.{deals_as}
use Rattle.am_cast.proofs.laws.a_deal_is_silent.Goals as goal

pub returns : goal.returns
returns g c = deals_as g.R.Keyed.key
