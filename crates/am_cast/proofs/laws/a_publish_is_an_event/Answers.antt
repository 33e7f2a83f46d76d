use Rattle.am_cast.proofs.KindLaws.{publishes_law}
use Rattle.am_cast.proofs.laws.a_publish_is_an_event.Goals as goal

pub returns : goal.returns
returns g c = publishes_law _ _ _ g.R.Keyed.key
