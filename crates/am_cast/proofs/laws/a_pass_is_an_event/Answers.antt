use Rattle.am_cast.proofs.KindLaws.{passes_law}
use Rattle.am_cast.proofs.laws.a_pass_is_an_event.Goals as goal

pub returns : goal.returns
returns g c = passes_law _ _ _ g.R.Keyed.key
