use Rattle.am_cast.proofs.Shown.{freed_for}
use Rattle.am_cast.proofs.laws.the_writer_knows_what_is_freed.Goals as goal

pub returns : goal.returns
returns g c = freed_for g.R.Keyed.key
