use Rattle.am_cast.proofs.Cursors.{shown_all}
use Rattle.am_cast.proofs.laws.a_cursor_at_the_end_has_shown_all.Goals as goal

pub returns : goal.returns
returns g c = shown_all
