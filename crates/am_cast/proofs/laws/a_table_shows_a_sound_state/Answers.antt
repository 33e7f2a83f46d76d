use Rattle.am_cast.proofs.Shown.{is_sound}
use Rattle.am_cast.proofs.laws.a_table_shows_a_sound_state.Goals as goal

pub returns : goal.returns
returns g c = is_sound g.R.Keyed.key
