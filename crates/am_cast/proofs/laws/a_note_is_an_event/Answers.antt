use Rattle.am_cast.proofs.Notes.{notes_as}
use Rattle.am_cast.proofs.laws.a_note_is_an_event.Goals as goal

pub returns : goal.returns
returns g c = notes_as g.R.Keyed.key
